use Rattle.order_certificate.proofs.Hex.{value_text-last}
use Rattle.order_certificate.proofs.writing.push_hex.Goals as goal

pub returns : goal.returns
returns c =
    let written = value_text-last c.args.size c.args.value c.count.result c.to_be_bytes.result c.encode_to_slice.new.output c.ranges.value.fits c.count.ensures c.to_be_bytes.ensures c.in-Ok.ensures.written in
    rw written at c.push.ensures
