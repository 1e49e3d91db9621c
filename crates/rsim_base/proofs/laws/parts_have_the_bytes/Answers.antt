use Rattle.rsim_base.proofs.Parts.{byte-of-part, part-fits}
use Rattle.rsim_base.proofs.laws.parts_have_the_bytes.Goals as goal

pub returns : goal.returns
returns c = λ value n at m within. ((λ b below. byte-of-part value n at m b within below), part-fits value n at m)
