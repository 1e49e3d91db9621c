use Rattle.std.proofs.Common.{◌≡◌, ◌<◌, arith}
use Rattle.rsim_base.specs.Limits.{line_room}
use Rattle.directory.proofs.Bytes.{first-all, first-more, first-none}
use Rattle.directory.proofs.share.Share.first_bytes.Goals as goal

pub loop-place-init : goal.loop-place-init
loop-place-init c = first-none c.args.image.now c.args.self.now.line_bytes c.args.number

pub loop-place-preserved : goal.loop-place-preserved
loop-place-preserved c =
    let s = c.args.self.now in
    let few = s.few in
    let place : c.loop-place.place < line_room = omega (arith, few, c.loop-place-test.true) in
    first-more c.args.image.now s.line_bytes c.args.number c.loop-place.place c.byte.result c.loop-place.bytes place c.byte.type_inv c.loop-place.invariant c.byte.ensures

pub returns : goal.returns
returns c =
    let s = c.args.self.now in
    let whole : c.loop-place.place ≡ s.line_bytes = omega (arith, c.loop-place-test.false, c.loop-place.auto.place-end) in
    first-all c.args.image.now s.line_bytes c.args.number c.loop-place.place c.loop-place.bytes whole c.loop-place.invariant
