use Rattle.std.proofs.Common.{◌≡◌, ◌+◌, ◌-◌, ◌*◌, ◌<◌, ◌^◌, ◌&&◌, ap, ◌∙◌, nat_le, nat_lt, if◌then◌else◌, arith}
use Rattle.rsim_base.specs.Bytes.{count_of}
use Rattle.rsim_base.specs.ByteSets.{count_of-bounds}
use Rattle.image_memory.proofs.Digits.{digits, digits-low, mod-pow-lt, replaced, replaced-in_64, byte-replaced}
use Rattle.image_memory.proofs.parts.with_part.Goals as goal

pub returns : goal.returns
returns c = λ j below.
    let x = c.args.doubleword in
    let at = c.args.at in
    let count = count_of c.args.n in
    let r = 8 * (8 - 1 - j) in
    let byte = 8 * (count - 1 - (j - at)) in
    let fits : c.low.result < 2 ^ (8 * count) = rw c.low.ensures (mod-pow-lt c.args.value (8 * count)) in
    let same : digits c.low.result byte ≡ digits c.args.value byte =
    ap (λ n. digits n byte) c.low.ensures ∙ digits-low c.args.value (8 * count) byte (omega (arith, (count_of-bounds c.args.n).0)) in
    ap (λ n. digits n r) (replaced-in_64 x c.shift-shift.result (8 * count) c.low-old.result c.low.result c.ranges.doubleword.fits c.low-old.ensures)
    ∙ digits-low (replaced x c.shift-shift.result (8 * count) c.low.result) 64 r (omega (arith, below))
    ∙ ap (λ k. digits (replaced x k (8 * count) c.low.result) r) c.shift-shift.ensures
    ∙ byte-replaced x at count c.low.result j c.requires below fits
    ∙ ap (λ d. if nat_le at j && nat_lt j (at + count) then d else digits x r) same
