use Rattle.std.proofs.Common.{◌≡◌, ◌+◌, ◌-◌, ◌*◌, ap, ◌∙◌, arith}
use Rattle.rsim_base.specs.Bytes.{count_of}
use Rattle.image_memory.proofs.Digits.{digits, digits-part, mod-pow-lt}
use Rattle.image_memory.proofs.parts.part.Goals as goal

pub returns-clause-bytes : goal.returns-clause-bytes
returns-clause-bytes c = λ k below.
    let count = count_of c.args.n in
    let r = 8 * (count - 1 - k) in
    let place : c.shift.result + r ≡ 8 * (8 - 1 - (c.args.at + k)) = omega (arith, c.shift.ensures, c.requires, below) in
    ap (λ n. digits n r) c.low.ensures ∙ digits-part c.args.doubleword c.shift.result (8 * count) r (omega (arith, below)) ∙ ap (digits c.args.doubleword) place

pub returns-clause-fits : goal.returns-clause-fits
returns-clause-fits c = rw c.low.ensures (mod-pow-lt _ (8 * count_of c.args.n))
