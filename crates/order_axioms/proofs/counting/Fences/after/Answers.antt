use Rattle.std.proofs.Common.{◌≡◌, ◌/◌, ◌%◌, ◌∙◌, refl, arith}
use Rattle.order_axioms.proofs.MaskBits.{has_bit}
use Rattle.order_axioms.proofs.counting.Fences.after.Goals as goal

pub returns : goal.returns
returns c =
    let mask = c.from_bits_retain-mask.result.0 in
    let ll : c.count.result ≡ mask % 2 = omega (arith, c.count.ensures ∙ has_bit mask 0) in
    let sl : c.count-2.result ≡ mask / 2 % 2 = c.count-2.ensures ∙ has_bit mask 1 in
    let ls : c.count-3.result ≡ mask / 4 % 2 = c.count-3.ensures ∙ has_bit mask 2 in
    let ss : c.count-4.result ≡ mask / 8 % 2 = c.count-4.ensures ∙ has_bit mask 3 in
    rw (ll, sl, ls, ss, c.from_bits_retain-mask.ensures) refl
