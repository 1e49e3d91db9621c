-- Lines of whole doublewords.
use Rattle.std.proofs.Common.{◌≡◌, ℕ, ◌*◌, ◌/◌, ◌%◌, arith, ap, ◌∙◌}
use Rattle.std.proofs.Math.Nat.{div-div-eq-div-mul}

-- the line of a byte is that of its doubleword
pub line-doubleword : (a line : ℕ) → line % 8 ≡ 0 → a / 8 / (line / 8) ≡ a / line
line-doubleword a line doublewords =
    let whole : 8 * (line / 8) ≡ line = omega (arith, doublewords) in
    div-div-eq-div-mul a 8 (line / 8) ∙ ap (λ n. a / n) whole
