-- Hexadecimal digits of a fixed width, as `{n:016x}` and its kin write them.
use Rattle.std.proofs.Common.{◌≡◌, ℕ, ◌-◌, ◌^◌, false, [], append-nil}
use native.Mathlib.Numerals.{unary_clauses}
use Rattle.std.specs.Fmt.{padded_integral, format_spec, char_count, digits}
use Rattle.order_certificate.specs.Hex.{hex}

pub padded_integral-hex : (width n : ℕ) → padded_integral (format_spec 32 0 4 width (2 ^ 64 - 1)) false [] (digits 16 false n) ≡ hex width n
unfolding padded_integral char_count
padded_integral-hex width n = simp (unary_clauses, append-nil)
