-- Hexadecimal digits.
use Rattle.std.specs.Prelude.{ℕ, ◌-◌, false, List, ◌++◌, length, replicate}
use Rattle.std.specs.Fmt.{digits}

-- lower-case hexadecimal digits, with zeros before them up to this width
abbrev pub hex : ℕ → ℕ → List ℕ
hex width n = replicate (width - length (digits 16 false n)) 48 ++ digits 16 false n
