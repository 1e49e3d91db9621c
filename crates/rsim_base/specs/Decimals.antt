-- Numbers that are written in decimal digits.
use Rattle.std.specs.Prelude.{ℕ, ◌&&◌, nat_le, Bool, if◌then◌else◌, List, length, Option, None, Some}
use Rattle.std.specs.Str.{all_ascii_digits}
use Rattle.std.specs.Str.Parse.{digits_value}

-- one to ten decimal digits, and nothing else
abbrev pub is_number : List ℕ → Bool
is_number text = nat_le 1 (length text) && nat_le (length text) 10 && all_ascii_digits text

-- the number that they write
abbrev pub number_of : List ℕ → Option ℕ
number_of text = if is_number text then Some (digits_value 10 text) else None
