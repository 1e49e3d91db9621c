-- How a configuration is written: lines of a key and its value.
use Rattle.std.specs.Prelude.{ℕ, ◌-◌, ◌==◌, Bool, not, ◌&&◌, ◌||◌, nat_le, List, length, take, drop, reverse}
use Rattle.std.specs.List.{slice_split, position_or_len, before_first, after_first}
use Rattle.std.specs.Str.{all_ascii_digits}

-- line feed, carriage return, tab, or a printing character of ASCII
abbrev pub is_text : ℕ → Bool
is_text b = b == 10 || b == 13 || b == 9 || (nat_le 0x20 b && nat_le b 0x7E)

-- A line feed ends a line, and the last line needs none.
abbrev pub lines : List ℕ → List (List ℕ)
lines text = slice_split (λ b. b == 10) text

-- space, tab and carriage return part words
abbrev pub is_blank : ℕ → Bool
is_blank b = b == 0x20 || b == 9 || b == 13

-- how many blanks stand in front of the first word
abbrev pub blanks : List ℕ → ℕ
blanks xs = position_or_len (λ b. not (is_blank b)) xs

-- without the blanks in front, and without those at the end
abbrev pub trimmed_front : List ℕ → List ℕ
trimmed_front xs = drop (blanks xs) xs

abbrev pub trimmed_end : List ℕ → List ℕ
trimmed_end xs = take (length xs - blanks (reverse xs)) xs

abbrev pub trimmed : List ℕ → List ℕ
trimmed xs = trimmed_end (trimmed_front xs)

-- what a line says: a '#' and what follows it is a comment
abbrev pub said : List ℕ → List ℕ
said line = trimmed (before_first (λ b. b == 0x23) line)

-- the first word, which is empty where the line has no words
abbrev pub key_of : List ℕ → List ℕ
key_of line = before_first is_blank (said line)

-- the rest
abbrev pub value_of : List ℕ → List ℕ
value_of line = trimmed (after_first is_blank (said line))
