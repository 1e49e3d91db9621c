-- How the reader keeps what it has read: the table as the code has it, and the numbers by their keys' places.
use Rattle.std.specs.Prelude.{◌≡◌, ℕ, List, [], ◌∷◌, ◌++◌, length, map, Some, None, Result, Ok, Err, MatchResult, ⊤}
use Rattle.std.specs.List.{list_any}
use Rattle.machine_config.specs.Text.{lines}
use Rattle.machine_config.specs.Keys.{Values, number, power, word, Key, keys}
use Rattle.machine_config.specs.Allowed.{Allows}
use Rattle.machine_config.specs.Faults.{names, value_fault, line_fault, lines_fault, number_of, given_by}
use Rattle.machine_config.specs.declared.fault.ConfigFault.{ConfigFault}
use Rattle.machine_config.specs.declared.reader.Given.{Given}
use Rattle.machine_config.specs.declared.keys.Key.{Key as CodeKey}
use Rattle.machine_config.specs.declared.values.Values.{Values as CodeValues}
use Rattle.machine_config.specs.declared.values.Values.TheVariants.{Number, Power, Word}

-- ---- the table

abbrev pub values_of : CodeValues → Values
values_of (Number low high) = number low high
values_of (Power low high) = power low high
values_of (Word words) = word (map (λ w. w.now) words.now)

-- what the table has of a key beside the field: as the code has it, and as the definition has it
pub record Row : Type 0 where
  pub name : List ℕ
  pub values : Values
  pub default : ℕ

abbrev pub row_of_code : CodeKey → Row
row_of_code row = record { name = row.name.now; values = values_of row.values; default = row.default }

abbrev pub row_of : Key → Row
row_of key = record { name = key.name; values = key.values; default = key.default }

abbrev pub word_count : Values → ℕ
word_count (number low high) = 0
word_count (power low high) = 0
word_count (word words) = length words

-- ---- one value

abbrev pub ReadsValue : Values → ℕ → List ℕ → Result ℕ ConfigFault → Type 0
ReadsValue values n value (Ok x) = (value_fault values n value ≡ None) × (x ≡ number_of values value)
ReadsValue values n value (Err fault) = value_fault values n value ≡ Some fault

-- ---- the lines so far

-- the numbers are those that rows allow
abbrev pub AreAllowed : List Key → List ℕ → Type 0
AreAllowed [] xs = ⊤
AreAllowed (key ∷ rest) [] = ⊤
AreAllowed (key ∷ rest) (x ∷ xs) = Allows key.values x × AreAllowed rest xs

-- these lines have been read
pub record HasRead (earlier : List (List ℕ)) (given : Given) : Type 0 where
  pub lines : given.lines ≡ length earlier
  pub named : given.named ≡ map (λ key. list_any (names key) earlier) keys
  pub numbers : given.numbers ≡ map (given_by earlier) keys
  pub allowed : AreAllowed keys given.numbers

-- a line behind those that have been read
abbrev pub ReadsLine : Given → Given → List ℕ → Result (Unit {0}) ConfigFault → Type 0
ReadsLine old new line result = (earlier : List (List ℕ)) → HasRead earlier old →
    MatchResult result
    (λ _. (line_fault earlier line ≡ None) × HasRead (earlier ++ line ∷ []) new)
    (λ fault. line_fault earlier line ≡ Some fault)

-- all lines of a text
abbrev pub ReadsLines : List ℕ → Result Given ConfigFault → Type 0
ReadsLines text result = MatchResult result
    (λ given. (lines_fault [] (lines text) ≡ None) × HasRead (lines text) given)
    (λ fault. lines_fault [] (lines text) ≡ Some fault)
