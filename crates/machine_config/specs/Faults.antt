-- What can be wrong with a configuration, and which fault is told: the first.
use Rattle.std.specs.Prelude.{◌≡◌, ℕ, ◌+◌, ◌%◌, ◌==◌, Bool, not, ◌&&◌, nat_le, if◌then◌else◌, List, [], ◌∷◌, ◌++◌, length, find, position, All, Option, Some, None, option_map, unwrap_or, Result, Ok, Err}
use Rattle.std.specs.List.{list_any, position_or_len}
use Rattle.std.specs.Int.{is_power_of_two}
use Rattle.std.specs.Option.{option_or}
use Rattle.std.specs.Str.{bytes_eq}
use Rattle.std.specs.Str.Parse.{digits_value}
use Rattle.rsim_base.specs.Decimals.{is_number}
use Rattle.machine_config.specs.Text.{is_text, lines, key_of, value_of}
use Rattle.machine_config.specs.Keys.{Values, number, power, word, Key, keys, processors, mesh_width}
use Rattle.machine_config.specs.declared.config.Config.{Config}
use Rattle.machine_config.specs.declared.fault.ConfigFault.{ConfigFault}
use Rattle.machine_config.specs.declared.fault.ConfigFault.TheVariants.{NotText, UnknownName, Repeated, BadNumber, BadWord, OutOfRange, NotPower, MeshShape, Memory}

-- ---- one line

-- the line names the key
abbrev pub names : Key → List ℕ → Bool
names key line = bytes_eq key.name (key_of line)

-- a number out of its range, and one that is no power of two
abbrev pub range_fault : ℕ → ℕ → ℕ → ℕ → Option ConfigFault
range_fault low high n x = if nat_le low x && nat_le x high then None else Some (OutOfRange n low high)

abbrev pub power_fault : ℕ → ℕ → Option ConfigFault
power_fault n x = if is_power_of_two x then None else Some (NotPower n)

-- what is wrong with the value of a key on line n
abbrev pub value_fault : Values → ℕ → List ℕ → Option ConfigFault
value_fault (number low high) n value =
    if is_number value then range_fault low high n (digits_value 10 value) else Some (BadNumber n)
value_fault (power low high) n value =
    if is_number value then option_or (range_fault low high n (digits_value 10 value)) (power_fault n (digits_value 10 value))
    else Some (BadNumber n)
value_fault (word words) n value = if list_any (bytes_eq value) words then None else Some (BadWord n)

-- what is wrong with a line behind these earlier ones, if this is the key that it names
abbrev pub named_fault : Option Key → List (List ℕ) → List ℕ → Option ConfigFault
named_fault None earlier line = Some (UnknownName (length earlier + 1))
named_fault (Some key) earlier line =
    if list_any (names key) earlier then Some (Repeated (length earlier + 1))
    else value_fault key.values (length earlier + 1) (value_of line)

-- A line without words is nothing.
abbrev pub line_fault : List (List ℕ) → List ℕ → Option ConfigFault
line_fault earlier line =
    if length (key_of line) == 0 then None else named_fault (find (λ key. names key line) keys) earlier line

-- ---- the whole text

-- the first faulty line of these, which stand behind the earlier ones
abbrev pub lines_fault : List (List ℕ) → List (List ℕ) → Option ConfigFault
lines_fault earlier [] = None
lines_fault earlier (line ∷ later) = option_or (line_fault earlier line) (lines_fault (earlier ++ line ∷ []) later)

-- the number that a value means: its digits', or the word's place
abbrev pub number_of : Values → List ℕ → ℕ
number_of (number low high) value = digits_value 10 value
number_of (power low high) value = digits_value 10 value
number_of (word words) value = position_or_len (bytes_eq value) words

-- the number that lines give a key: that of the line which names it, or the default
abbrev pub given_by : List (List ℕ) → Key → ℕ
given_by lines key =
    unwrap_or (option_map (λ line. number_of key.values (value_of line)) (find (names key) lines)) key.default

abbrev pub given : List ℕ → Key → ℕ
given text key = given_by (lines text) key

-- mesh_width must divide processors
abbrev pub shape_fault : List ℕ → Option ConfigFault
shape_fault text = if given text processors % given text mesh_width == 0 then None else Some MeshShape

-- the first byte that is no text, the first faulty line, the shape of the mesh
abbrev pub first_fault : List ℕ → Option ConfigFault
first_fault text =
    option_or (option_map (λ at. NotText at) (position (λ b. not (is_text b)) text))
    (option_or (lines_fault [] (lines text)) (shape_fault text))

-- ---- what is read

-- each key has the number that the text gives it
abbrev pub IsNamedBy : List ℕ → Config → Type 0
IsNamedBy text config = All (λ key. key.of config ≡ given text key) keys

-- what `read` answers
abbrev pub Reads : List ℕ → Result Config ConfigFault → Type 0
Reads text (Ok config) = (first_fault text ≡ None) × IsNamedBy text config
Reads text (Err Memory) = Unit {0}
Reads text (Err fault) = first_fault text ≡ Some fault
