-- The fault of a whole text, and the configuration of a text that has none.
use Rattle.std.specs.Prelude.{find, position}
use Rattle.std.specs.Int.{is_power_of_two}
use Rattle.std.specs.List.{list_any, AllByRecursion}
use Rattle.std.specs.Option.{option_or}
use Rattle.std.specs.Str.{bytes_eq}
use Rattle.std.specs.Str.Parse.{digits_value}
use Rattle.std.proofs.Common.{◌≡◌, ◌≢◌, ℕ, ◌+◌, ◌%◌, ◌<◌, ◌==◌, Bool, true, false, not, cond, List, [], ◌∷◌, ◌++◌, map, length, get_or, Option, Some, None, Err, refl, sym, ap, ◌∙◌, arith}
use Rattle.std.proofs.lemmas.Bool.{ne_eqb}
use Rattle.std.proofs.lemmas.List.{get_or-map}
use Rattle.rsim_base.specs.Decimals.{is_number}
use Rattle.machine_config.specs.Text.{is_text, lines, key_of, value_of}
use Rattle.machine_config.specs.Keys.{Values, number, power, word, Key, keys, processors, mesh_width}
use Rattle.machine_config.specs.Allowed.{Allows, IsAllowed}
use Rattle.machine_config.specs.Faults.{names, range_fault, power_fault, value_fault, named_fault, line_fault, lines_fault, given, shape_fault, first_fault, IsNamedBy, Reads}
use Rattle.machine_config.specs.Reading.{AreAllowed}
use Rattle.machine_config.specs.declared.config.Config.{Config}
use Rattle.machine_config.specs.declared.fault.ConfigFault.{ConfigFault}
use Rattle.machine_config.specs.declared.fault.ConfigFault.TheVariants.{NotText, UnknownName, Repeated, BadNumber, BadWord, OutOfRange, NotPower, MeshShape, Memory}
use Rattle.machine_config.proofs.Numbers.{is_within, AreAllowed-of}
use Rattle.machine_config.proofs.Table.{length-keys}

-- ---- faults

pub Reads-fault : (text : List ℕ) (fault : ConfigFault) → first_fault text ≡ Some fault → Reads text (Err fault)
Reads-fault text (NotText at) e = e
Reads-fault text (UnknownName n) e = e
Reads-fault text (Repeated n) e = e
Reads-fault text (BadNumber n) e = e
Reads-fault text (BadWord n) e = e
Reads-fault text (OutOfRange n low high) e = e
Reads-fault text (NotPower n) e = e
Reads-fault text MeshShape e = e
Reads-fault text Memory e = tt

pub first_fault-text : (text : List ℕ) (at : ℕ) → position (λ b. not (is_text b)) text ≡ Some at → first_fault text ≡ Some (NotText at)
first_fault-text text at found = rw found refl

pub first_fault-lines : (text : List ℕ) (fault : ConfigFault) → position (λ b. not (is_text b)) text ≡ None → lines_fault [] (lines text) ≡ Some fault
    → first_fault text ≡ Some fault
first_fault-lines text fault none faulty = rw (none, faulty) refl

pub first_fault-shape : (text : List ℕ) → position (λ b. not (is_text b)) text ≡ None → lines_fault [] (lines text) ≡ None
    → first_fault text ≡ shape_fault text
first_fault-shape text none fine = rw (none, fine) refl

pub shape_fault-some : (text : List ℕ) (config : Config) → config.processors ≡ given text processors → config.mesh_width ≡ given text mesh_width
    → config.processors % config.mesh_width ≢ 0 → shape_fault text ≡ Some MeshShape
shape_fault-some text config count width uneven = rw (← count, ← width, ne_eqb _ _ uneven) refl

pub shape_fault-none : (text : List ℕ) (config : Config) → config.processors ≡ given text processors → config.mesh_width ≡ given text mesh_width
    → config.processors % config.mesh_width ≡ 0 → shape_fault text ≡ None
shape_fault-none text config count width even = rw (← count, ← width, even) refl

-- ---- the configuration

-- each key has its number
number-at : (numbers : List ℕ) (config : Config) (text : List ℕ) (k : ℕ) (d : Key) → map (λ key. key.of config) keys ≡ numbers
    → numbers ≡ map (given text) keys → k < length keys → (get_or keys k d).of config ≡ given text (get_or keys k d)
number-at numbers config text k d of_config of_text below =
    sym (get_or-map (λ key. key.of config) keys k d 0 below) ∙ ap (λ xs. get_or xs k 0) (of_config ∙ of_text) ∙ get_or-map (given text) keys k d 0 below

pub IsNamedBy-numbers : (numbers : List ℕ) (config : Config) (text : List ℕ) → map (λ key. key.of config) keys ≡ numbers
    → numbers ≡ map (given text) keys → IsNamedBy text config
IsNamedBy-numbers numbers config text of_config of_text = λ k d below. number-at numbers config text k d of_config of_text below

pub processors-given : (numbers : List ℕ) (config : Config) (text : List ℕ) → map (λ key. key.of config) keys ≡ numbers
    → numbers ≡ map (given text) keys → config.processors ≡ given text processors
unfolding keys
processors-given numbers config text of_config of_text = number-at numbers config text 0 processors of_config of_text (omega (arith, length-keys))

pub mesh_width-given : (numbers : List ℕ) (config : Config) (text : List ℕ) → map (λ key. key.of config) keys ≡ numbers
    → numbers ≡ map (given text) keys → config.mesh_width ≡ given text mesh_width
unfolding keys
mesh_width-given numbers config text of_config of_text = number-at numbers config text 1 processors of_config of_text (omega (arith, length-keys))

-- and each number is allowed by its row
rows-allowed : (numbers : List ℕ) (config : Config) → map (λ key. key.of config) keys ≡ numbers → AreAllowed keys numbers
    → AllByRecursion (λ (key : Key). Allows key.values (key.of config)) keys
rows-allowed numbers config of_config allowed = AreAllowed-of keys config (rw of_config allowed)

pub mesh_width-positive : (numbers : List ℕ) (config : Config) → map (λ key. key.of config) keys ≡ numbers → AreAllowed keys numbers
    → 0 < config.mesh_width
unfolding keys
mesh_width-positive numbers config of_config allowed = (rows-allowed numbers config of_config allowed).1.0.0

pub IsAllowed-numbers : (numbers : List ℕ) (config : Config) → map (λ key. key.of config) keys ≡ numbers → AreAllowed keys numbers
    → config.processors % config.mesh_width ≡ 0 → IsAllowed config
IsAllowed-numbers numbers config of_config allowed shape = record {
  rows = rows-allowed numbers config of_config allowed;
  shape = shape;
}

-- ---- no fault is want of memory

either-memory : (b : Bool) (o p : Option ConfigFault) → o ≢ Some Memory → p ≢ Some Memory → cond b o p ≢ Some Memory
either-memory true o p first second = first
either-memory false o p first second = second

first-memory : (o p : Option ConfigFault) → o ≢ Some Memory → p ≢ Some Memory → option_or o p ≢ Some Memory
first-memory None p first second = second
first-memory (Some fault) p first second = first

value_fault-memory : (values : Values) (n : ℕ) (value : List ℕ) → value_fault values n value ≢ Some Memory
value_fault-memory (number low high) n value =
    either-memory (is_number value) _ _ (either-memory (is_within low high (digits_value 10 value)) _ _ (λ e. cc) (λ e. cc)) (λ e. cc)
value_fault-memory (power low high) n value =
    let x = digits_value 10 value in
    either-memory (is_number value) _ _
    (first-memory (range_fault low high n x) (power_fault n x)
    (either-memory (is_within low high x) _ _ (λ e. cc) (λ e. cc)) (either-memory (is_power_of_two x) _ _ (λ e. cc) (λ e. cc)))
    (λ e. cc)
value_fault-memory (word words) n value = either-memory (list_any (bytes_eq value) words) _ _ (λ e. cc) (λ e. cc)

named_fault-memory : (found : Option Key) (earlier : List (List ℕ)) (line : List ℕ) → named_fault found earlier line ≢ Some Memory
named_fault-memory None earlier line = λ e. cc
named_fault-memory (Some key) earlier line =
    either-memory (list_any (names key) earlier) _ _ (λ e. cc) (value_fault-memory key.values (length earlier + 1) (value_of line))

pub lines_fault-memory : (earlier left : List (List ℕ)) → lines_fault earlier left ≢ Some Memory
lines_fault-memory earlier [] = λ e. cc
lines_fault-memory earlier (line ∷ later) =
    first-memory (line_fault earlier line) _
    (either-memory (length (key_of line) == 0) _ _ (λ e. cc) (named_fault-memory (find (λ key. names key line) keys) earlier line))
    (lines_fault-memory (earlier ++ line ∷ []) later)
