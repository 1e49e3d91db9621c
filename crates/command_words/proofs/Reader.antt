-- A command with one option and a list of names, and the faults of its arguments' uses.
use Rattle.std.proofs.Common.{◌≡◌, ◌≤◌, if◌then◌else◌, ℕ, suc, Bool, true, false, refl, List, [], ◌∷◌, length, Some, None}
use Rattle.std.specs.Prelude.{slice_get, codes}
use Rattle.std.specs.Prelude.{⊤}
use Rattle.std.specs.Str.{bytes_eq}
use Rattle.clap.specs.Kinds.{Kinds, or_else}
use Rattle.clap.specs.Faults.{use_fault}
use Rattle.clap.specs.Simple.{Shape}
use Rattle.clap.specs.declared.error.kind.ErrorKind.TheVariants as kind
use Rattle.clap.specs.Walk.{Row, Rule, arg_by_index, arg_by_long, arg_by_short, is_multiple, takes_several, takes_values}
use Rattle.command_words.specs.Words.{Text}
use Rattle.command_words.proofs.Rows.{IsValueRule, row_at, has_row-none, has_row-some}

-- some kind of error comes
abbrev pub Fails : Kinds → Type 0
Fails [] = ⊥
Fails (k ∷ ks) = ⊤

-- of two lists, of which the second counts where the first is empty
pub fails_first : (a b : Kinds) → Fails a → Fails (or_else a b)
fails_first [] b h = absurd h
fails_first (k ∷ ks) b h = tt

pub fails_later : (a b : Kinds) → Fails b → Fails (or_else a b)
fails_later [] b h = h
fails_later (k ∷ ks) b h = tt

-- no name takes the word
pub fails_stray : (is_leaf : Bool) → Fails (if is_leaf then kind.UnknownArgument ∷ [] else kind.UnknownArgument ∷ kind.InvalidSubcommand ∷ [])
fails_stray true = tt
fails_stray false = tt

-- a command with one option, and names in their places
pub record IsReader (s : Shape) (choice : Rule) (names : List Rule) : Type 0 where
  pub again : s.args_override_self ≡ false
  pub long : arg_by_long s.rules (codes "generate") ≡ Some choice
  pub other_long : (name : Text) → bytes_eq (codes "generate") name ≡ false → arg_by_long s.rules name ≡ None
  pub no_short : (x : ℕ) → arg_by_short s.rules x ≡ None
  pub choice_rule : IsValueRule s.rules choice
  pub choice_index : choice.index ≡ None
  pub by_index : (k : ℕ) → k ≤ length names → arg_by_index s.rules (suc k) ≡ slice_get names k
  pub name_rule : (k : ℕ) (a : Rule) → slice_get names k ≡ Some a → IsValueRule s.rules a
  pub name_index : (k : ℕ) (a : Rule) → slice_get names k ≡ Some a → a.index ≡ Some (suc k)
  pub few : length names ≤ 100

-- ---- uses of an argument

-- it takes one value, once
pub takes_one : (rules : List Rule) (a : Rule) → IsValueRule rules a → takes_several a ≡ false
takes_one rules a rule = rw (rule.range) refl

pub stays_one : (rules : List Rule) (a : Rule) → IsValueRule rules a → is_multiple a ≡ false
stays_one rules a rule = rw (rule.range, rule.action) refl

pub takes_value : (rules : List Rule) (a : Rule) → IsValueRule rules a → takes_values a ≡ true
takes_value rules a rule = rw (rule.range) refl

-- a first use has no fault; a second one has, and one with no value
pub use_fault-new : (rules : List Rule) (a : Rule) (v : Text) (rows : List Row) → IsValueRule rules a → row_at a.id rows ≡ None → use_fault false a (v ∷ []) rows ≡ []
use_fault-new rules a v rows rule none = rw (rule.range, rule.action, has_row-none a.id rows none, rule.parser) refl

pub use_fault-again : (rules : List Rule) (a : Rule) (v : Text) (rows : List Row) (r : Row) → IsValueRule rules a → row_at a.id rows ≡ Some r → Fails (use_fault false a (v ∷ []) rows)
use_fault-again rules a v rows r rule found = rw (rule.range, rule.action, has_row-some a.id rows r found) tt

pub use_fault-bare : (rules : List Rule) (a : Rule) (rows : List Row) → IsValueRule rules a → Fails (use_fault false a [] rows)
use_fault-bare rules a rows rule = rw (rule.range) tt
