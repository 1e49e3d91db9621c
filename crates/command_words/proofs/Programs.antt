-- The two commands, as `clap` builds them: one option, and names in their places.
use Rattle.std.proofs.Common.{◌≡◌, ◌≤◌, ◌||◌, ℕ, zero, suc, Bool, true, false, not, if◌then◌else◌, refl, sym, ap, subst, arith, List, [], ◌∷◌, length, Some}
use Rattle.std.specs.Prelude.{slice_get, nat_le, is_some, codes}
use Rattle.std.proofs.lemmas.Bool.Decides.{nat_tests}
use Rattle.clap.specs.Faults.{check_fault}
use Rattle.clap.specs.Simple.{Shape, built, filled, new_rule, with_index}
use Rattle.clap.specs.Walk.{Row, Rule, arg_by_index}
use Rattle.clap.specs.declared.error.kind.ErrorKind.TheVariants as kind
use Rattle.command_words.specs.Words.{Text}
use Rattle.command_words.specs.Commands.{run_app, check_app, generate_rule, required_rule}
use Rattle.command_words.proofs.Rows.{IsValueRule}
use Rattle.command_words.proofs.Reader.{IsReader}
use Rattle.command_words.proofs.Held.{Found}
use Rattle.command_words.proofs.Settled.{NoDefaults, missing_fault, given}

-- the arguments, as they are built
abbrev pub choice : Rule
choice = filled generate_rule

abbrev pub required_name : ℕ → Text → Rule
required_name k id = with_index k (filled (required_rule id))

abbrev pub last_name : ℕ → Text → Rule
last_name k id = with_index k (filled (new_rule id))

some_is : {A : Type 0} {x y : A} → Some x ≡ Some y → x ≡ y
some_is e = cc

-- ---- `rsimcheck`

abbrev pub check_shape : Shape
check_shape = (built check_app).top

abbrev pub check_names : List Rule
check_names = required_name 1 (codes "first") ∷ last_name 2 (codes "second") ∷ []

-- each name is an argument of one value, in its place
check_rule : (k : ℕ) (a : Rule) → slice_get check_names k ≡ Some a → IsValueRule check_shape.rules a
check_rule zero a e = subst (IsValueRule check_shape.rules) (some_is e) (record { by_id = refl; action = refl; range = refl; parser = refl; trailing = refl })
check_rule (suc zero) a e = subst (IsValueRule check_shape.rules) (some_is e) (record { by_id = refl; action = refl; range = refl; parser = refl; trailing = refl })
check_rule (suc (suc k)) a e = cc

check_place : (k : ℕ) (a : Rule) → slice_get check_names k ≡ Some a → a.index ≡ Some (suc k)
check_place zero a e = ap (λ (x : Rule). x.index) (sym (some_is e))
check_place (suc zero) a e = ap (λ (x : Rule). x.index) (sym (some_is e))
check_place (suc (suc k)) a e = cc

check_index : (k : ℕ) → k ≤ 2 → arg_by_index check_shape.rules (suc k) ≡ slice_get check_names k
check_index zero few = refl
check_index (suc zero) few = refl
check_index (suc (suc zero)) few = refl
check_index (suc (suc (suc k))) few = absurd (omega arith)

pub check_reader : IsReader check_shape choice check_names
check_reader = record {
  again = refl;
  long = refl;
  other_long = λ name e. rw e refl;
  no_short = λ x. refl;
  choice_rule = record { by_id = refl; action = refl; range = refl; parser = refl; trailing = refl };
  choice_index = refl;
  by_index = check_index;
  name_rule = check_rule;
  name_index = check_place;
  few = omega arith;
}

pub check_plain : NoDefaults check_shape.rules
check_plain = (refl, (refl, (refl, tt)))

-- one name is required
pub check_checks : (rows : List Row) (ns ss : List Text) → Found check_shape choice check_names check_reader rows ns ss → check_fault check_shape rows false ≡ missing_fault 1 ns
check_checks rows ns ss f = rw (given (required_name 1 (codes "first")) rows (slice_get ns 0) (f.name 0 (required_name 1 (codes "first")) refl)) (by ns)
  where
    by : (ns : List Text) → (if not (is_some (slice_get ns 0)) || false then kind.MissingRequiredArgument ∷ [] else []) ≡ missing_fault 1 ns
    by [] = refl
    by (a ∷ rest) = let enough : nat_le 1 (length (a ∷ rest)) ≡ true = grind (arith, nat_tests) in rw enough refl

-- ---- `rsim`

abbrev pub run_shape : Shape
run_shape = (built run_app).top

abbrev pub run_names : List Rule
run_names = required_name 1 (codes "first") ∷ required_name 2 (codes "second") ∷ required_name 3 (codes "third") ∷ last_name 4 (codes "fourth") ∷ []

-- each name is an argument of one value, in its place
run_rule : (k : ℕ) (a : Rule) → slice_get run_names k ≡ Some a → IsValueRule run_shape.rules a
run_rule zero a e = subst (IsValueRule run_shape.rules) (some_is e) (record { by_id = refl; action = refl; range = refl; parser = refl; trailing = refl })
run_rule (suc zero) a e = subst (IsValueRule run_shape.rules) (some_is e) (record { by_id = refl; action = refl; range = refl; parser = refl; trailing = refl })
run_rule (suc (suc zero)) a e = subst (IsValueRule run_shape.rules) (some_is e) (record { by_id = refl; action = refl; range = refl; parser = refl; trailing = refl })
run_rule (suc (suc (suc zero))) a e = subst (IsValueRule run_shape.rules) (some_is e) (record { by_id = refl; action = refl; range = refl; parser = refl; trailing = refl })
run_rule (suc (suc (suc (suc k)))) a e = cc

run_place : (k : ℕ) (a : Rule) → slice_get run_names k ≡ Some a → a.index ≡ Some (suc k)
run_place zero a e = ap (λ (x : Rule). x.index) (sym (some_is e))
run_place (suc zero) a e = ap (λ (x : Rule). x.index) (sym (some_is e))
run_place (suc (suc zero)) a e = ap (λ (x : Rule). x.index) (sym (some_is e))
run_place (suc (suc (suc zero))) a e = ap (λ (x : Rule). x.index) (sym (some_is e))
run_place (suc (suc (suc (suc k)))) a e = cc

run_index : (k : ℕ) → k ≤ 4 → arg_by_index run_shape.rules (suc k) ≡ slice_get run_names k
run_index zero few = refl
run_index (suc zero) few = refl
run_index (suc (suc zero)) few = refl
run_index (suc (suc (suc zero))) few = refl
run_index (suc (suc (suc (suc zero)))) few = refl
run_index (suc (suc (suc (suc (suc k))))) few = absurd (omega arith)

pub run_reader : IsReader run_shape choice run_names
run_reader = record {
  again = refl;
  long = refl;
  other_long = λ name e. rw e refl;
  no_short = λ x. refl;
  choice_rule = record { by_id = refl; action = refl; range = refl; parser = refl; trailing = refl };
  choice_index = refl;
  by_index = run_index;
  name_rule = run_rule;
  name_index = run_place;
  few = omega arith;
}

pub run_plain : NoDefaults run_shape.rules
run_plain = (refl, (refl, (refl, (refl, (refl, tt)))))

abbrev is_there : List Text → ℕ → Bool
is_there ns k = is_some (slice_get ns k)

-- three names are required
pub run_checks : (rows : List Row) (ns ss : List Text) → Found run_shape choice run_names run_reader rows ns ss → check_fault run_shape rows false ≡ missing_fault 3 ns
run_checks rows ns ss f =
    let first = given (required_name 1 (codes "first")) rows (slice_get ns 0) (f.name 0 (required_name 1 (codes "first")) refl) in
    let second = given (required_name 2 (codes "second")) rows (slice_get ns 1) (f.name 1 (required_name 2 (codes "second")) refl) in
    let third = given (required_name 3 (codes "third")) rows (slice_get ns 2) (f.name 2 (required_name 3 (codes "third")) refl) in
    rw (first, second, third) (by ns)
  where
    by : (ns : List Text)
        → (if not (is_there ns 0) || (not (is_there ns 1) || (not (is_there ns 2) || false)) then kind.MissingRequiredArgument ∷ [] else []) ≡ missing_fault 3 ns
    by [] = refl
    by (a ∷ []) = refl
    by (a ∷ b ∷ []) = refl
    by (a ∷ b ∷ c ∷ rest) = let enough : nat_le 3 (length (a ∷ b ∷ c ∷ rest)) ≡ true = grind (arith, nat_tests) in rw enough refl
