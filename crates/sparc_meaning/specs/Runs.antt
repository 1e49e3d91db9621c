-- Laws of runs: a run on values goes the same way where more follow, and a step makes one access or none.
use Rattle.std.proofs.Common.{◌≡◌, ◌⊎◌, inl, inr, ◌≤◌, arith, option_to_list, ◌++◌, ◌∷◌, ◌&&◌, ℕ, zero, suc, Bool, true, false, not, if◌then◌else◌, List, [], length, Option, None, Some, is_none, unwrap_or, option_and_then, slice_get, refl, ap, ◌∙◌}
use Rattle.list_facts.specs.Places.{slice_get-append_left}
use Rattle.rsim_base.specs.declared.memory.Access.{Access}
use Rattle.elf64_load.specs.Image.{ImageView}
use Rattle.sparc_meaning.specs.declared.acts.Act.{Act}
use Rattle.sparc_meaning.specs.Accesses.{access_of}
use Rattle.sparc_meaning.specs.Arch.{is_running}
use Rattle.sparc_meaning.specs.Run.{Ran, run, accesses_of, advanced, after, uses_value}
use Rattle.sparc_meaning.specs.Step.{step}
use Rattle.sparc_meaning.specs.StepIgnores.{step_ignores}

-- `advanced` with the value that was found
abbrev pub advanced_on : ImageView → ℕ → Option ℕ → Ran → Option Ran
advanced_on image p found ran =
    let s = step image ran.state (unwrap_or found 0) in
    if is_running ran.state.end && not (uses_value s.act && is_none found) then Some (after p ran s) else None

chosen_again : (running load load' : Bool) (x y new : Ran) → (load ≡ false → y ≡ x) →
    (if running && not (load && true) then Some x else None) ≡ Some new → (if running && not (load' && false) then Some y else None) ≡ Some new
chosen_again false load load' x y new same e = absurd cc
chosen_again true true load' x y new same e = absurd cc
chosen_again true false true x y new same e = ap Some (same refl) ∙ e
chosen_again true false false x y new same e = ap Some (same refl) ∙ e

advanced_on_more : (image : ImageView) (p : ℕ) (found more : Option ℕ) (ran new : Ran) → ((v : ℕ) → found ≡ Some v → more ≡ Some v) →
    advanced_on image p found ran ≡ Some new → advanced_on image p more ran ≡ Some new
advanced_on_more image p (Some v) more ran new keeps e = rw (keeps v refl) e
advanced_on_more image p None None ran new keeps e = e
advanced_on_more image p None (Some w) ran new keeps e =
    chosen_again (is_running ran.state.end) (uses_value (step image ran.state 0).act) (uses_value (step image ran.state w).act) (after p ran (step image ran.state 0)) (after p ran (step image ran.state w)) new
    (λ quiet. ap (after p ran) (step_ignores image ran.state 0 w quiet)) e

advanced_more : (image : ImageView) (p : ℕ) (vs more : List ℕ) (ran new : Ran) → advanced image p vs ran ≡ Some new → advanced image p (vs ++ more) ran ≡ Some new
advanced_more image p vs more ran new e =
    advanced_on_more image p (slice_get vs (length ran.accesses)) (slice_get (vs ++ more) (length ran.accesses)) ran new
    (λ v found. slice_get-append_left vs more (length ran.accesses) v found) e

run_more_from : (image : ImageView) (p : ℕ) (vs more : List ℕ) (ran : Ran) (before before' : Option Ran) → ((old : Ran) → before ≡ Some old → before' ≡ Some old) →
    option_and_then (advanced image p vs) before ≡ Some ran → option_and_then (advanced image p (vs ++ more)) before' ≡ Some ran
run_more_from image p vs more ran None before' keeps e = absurd cc
run_more_from image p vs more ran (Some old) before' keeps e = rw (keeps old refl) (advanced_more image p vs more old ran e)

pub run_more_values : (image : ImageView) (p n k : ℕ) (vs more : List ℕ) (ran : Ran) → run image p n k vs ≡ Some ran → run image p n k (vs ++ more) ≡ Some ran
run_more_values image p n zero vs more ran e = e
run_more_values image p n (suc k) vs more ran e =
    run_more_from image p vs more ran (run image p n k vs) (run image p n k (vs ++ more)) (λ old is. run_more_values image p n k vs more old is) e

-- ---- a step makes one access or none

by_option : {A : Type 0} (o : Option A) → (option_to_list o ≡ []) ⊎ ((x : A) × (option_to_list o ≡ x ∷ []))
by_option None = inl refl
by_option (Some x) = inr (x, refl)

pub one_or_none : (p i : ℕ) (act : Act) → (accesses_of p i act ≡ []) ⊎ ((x : Access) × (accesses_of p i act ≡ x ∷ []))
one_or_none p i act = by_option (access_of p i act)

few : {A : Type 0} (o : Option A) → length (option_to_list o) ≤ 1
few None = omega arith
few (Some x) = omega arith

pub accesses_of-few : (p i : ℕ) (act : Act) → length (accesses_of p i act) ≤ 1
accesses_of-few p i act = few (access_of p i act)
