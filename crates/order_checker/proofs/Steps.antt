-- Runs by one step more.
use Rattle.std.proofs.Common.{◌≡◌, ◌&&◌, ℕ, suc, Bool, true, false, not, if◌then◌else◌, List, length, Option, None, Some, unwrap_or, option_and_then, slice_get, refl, ap, ◌∙◌}
use Rattle.elf64_load.specs.Image.{ImageView}
use Rattle.sparc_meaning.specs.Arch.{is_running}
use Rattle.sparc_meaning.specs.Run.{Ran, run, advanced, after, uses_value}
use Rattle.sparc_meaning.specs.Step.{step}
use Rattle.sparc_meaning.specs.Stepped.{Stepped}
use Rattle.sparc_meaning.specs.StepIgnores.{step_ignores}
use Rattle.sparc_meaning.specs.Runs.{advanced_on}

chosen_found : (a u : Bool) (x : Ran) → a ≡ true → (if a && not (u && false) then Some x else None) ≡ Some x
chosen_found false u x is = absurd cc
chosen_found true false x is = refl
chosen_found true true x is = refl

chosen_none : (a u : Bool) (x : Ran) → a ≡ true → u ≡ false → (if a && not (u && true) then Some x else None) ≡ Some x
chosen_none false u x is quiet = absurd cc
chosen_none true false x is quiet = refl
chosen_none true true x is quiet = absurd cc

pub advanced_found : (image : ImageView) (p v w : ℕ) (vs : List ℕ) (ran : Ran) → slice_get vs (length ran.accesses) ≡ Some w → is_running ran.state.end ≡ true → step image ran.state w ≡ step image ran.state v →
    advanced image p vs ran ≡ Some (after p ran (step image ran.state v))
advanced_found image p v w vs ran found running same =
    ap (λ o. advanced_on image p o ran) found ∙ chosen_found (is_running ran.state.end) (uses_value (step image ran.state w).act) (after p ran (step image ran.state w)) running ∙ ap (λ (s : Stepped). Some (after p ran s)) same

pub advanced_without : (image : ImageView) (p v : ℕ) (vs : List ℕ) (ran : Ran) → slice_get vs (length ran.accesses) ≡ None → is_running ran.state.end ≡ true → uses_value (step image ran.state v).act ≡ false →
    advanced image p vs ran ≡ Some (after p ran (step image ran.state v))
advanced_without image p v vs ran found running quiet =
    let same : step image ran.state 0 ≡ step image ran.state v = step_ignores image ran.state v 0 quiet in
    ap (λ o. advanced_on image p o ran) found
    ∙ chosen_none (is_running ran.state.end) (uses_value (step image ran.state 0).act) (after p ran (step image ran.state 0)) running (ap (λ (s : Stepped). uses_value s.act) same ∙ quiet)
    ∙ ap (λ (s : Stepped). Some (after p ran s)) same

-- a step that was made
pub record IsAdvance (image : ImageView) (p : ℕ) (found : Option ℕ) (old new : Ran) : Type 0 where
  pub running : is_running old.state.end ≡ true
  pub is : new ≡ after p old (step image old.state (unwrap_or found 0))

was_chosen : (a b : Bool) (x y : Ran) → (if a && b then Some x else None) ≡ Some y → (a ≡ true) × (y ≡ x)
was_chosen false b x y e = absurd cc
was_chosen true false x y e = absurd cc
was_chosen true true x y e = (refl, cc)

pub advanced_some : (image : ImageView) (p : ℕ) (vs : List ℕ) (old new : Ran) → advanced image p vs old ≡ Some new → IsAdvance image p (slice_get vs (length old.accesses)) old new
advanced_some image p vs old new e =
    let parts = was_chosen (is_running old.state.end) _ _ new e in record { running = parts.0; is = parts.1 }

run_before : (image : ImageView) (p : ℕ) (vs : List ℕ) (new : Ran) (before : Option Ran) → option_and_then (advanced image p vs) before ≡ Some new → (old : Ran) × (before ≡ Some old) × (advanced image p vs old ≡ Some new)
run_before image p vs new None e = absurd cc
run_before image p vs new (Some old) e = (old, refl, e)

pub run_less : (image : ImageView) (p n k : ℕ) (vs : List ℕ) (new : Ran) → run image p n (suc k) vs ≡ Some new → (old : Ran) × (run image p n k vs ≡ Some old) × (advanced image p vs old ≡ Some new)
run_less image p n k vs new e = run_before image p vs new (run image p n k vs) e
