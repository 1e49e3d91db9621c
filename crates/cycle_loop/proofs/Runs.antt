-- Runs by one step more.
use Rattle.std.proofs.Common.{◌≡◌, ◌+◌, ◌++◌, ◌&&◌, map, [], ◌∷◌, add-one, ℕ, zero, suc, Bool, true, false, not, if◌then◌else◌, List, length, Option, None, Some, is_none, unwrap_or, option_and_then, slice_get, refl, ap, ◌∙◌}
use Rattle.std.proofs.lemmas.List.{map-append}
use Rattle.rsim_base.specs.Made.{Fences, Made}
use Rattle.elf64_load.specs.Image.{ImageView}
use Rattle.sparc_meaning.specs.declared.acts.Act.{Act}
use Rattle.sparc_meaning.specs.declared.acts.Act.TheVariants.{Nothing, Load, Store, Atomic, Fence, Out, End as Ended}
use Rattle.sparc_meaning.specs.declared.arch.Arch.{Arch}
use Rattle.sparc_meaning.specs.Arch.{is_running}
use Rattle.sparc_meaning.specs.Run.{Ran, run, advanced, after, uses_value, accesses_of, made_after}
use Rattle.sparc_meaning.specs.Step.{step}
use Rattle.sparc_meaning.specs.Acts.{HasFound}
use Rattle.sparc_meaning.specs.StepIgnores.{step_ignores}
use Rattle.sparc_meaning.specs.StepReads.{step_found}
use Rattle.sparc_meaning.specs.Stepped.{Stepped}
use Rattle.cycle_loop.specs.Stands.{loaded_values}
use Rattle.sparc_meaning.specs.Runs.{advanced_on, run_more_values}

-- the value that a step has loaded
abbrev pub value_of : Act → ℕ
value_of (Load addr size loaded) = loaded
value_of (Atomic addr size loaded stored) = loaded
value_of Nothing = 0
value_of (Store addr size stored) = 0
value_of (Fence mask) = 0
value_of (Out spoken) = 0
value_of Ended = 0

-- the value that an access leaves among the loaded ones, if the step makes one
abbrev pub found_of : Act → Option ℕ
found_of (Load addr size loaded) = Some loaded
found_of (Atomic addr size loaded stored) = Some loaded
found_of (Store addr size stored) = Some 0
found_of Nothing = None
found_of (Fence mask) = None
found_of (Out spoken) = None
found_of Ended = None

-- behind the values that were loaded before comes that of the step
next_value : (p i : ℕ) (fences : Fences) (xs : List Made) (act : Act) → slice_get (loaded_values xs ++ loaded_values (map (made_after fences) (accesses_of p i act))) (length xs) ≡ found_of act
next_value p i fences [] (Load addr size loaded) = refl
next_value p i fences [] (Store addr size stored) = refl
next_value p i fences [] (Atomic addr size loaded stored) = refl
next_value p i fences [] Nothing = refl
next_value p i fences [] (Fence mask) = refl
next_value p i fences [] (Out spoken) = refl
next_value p i fences [] Ended = refl
next_value p i fences (x ∷ xs) act = next_value p i fences xs act

advance_on : (image : ImageView) (p : ℕ) (ran : Ran) (s : Stepped) (act : Act) → s.act ≡ act → is_running ran.state.end ≡ true → step image ran.state (value_of act) ≡ s →
    advanced_on image p (found_of act) ran ≡ Some (after p ran s)
advance_on image p ran s (Load addr size loaded) is running stepped = rw (stepped, running, is) refl
advance_on image p ran s (Store addr size stored) is running stepped = rw (stepped, running, is) refl
advance_on image p ran s (Atomic addr size loaded stored) is running stepped = rw (stepped, running, is) refl
advance_on image p ran s Nothing is running stepped = rw (stepped, running, is) refl
advance_on image p ran s (Fence mask) is running stepped = rw (stepped, running, is) refl
advance_on image p ran s (Out spoken) is running stepped = rw (stepped, running, is) refl
advance_on image p ran s Ended is running stepped = rw (stepped, running, is) refl

-- The run goes on by a step that has loaded its value.
pub run_on : (image : ImageView) (p n k : ℕ) (old : Ran) (s : Stepped) → run image p n k (loaded_values old.accesses) ≡ Some old → is_running old.state.end ≡ true →
    step image old.state (value_of s.act) ≡ s → run image p n (k + 1) (loaded_values (after p old s).accesses) ≡ Some (after p old s)
run_on image p n k old s has_run running stepped =
    let more = map (made_after old.fences) (accesses_of p (length old.accesses) s.act) in
    let values : loaded_values (old.accesses ++ more) ≡ loaded_values old.accesses ++ loaded_values more = map-append (λ m. m.access.loaded) old.accesses more in
    let so_far = run_more_values image p n k (loaded_values old.accesses) (loaded_values more) old has_run in
    let found = next_value p (length old.accesses) old.fences old.accesses s.act in
    rw (add-one, values, so_far) (ap (λ f. advanced_on image p f old) found ∙ advance_on image p old s s.act refl running stepped)

-- The step is that on the value which it has loaded, whatever value it was given.
pub stepped_on : (image : ImageView) (a : Arch) (value : ℕ) → let s = step image a value in step image a (value_of s.act) ≡ s
stepped_on image a value = by_load (uses_value (step image a value).act) refl
  where
    used : (act : Act) → uses_value act ≡ true → HasFound value act → value_of act ≡ value
    used (Load addr size loaded) loads found = found
    used (Atomic addr size loaded stored) loads found = found
    used Nothing loads found = absurd cc
    used (Store addr size stored) loads found = absurd cc
    used (Fence mask) loads found = absurd cc
    used (Out spoken) loads found = absurd cc
    used Ended loads found = absurd cc

    by_load : (loads : Bool) → uses_value (step image a value).act ≡ loads → step image a (value_of (step image a value).act) ≡ step image a value
    by_load true loads = ap (step image a) (used (step image a value).act loads (step_found image a value))
    by_load false quiet = step_ignores image a value (value_of (step image a value).act) quiet
