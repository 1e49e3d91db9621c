-- A replay that has found no fault: its steps, its lines, and the run that it is.
use Rattle.std.proofs.Common.{◌≡◌, ◌⊎◌, ℕ, zero, suc, Bool, true, false, if◌then◌else◌, List, [], ◌∷◌, ◌++◌, length, map, Option, None, Some, option_map, option_and_then, slice_get, Result, Ok, Err, refl, sym, ap, subst, inl, inr, ⊎_elim, ◌∙◌, arith}
use Rattle.rsim_base.specs.Accesses.{loads}
use Rattle.rsim_base.specs.Made.{Made}
use Rattle.rsim_base.specs.declared.memory.Access.{Access}
use Rattle.elf64_load.specs.Image.{ImageView}
use Rattle.order_certificate.specs.Certificate.{IsInText}
use Rattle.sparc_meaning.specs.Arch.{is_running}
use Rattle.sparc_meaning.specs.Run.{Ran, run, advanced, after, accesses_of, made_after, uses_value}
use Rattle.sparc_meaning.specs.Step.{step}
use Rattle.sparc_meaning.specs.StepIgnores.{step_ignores}
use Rattle.sparc_meaning.specs.StepReads.{step_found}
use Rattle.sparc_meaning.specs.Stepped.{Stepped}
use Rattle.sparc_meaning.specs.declared.acts.Act.{Act}
use Rattle.order_checker.specs.declared.verdict.Part.{Part}
use Rattle.order_checker.specs.declared.verdict.Rejected.{Rejected}
use Rattle.order_checker.specs.declared.verdict.Rejected.TheVariants.{Differs}
use Rattle.order_checker.specs.Faults.{place_of, differing, step_fault, unless, loaded_of, then_after, followed, then_followed, replayed, file_line}
use Rattle.order_checker.proofs.LinePlaces.{IsLineOf, line_of-place}
use Rattle.std.proofs.lemmas.List.{append-nil, length-map}
use Rattle.std.proofs.lemmas.Option.{slice_get_past}
use Rattle.list_facts.specs.Places.{map-append_one, slice_get_last, slice_get_more}
use Rattle.list_facts.specs.Options.{Some-injective, Ok-injective}
use Rattle.order_checker.proofs.MadeLines.{IsMade, act_cases, made_line}
use Rattle.sparc_meaning.specs.Runs.{run_more_values}
use Rattle.order_checker.proofs.Steps.{advanced_found, advanced_without}

-- the line of access i of processor p
abbrev pub line_at : List Access → ℕ → ℕ → Option Access
line_at lines p i = option_and_then (slice_get lines) (place_of lines p i)

-- the next step, on the value of the line of its access
abbrev pub stepped_on : ImageView → List Access → ℕ → Ran → Stepped
stepped_on image lines p old = step image old.state (loaded_of (line_at lines p (length old.accesses)))

-- a step that has no fault
pub record IsNext (image : ImageView) (lines : List Access) (p : ℕ) (old new : Ran) : Type 0 where
  pub running : is_running old.state.end ≡ true
  pub fine : step_fault p (length old.accesses) (accesses_of p (length old.accesses) (stepped_on image lines p old).act) (place_of lines p (length old.accesses)) (line_at lines p (length old.accesses)) ≡ None
  pub is : new ≡ after p old (stepped_on image lines p old)

was_followed : (p : ℕ) (old new : Ran) (running : Bool) (fault : Option Rejected) (ended : Rejected) (s : Stepped) →
    then_after p old (if running then unless fault s else Err ended) ≡ Ok new → (running ≡ true) × (fault ≡ None) × (new ≡ after p old s)
was_followed p old new false fault ended s e = absurd cc
was_followed p old new true (Some r) ended s e = absurd cc
was_followed p old new true None ended s e = (refl, refl, sym (Ok-injective e))

is_followed : (p : ℕ) (old new : Ran) (running : Bool) (fault : Option Rejected) (ended : Rejected) (s : Stepped) →
    running ≡ true → fault ≡ None → new ≡ after p old s → then_after p old (if running then unless fault s else Err ended) ≡ Ok new
is_followed p old new false fault ended s is fine e = absurd cc
is_followed p old new true (Some r) ended s is fine e = absurd cc
is_followed p old new true None ended s is fine e = ap Ok (sym e)

before_it : (r : Result Ran Rejected) (f : Ran → Result Ran Rejected) (new : Ran) → then_followed r f ≡ Ok new → (old : Ran) × (r ≡ Ok old) × (f old ≡ Ok new)
before_it (Err e) f new is = absurd cc
before_it (Ok old) f new is = (old, refl, is)

pub replayed_less : (image : ImageView) (n : ℕ) (lines : List Access) (p k : ℕ) (new : Ran) → replayed image n lines p (suc k) ≡ Ok new → (old : Ran) × (replayed image n lines p k ≡ Ok old) × IsNext image lines p old new
replayed_less image n lines p k new is = of_old (before_it (replayed image n lines p k) (followed image lines p k) new is)
  where
    of_old : (old : Ran) × (replayed image n lines p k ≡ Ok old) × (followed image lines p k old ≡ Ok new) → (old : Ran) × (replayed image n lines p k ≡ Ok old) × IsNext image lines p old new
    of_old (old, was, led) = let parts = was_followed p old new (is_running old.state.end) _ _ _ led in (old, was, record { running = parts.0; fine = parts.1; is = parts.2 })

pub replayed_more : (image : ImageView) (n : ℕ) (lines : List Access) (p k : ℕ) (old new : Ran) → replayed image n lines p k ≡ Ok old → IsNext image lines p old new → replayed image n lines p (suc k) ≡ Ok new
replayed_more image n lines p k old new was next =
    ap (λ r. then_followed r (followed image lines p k)) was ∙ is_followed p old new (is_running old.state.end) _ _ _ next.running next.fine next.is

-- ---- lines of the accesses that were made

-- each line is one that a text can tell
pub record AreInText (lines : List Access) : Type 0 where
  pub in_text : (j : ℕ) (e : Access) → slice_get lines j ≡ Some e → IsInText e

-- the line of access i of processor p is what it made
pub record IsMadeLine (lines : List Access) (p i : ℕ) (m : Made) : Type 0 where
  pub place : ℕ
  pub is_place : place_of lines p i ≡ Some place
  pub line : IsLineOf lines p i place m.access

-- the line and its place, where an access has no fault
pub step_fault_none : (p i : ℕ) (x : Access) (place : Option ℕ) (line : Option Access) → step_fault p i (x ∷ []) place line ≡ None →
    (j : ℕ) × (e : Access) × (place ≡ Some j) × (line ≡ Some e) × (differing x e ≡ None)
step_fault_none p i x None line none = absurd cc
step_fault_none p i x (Some j) None none = absurd cc
step_fault_none p i x (Some j) (Some e) none = (j, e, refl, refl, unmapped (differing x e) none)
  where
    unmapped : (o : Option Part) → option_map (Differs (file_line j)) o ≡ None → o ≡ None
    unmapped None is = refl
    unmapped (Some part) is = absurd cc

pub next_cases : (image : ImageView) (lines : List Access) (p : ℕ) (old new : Ran) → AreInText lines → IsNext image lines p old new →
    ((accesses_of p (length old.accesses) (stepped_on image lines p old).act ≡ []) × (uses_value (stepped_on image lines p old).act ≡ false))
    ⊎ ((x : Access) × IsMade p (length old.accesses) (loaded_of (line_at lines p (length old.accesses))) (stepped_on image lines p old).act x × IsMadeLine lines p (length old.accesses) (made_after old.fences x))
next_cases image lines p old new are next =
    let i = length old.accesses in
    let v = loaded_of (line_at lines p i) in
    let s = stepped_on image lines p old in
    ⊎_elim inl (λ (x, made). inr (x, made, of_line i s.act x made (step_fault_none p i x (place_of lines p i) (line_at lines p i) (subst (λ xs. step_fault p i xs (place_of lines p i) (line_at lines p i) ≡ None) made.list next.fine))))
    (act_cases p i v s.act (step_found image old.state v))
  where
    of_line : (i : ℕ) (act : Act) (x : Access) → IsMade p i (loaded_of (line_at lines p i)) act x →
        (j : ℕ) × (e : Access) × (place_of lines p i ≡ Some j) × (line_at lines p i ≡ Some e) × (differing x e ≡ None) → IsMadeLine lines p i (made_after old.fences x)
    of_line i act x made (j, e, is_place, is_line, alike) =
        let here = line_of-place lines p i j is_place in
        let same : here.0 ≡ e = Some-injective (sym here.1.stands ∙ sym (ap (option_and_then (slice_get lines)) is_place) ∙ is_line) in
        let line : IsLineOf lines p i j e = subst (IsLineOf lines p i j) same here.1 in
        let is_x : e ≡ x = made_line p i act x e (subst (λ v. IsMade p i v act x) (ap loaded_of is_line) made) (are.in_text j e line.stands) line.node line.index alike in
        record { place = j; is_place = is_place; line = subst (IsLineOf lines p i j) is_x line }

-- the accesses after a step
pub after_none : (p : ℕ) (old new : Ran) (s : Stepped) → new ≡ after p old s → accesses_of p (length old.accesses) s.act ≡ [] → new.accesses ≡ old.accesses
after_none p old new s is none = ap (λ (r : Ran). r.accesses) is ∙ ap (λ xs. old.accesses ++ map (made_after old.fences) xs) none ∙ append-nil old.accesses

pub after_one : (p : ℕ) (old new : Ran) (s : Stepped) (x : Access) → new ≡ after p old s → accesses_of p (length old.accesses) s.act ≡ x ∷ [] → new.accesses ≡ old.accesses ++ made_after old.fences x ∷ []
after_one p old new s x is one = ap (λ (r : Ran). r.accesses) is ∙ ap (λ xs. old.accesses ++ map (made_after old.fences) xs) one

pub replayed_lines : (image : ImageView) (n : ℕ) (lines : List Access) (p k : ℕ) (ran : Ran) → AreInText lines → replayed image n lines p k ≡ Ok ran →
    (i : ℕ) (m : Made) → slice_get ran.accesses i ≡ Some m → IsMadeLine lines p i m
replayed_lines image n lines p zero ran are is i m at = absurd (nothing (ap (λ (r : Ran). slice_get r.accesses i) (Ok-injective is) ∙ at))
  where
    nothing : None ≡ Some m → ⊥
    nothing e = absurd cc
replayed_lines image n lines p (suc k) ran are is i m at = by_old (λ old was at_old. replayed_lines image n lines p k old are was i m at_old) (replayed_less image n lines p k ran is)
  where
    by_old : ((old : Ran) → replayed image n lines p k ≡ Ok old → slice_get old.accesses i ≡ Some m → IsMadeLine lines p i m) → (old : Ran) × (replayed image n lines p k ≡ Ok old) × IsNext image lines p old ran → IsMadeLine lines p i m
    by_old earlier (old, was, next) = ⊎_elim
        (λ (none, quiet). earlier old was (ap (λ xs. slice_get xs i) (sym (after_none p old ran _ next.is none)) ∙ at))
        (λ (x, made, line). ⊎_elim (earlier old was) (λ (here, is_m). subst (λ (j : ℕ). IsMadeLine lines p j m) (sym here) (subst (IsMadeLine lines p (length old.accesses)) (sym is_m) line))
        (slice_get_more old.accesses (made_after old.fences x) i m (ap (λ xs. slice_get xs i) (sym (after_one p old ran _ x next.is made.list)) ∙ at)))
        (next_cases image lines p old ran are next)

-- ---- the run

-- the loaded values of accesses
abbrev pub values_of : List Made → List ℕ
values_of made = map (λ m. m.access.loaded) made

one_more : (image : ImageView) (p n k : ℕ) (old new : Ran) (more : List ℕ) → run image p n k (values_of old.accesses) ≡ Some old → values_of new.accesses ≡ values_of old.accesses ++ more →
    advanced image p (values_of old.accesses ++ more) old ≡ Some new → run image p n (suc k) (values_of new.accesses) ≡ Some new
one_more image p n k old new more was values led =
    ap (run image p n (suc k)) values ∙ ap (option_and_then (advanced image p (values_of old.accesses ++ more))) (run_more_values image p n k (values_of old.accesses) more old was) ∙ led

pub replayed_run : (image : ImageView) (n : ℕ) (lines : List Access) (p k : ℕ) (ran : Ran) → AreInText lines → replayed image n lines p k ≡ Ok ran → run image p n k (values_of ran.accesses) ≡ Some ran
replayed_run image n lines p zero ran are is = ap Some (Ok-injective is)
replayed_run image n lines p (suc k) ran are is = by_old (λ old was. replayed_run image n lines p k old are was) (replayed_less image n lines p k ran is)
  where
    -- without an access
    plain : (old : Ran) → run image p n k (values_of old.accesses) ≡ Some old → IsNext image lines p old ran → accesses_of p (length old.accesses) (stepped_on image lines p old).act ≡ [] → uses_value (stepped_on image lines p old).act ≡ false →
        run image p n (suc k) (values_of ran.accesses) ≡ Some ran
    plain old was next none quiet =
        let vs = values_of old.accesses in
        let past : slice_get (vs ++ []) (length old.accesses) ≡ None = ap (slice_get (vs ++ [])) (sym (length-map old.accesses (λ (m : Made). m.access.loaded))) ∙ ap (λ xs. slice_get xs (length vs)) (append-nil vs) ∙ slice_get_past vs (length vs) (omega arith) in
        one_more image p n k old ran [] was (ap values_of (after_none p old ran _ next.is none) ∙ sym (append-nil vs))
        (advanced_without image p (loaded_of (line_at lines p (length old.accesses))) (vs ++ []) old past next.running quiet ∙ ap Some (sym next.is))

    same_step : (old : Ran) (v : ℕ) (x : Access) (b : Bool) → IsMade p (length old.accesses) v (step image old.state v).act x → loads x.kind ≡ b → step image old.state x.loaded ≡ step image old.state v
    same_step old v x true made is_load = ap (step image old.state) (made.loaded is_load)
    same_step old v x false made is_load = step_ignores image old.state v x.loaded (made.uses ∙ is_load)

    with_one : (old : Ran) → run image p n k (values_of old.accesses) ≡ Some old → IsNext image lines p old ran → (x : Access) → IsMade p (length old.accesses) (loaded_of (line_at lines p (length old.accesses))) (stepped_on image lines p old).act x →
        run image p n (suc k) (values_of ran.accesses) ≡ Some ran
    with_one old was next x made =
        let vs = values_of old.accesses in
        let v = loaded_of (line_at lines p (length old.accesses)) in
        let found : slice_get (vs ++ x.loaded ∷ []) (length old.accesses) ≡ Some x.loaded = ap (slice_get (vs ++ x.loaded ∷ [])) (sym (length-map old.accesses (λ (m : Made). m.access.loaded))) ∙ slice_get_last vs x.loaded in
        one_more image p n k old ran (x.loaded ∷ []) was
        (ap values_of (after_one p old ran _ x next.is made.list) ∙ map-append_one (λ (m : Made). m.access.loaded) old.accesses (made_after old.fences x))
        (advanced_found image p v x.loaded (vs ++ x.loaded ∷ []) old found next.running (same_step old v x (loads x.kind) made refl) ∙ ap Some (sym next.is))

    by_old : ((old : Ran) → replayed image n lines p k ≡ Ok old → run image p n k (values_of old.accesses) ≡ Some old) →
        (old : Ran) × (replayed image n lines p k ≡ Ok old) × IsNext image lines p old ran → run image p n (suc k) (values_of ran.accesses) ≡ Some ran
    by_old earlier (old, was, next) = ⊎_elim (λ (none, quiet). plain old (earlier old was) next none quiet) (λ (x, made, line). with_one old (earlier old was) next x made) (next_cases image lines p old ran are next)
