-- Where all that a machine's processors have made stands in its order, the order fits.
use Rattle.std.proofs.Common.{◌≡◌, ◌<◌, ◌++◌, ℕ, zero, suc, true, List, [], ◌∷◌, length, map, Option, None, Some, option_and_then, slice_get, refl, sym, ap, subst, ◌∙◌, arith}
use Rattle.std.proofs.lemmas.List.{length-map}
use Rattle.std.proofs.lemmas.Option.{slice_get_within}
use Rattle.rsim_base.specs.Made.{Made}
use Rattle.rsim_base.specs.declared.memory.Access.{Access}
use Rattle.rsim_base.specs.declared.memory.Model.{Model}
use Rattle.elf64_load.specs.Image.{ImageView}
use Rattle.order_axioms.specs.Axioms.{needs}
use Rattle.order_checker.specs.Fit.{Fit}
use Rattle.order_checker.specs.Order.{IsEntryOf, Respects, made_at}
use Rattle.sparc_meaning.specs.Run.{Ran, run}
use Rattle.cycle_loop.specs.Machine.{CoreView, MachineView}
use Rattle.cycle_loop.specs.Stands.{Closed, IsRunOf, Stands, loaded_values, order_so_far}
use Rattle.cycle_loop.proofs.Cycling.{AreRetired-taken, TakesFirst, few_taken, order_so_far-taken}
use Rattle.cycle_loop.proofs.Listing.{IsListed}
use Rattle.list_facts.specs.Places.{slice_get_mapped, slice_get_unmapped}
use Rattle.list_facts.specs.Options.{Some-injective}
use Rattle.cycle_loop.proofs.Turning.{IsRunOf-listed}

-- ---- choices

-- one of each of a list, where there is one at each place
record Chosen {A B : Type 0} (R : ℕ → A → B → Type 0) (xs : List A) : Type 0 where
  list : List B
  count : length list ≡ length xs
  each : (p : ℕ) (x : A) (y : B) → slice_get xs p ≡ Some x → slice_get list p ≡ Some y → R p x y

chosen_more : {A B : Type 0} (R : ℕ → A → B → Type 0) (x : A) (xs : List A) (y : B) → R 0 x y → Chosen (λ (p : ℕ). R (suc p)) xs → Chosen R (x ∷ xs)
chosen_more {A} {B} R x xs y first rest = record { list = y ∷ rest.list; count = ap suc rest.count; each = at_each }
  where
    at_each : (p : ℕ) (z : A) (w : B) → slice_get (x ∷ xs) p ≡ Some z → slice_get (y ∷ rest.list) p ≡ Some w → R p z w
    at_each zero z w at_z at_w = subst (λ (v : A). R 0 v w) (Some-injective at_z) (subst (λ (v : B). R 0 x v) (Some-injective at_w) first)
    at_each (suc p) z w at_z at_w = rest.each p z w at_z at_w

chosen : {A B : Type 0} (R : ℕ → A → B → Type 0) (xs : List A) → ((p : ℕ) (x : A) → slice_get xs p ≡ Some x → (y : B) × R p x y) → Chosen R xs
chosen R [] f = record { list = []; count = refl; each = λ p x y at. absurd cc }
chosen R (x ∷ xs) f = let first = f 0 x refl in chosen_more R x xs first.0 first.1 (chosen (λ (p : ℕ). R (suc p)) xs (λ p z at. f (suc p) z at))

-- what stands at a place where another list has something
slice_get_below : {A : Type 0} (xs : List A) (i : ℕ) → i < length xs → (x : A) × (slice_get xs i ≡ Some x)
slice_get_below [] i within = absurd (omega arith)
slice_get_below (x ∷ xs) zero within = (x, refl)
slice_get_below (x ∷ xs) (suc i) within = slice_get_below xs i (omega arith)

-- ---- the runs of all processors

-- the run is that of the processor
record IsRunBy (image : ImageView) (model : Model) (n : ℕ) (order : List Access) (p : ℕ) (c : CoreView) (ran : Ran) : Type 0 where
  is : IsRunOf image model n order p c
  same : is.ran ≡ ran

IsRunBy-listed : (image : ImageView) (model : Model) (n : ℕ) (order : List Access) (p : ℕ) (c : CoreView) (ran : Ran) → IsRunBy image model n order p c ran → IsListed model order p ran.accesses
IsRunBy-listed image model n order p c ran by = subst (λ (r : Ran). IsListed model order p r.accesses) by.same (IsRunOf-listed image model n order p c by.is)

made_at-from : (runs : List Ran) (p i : ℕ) (ran : Ran) → slice_get runs p ≡ Some ran → made_at (map (λ r. r.accesses) runs) p i ≡ slice_get ran.accesses i
made_at-from runs p i ran at = ap (option_and_then (λ made. slice_get made i)) (slice_get_mapped (λ (r : Ran). r.accesses) runs p ran at)

-- the program of an access that was made
record HasMade (runs : List Ran) (p i : ℕ) (m : Made) : Type 0 where
  ran : Ran
  stands : slice_get runs p ≡ Some ran
  at : slice_get ran.accesses i ≡ Some m

has_made : (runs : List Ran) (p i : ℕ) (m : Made) → made_at (map (λ r. r.accesses) runs) p i ≡ Some m → HasMade runs p i m
has_made runs p i m is = by_program (slice_get (map (λ (r : Ran). r.accesses) runs) p) refl is
  where
    by_program : (o : Option (List Made)) → slice_get (map (λ (r : Ran). r.accesses) runs) p ≡ o → option_and_then (λ made. slice_get made i) o ≡ Some m → HasMade runs p i m
    by_program None at is = absurd cc
    by_program (Some made) at is =
        let from = slice_get_unmapped (λ (r : Ran). r.accesses) runs p made at in
        record { ran = from.0; stands = from.1; at = ap (λ (xs : List Made). slice_get xs i) (sym from.2) ∙ is }

-- all that is known, with the runs in a list
record AreRuns (image : ImageView) (model : Model) (order : List Access) (cores : List CoreView) (runs : List Ran) : Type 0 where
  count : length runs ≡ length cores
  nodes : (j : ℕ) (e : Access) → slice_get order j ≡ Some e → e.node.0 < length cores
  each : (p : ℕ) (c : CoreView) (ran : Ran) → slice_get cores p ≡ Some c → slice_get runs p ≡ Some ran → IsRunBy image model (length cores) order p c ran

listed_at : (image : ImageView) (model : Model) (order : List Access) (cores : List CoreView) (runs : List Ran) → AreRuns image model order cores runs → (p : ℕ) (ran : Ran) → slice_get runs p ≡ Some ran → IsListed model order p ran.accesses
listed_at image model order cores runs are p ran at =
    let within = slice_get_within runs p ran at in
    let same = are.count in
    let core = slice_get_below cores p (omega arith) in
    IsRunBy-listed image model (length cores) order p core.0 ran (are.each p core.0 ran core.1 at)

-- the run of the program that an access of the order is of
ran_of : (image : ImageView) (model : Model) (order : List Access) (cores : List CoreView) (runs : List Ran) → AreRuns image model order cores runs → (j : ℕ) (e : Access) → slice_get order j ≡ Some e →
    (ran : Ran) × (slice_get runs e.node.0 ≡ Some ran)
ran_of image model order cores runs are j e at =
    let below = are.nodes j e at in
    let same = are.count in
    slice_get_below runs e.node.0 (omega arith)

entry_of : (made entry : Access) → made ≡ entry → IsEntryOf made entry
entry_of made entry same = subst (IsEntryOf made) same (record { node = refl; index = refl; kind = refl; size = refl; addr = refl; stored = refl })

respects : (image : ImageView) (model : Model) (order : List Access) (cores : List CoreView) (runs : List Ran) → AreRuns image model order cores runs → Respects model (map (λ ran. ran.accesses) runs) order
respects image model order cores runs are = record {
  made = λ j e at.
      let of = ran_of image model order cores runs are j e at in
      let m = (listed_at image model order cores runs are e.node.0 of.0 of.1).made j e at refl in
      (m.0, made_at-from runs e.node.0 e.index of.0 of.1 ∙ m.1, entry_of m.0.access e m.2);
  all = λ p i m is.
      let has = has_made runs p i m is in
      let listed = listed_at image model order cores runs are p has.ran has.stands in
      let place = listed.all i m has.at in
      let number = listed.numbered i m has.at in
      (place.0, m.access, place.1, number.0, number.1);
  once = λ j k e f at_j at_k same_node same_index.
      let of = ran_of image model order cores runs are j e at_j in
      (listed_at image model order cores runs are e.node.0 of.0 of.1).once j k e f at_j at_k refl (sym same_node) same_index;
  ordered = λ j k e f x y at_j at_k same_node earlier made_x made_y needed. before j k e f x y at_j at_k same_node earlier made_x made_y needed;
}
  where
    before : (j k : ℕ) (e f : Access) (x y : Made) → slice_get order j ≡ Some e → slice_get order k ≡ Some f → e.node.0 ≡ f.node.0 → e.index < f.index →
        made_at (map (λ ran. ran.accesses) runs) e.node.0 e.index ≡ Some x → made_at (map (λ ran. ran.accesses) runs) f.node.0 f.index ≡ Some y → needs model x y ≡ true → j < k
    before j k e f x y at_j at_k same_node earlier made_x made_y needed =
        let of = ran_of image model order cores runs are k f at_k in
        let listed = listed_at image model order cores runs are f.node.0 of.0 of.1 in
        let at_x : slice_get of.0.accesses e.index ≡ Some x =
        sym (made_at-from runs f.node.0 e.index of.0 of.1) ∙ ap (λ (p : ℕ). made_at (map (λ (ran : Ran). ran.accesses) runs) p e.index) (sym same_node) ∙ made_x in
        let at_y : slice_get of.0.accesses f.index ≡ Some y = sym (made_at-from runs f.node.0 f.index of.0 of.1) ∙ made_y in
        let place = listed.ordered k f e.index x y at_k refl earlier at_x at_y needed in
        let m = listed.made j e at_j same_node in
        let same : m.0 ≡ x = Some-injective (sym m.1 ∙ at_x) in
        let is_e : x.access ≡ e = ap (λ (n : Made). n.access) (sym same) ∙ m.2 in
        let of_f : x.access.node.0 ≡ f.node.0 = ap (λ (a : Access). a.node.0) is_e ∙ same_node in
        let here : j ≡ place.0 = listed.once j place.0 e x.access at_j place.1 same_node of_f (ap (λ (a : Access). a.index) (sym is_e)) in
        let low = place.2 in
        omega arith

fit : (image : ImageView) (model : Model) (m : MachineView) (taken : List Access) (runs : List Ran) → Stands image model taken m → AreRuns image model (order_so_far taken m) m.cores runs →
    Fit image model (map (λ (c : CoreView). c.retired) m.cores) (order_so_far taken m) runs
fit image model m taken runs stands are = record {
  values = map (λ ran. loaded_values ran.accesses) runs;
  are_loaded = λ j e vs at is_load at_values. loaded j e vs at at_values;
  have_values = length-map runs (λ ran. loaded_values ran.accesses) ∙ are.count ∙ sym (length-map m.cores (λ (c : CoreView). c.retired));
  have_runs = are.count ∙ sym (length-map m.cores (λ (c : CoreView). c.retired));
  are_run = λ p k vs ran at_steps at_values at_runs. has_run p k vs ran at_steps at_values at_runs;
  respects = respects image model (order_so_far taken m) m.cores runs are;
  explains = stands.explains;
}
  where
    loaded : (j : ℕ) (e : Access) (vs : List ℕ) → slice_get (order_so_far taken m) j ≡ Some e → slice_get (map (λ ran. loaded_values ran.accesses) runs) e.node.0 ≡ Some vs → slice_get vs e.index ≡ Some e.loaded
    loaded j e vs at at_values =
        let from = slice_get_unmapped (λ (ran : Ran). loaded_values ran.accesses) runs e.node.0 vs at_values in
        let made = (listed_at image model (order_so_far taken m) m.cores runs are e.node.0 from.0 from.1).made j e at refl in
        ap (λ (xs : List ℕ). slice_get xs e.index) from.2 ∙ slice_get_mapped (λ (x : Made). x.access.loaded) from.0.accesses e.index made.0 made.1 ∙ ap (λ (a : Access). Some a.loaded) made.2

    has_run : (p k : ℕ) (vs : List ℕ) (ran : Ran) → slice_get (map (λ (c : CoreView). c.retired) m.cores) p ≡ Some k → slice_get (map (λ ran. loaded_values ran.accesses) runs) p ≡ Some vs →
        slice_get runs p ≡ Some ran → run image p (length (map (λ (c : CoreView). c.retired) m.cores)) k vs ≡ Some ran
    has_run p k vs ran at_steps at_values at_runs =
        let core = slice_get_unmapped (λ (c : CoreView). c.retired) m.cores p k at_steps in
        let from = slice_get_unmapped (λ (r : Ran). loaded_values r.accesses) runs p vs at_values in
        let same : from.0 ≡ ran = Some-injective (sym from.1 ∙ at_runs) in
        let by = are.each p core.0 ran core.1 at_runs in
        let values : vs ≡ loaded_values by.is.ran.accesses = from.2 ∙ ap (λ (r : Ran). loaded_values r.accesses) (same ∙ sym by.same) in
        ap (λ (n : ℕ). run image p n k vs) (length-map m.cores (λ (c : CoreView). c.retired))
        ∙ ap (λ (j : ℕ). run image p (length m.cores) j vs) core.2
        ∙ ap (run image p (length m.cores) core.0.retired) values
        ∙ by.is.has_run ∙ ap Some by.same

pub Closed-from : (image : ImageView) (model : Model) (taken : List Access) (m : MachineView) → Stands image model taken m → Closed image model taken m
Closed-from image model taken m stands =
    let all : Chosen (IsRunBy image model (length m.cores) (order_so_far taken m)) m.cores =
    chosen (IsRunBy image model (length m.cores) (order_so_far taken m)) m.cores (λ p c at. let r = stands.runs p c at in (r.ran, record { is = r; same = refl })) in
    let are : AreRuns image model (order_so_far taken m) m.cores all.list = record { count = all.count; nodes = stands.nodes; each = all.each } in
    record {
      runs = all.list;
      fits = fit image model m taken all.list stands are;
      are_runs = λ p c ran at_core at_run.
          let by = all.each p c ran at_core at_run in
          (ap (λ (r : Ran). r.state) (sym by.same) ∙ by.is.state, ap (λ (r : Ran). r.output) (sym by.same) ∙ by.is.output, ap (λ (r : Ran). length r.accesses) (sym by.same) ∙ by.is.count);
      retired = stands.retired;
      told = stands.told;
      few = stands.few;
    }

pub Closed-taken : (image : ImageView) (model : Model) (taken : List Access) (old new : MachineView) (a : Access) → TakesFirst old new a → Closed image model taken old → Closed image model (taken ++ a ∷ []) new
Closed-taken image model taken old new a takes closed =
    let same = order_so_far-taken taken old new a takes in
    record {
      runs = closed.runs;
      fits = subst (λ (order : List Access). Fit image model (map (λ (c : CoreView). c.retired) new.cores) order closed.runs) (sym same)
          (subst (λ (cores : List CoreView). Fit image model (map (λ (c : CoreView). c.retired) cores) (order_so_far taken old) closed.runs) (sym takes.cores) closed.fits);
      are_runs = λ p c ran at. closed.are_runs p c ran (ap (λ (cores : List CoreView). slice_get cores p) (sym takes.cores) ∙ at);
      retired = AreRetired-taken old new a takes closed.retired;
      told = λ j e at. closed.told j e (ap (λ (order : List Access). slice_get order j) (sym same) ∙ at);
      few = few_taken taken old new a takes closed.few;
    }
