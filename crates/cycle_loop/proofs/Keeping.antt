-- What a machine keeps so that each of its calls may be made.
use Rattle.std.proofs.Common.{◌≡◌, ◌≤◌, ◌+◌, ◌++◌, ◌&&◌, ℕ, suc, Bool, true, false, if◌then◌else◌, List, [], ◌∷◌, length, map, fold, Option, None, Some, IfSome, slice_get, refl, sym, ap, subst, ◌∙◌, ⊎_elim, add-one, arith}
use Rattle.std.specs.List.{list_all}
use Rattle.std.proofs.lemmas.List.{length-map, map-append}
use Rattle.rsim_base.specs.declared.memory.Access.{Access}
use Rattle.rsim_base.specs.declared.memory.Model.{Model}
use Rattle.sparc_meaning.specs.Arch.{IsSound}
use Rattle.cycle_loop.specs.Answers.{waiting_stores}
use Rattle.cycle_loop.specs.Processors.{view_of}
use Rattle.cycle_loop.specs.Stands.{Closed, Stands}
use Rattle.cycle_loop.specs.declared.processor.Processor.{Processor}
use Rattle.cycle_loop.proofs.Closing.{Closed-taken}
use Rattle.cycle_loop.proofs.Cycling.{Stands-cycle, Stands-taken}
use Rattle.list_facts.specs.Places.{length_more, slice_get_more}
use Rattle.rsim_base.specs.declared.memory.Line.{Line}
use Rattle.rsim_base.specs.declared.memory.Node.{Node}
use Rattle.elf64_load.specs.Image.{ImageView}
use Rattle.machine_config.specs.declared.config.Config.{Config}
use Rattle.memory_contracts.specs.Store as store
use Rattle.memory_contracts.specs.Store.{StoreView, Ticks}
use Rattle.order_log.specs.Log.{Place, after_pop, first_final}
use Rattle.cycle_loop.specs.Ranges.{AreSound, HaveNumbers}
use Rattle.cycle_loop.specs.Machine.{CoreCycle, CoreView, MachineView, Turned, turns}
use Rattle.cycle_loop.specs.Machines.{Serves}
use Rattle.cycle_loop.specs.Ready.{AreCounted, IsCounted, IsReady, views_of}
use Rattle.cycle_loop.specs.Start.{AreBooted, IsAtStart, booted}

-- after a cycle
pub IsReady-cycle : (image : ImageView) (line_bytes : ℕ) (old : MachineView) (v w : StoreView) (lost : List (Node × Line)) (cores : List CoreView) (log : List Place) → IsReady image line_bytes old → Ticks old.store v lost →
    w ≡ record v { bytes = w.bytes; wishes = w.wishes } → length cores ≡ length old.cores → AreSound cores → HaveNumbers log → AreCounted (old.cycles + 1) cores →
    IsReady image line_bytes (record { cores = cores; store = w; log = log; cycles = old.cycles + 1 })
IsReady-cycle image line_bytes old v w lost cores log ready ticks turned count sound numbers counted = record {
  nodes = ap (λ (u : StoreView). u.nodes) turned ∙ ap (λ (u : StoreView). u.nodes) ticks.same ∙ ready.nodes ∙ sym count;
  most = let most = ready.most in omega arith;
  mapped = ap (λ (u : StoreView). u.mapped) turned ∙ ap (λ (u : StoreView). u.mapped) ticks.same ∙ ready.mapped;
  line = ready.line ∙ sym (ap (λ (u : StoreView). u.line_bytes) turned ∙ ap (λ (u : StoreView). u.line_bytes) ticks.same);
  some = ready.some;
  ticks = ap (λ (u : StoreView). u.ticks) turned ∙ ap (λ (u : StoreView). u.ticks) ticks.same ∙ ap (λ n. n + 1) ready.ticks;
  kept = record { cores = sound; log = numbers };
  counted = counted;
}

AreSound-same : (cores new : List CoreView) → new ≡ cores → AreSound cores → AreSound new
AreSound-same cores new same sound = subst AreSound (sym same) sound

pub AreSound-views : (image : ImageView) (line_bytes : ℕ) (m : MachineView) (new : List CoreView) → IsReady image line_bytes m → new ≡ m.cores → AreSound new
AreSound-views image line_bytes m new ready same = AreSound-same m.cores new same ready.kept.cores

HaveNumbers-rest : (log : List Place) → HaveNumbers log → HaveNumbers (after_pop log)
HaveNumbers-rest [] all = all
HaveNumbers-rest (x ∷ log) all = by_test x.retired
  where
    by_test : (b : Bool) → HaveNumbers (if b then log else x ∷ log)
    by_test true = λ j y at. all (suc j) y at
    by_test false = all

-- after an access was taken out of the log
pub IsReady-taken : (image : ImageView) (line_bytes : ℕ) (old : MachineView) (log : List Place) → IsReady image line_bytes old → log ≡ after_pop old.log → IsReady image line_bytes (record old { log = log })
IsReady-taken image line_bytes old log ready same = record {
  nodes = ready.nodes;
  most = ready.most;
  mapped = ready.mapped;
  line = ready.line;
  some = ready.some;
  ticks = ready.ticks;
  kept = record { cores = ready.kept.cores; log = subst HaveNumbers (sym same) (HaveNumbers-rest old.log ready.kept.log) };
  counted = ready.counted;
}

-- before the first cycle
pub IsReady-start : (image : ImageView) (config : Config) (line_bytes : ℕ) (v : StoreView) (cores : List CoreView) (log : List Place) → Serves image config v → length cores ≡ config.processors → config.processors ≤ 16 →
    line_bytes ≡ config.line → 16 ≤ config.line → log ≡ [] → AreSound cores → ((p : ℕ) (c : CoreView) → slice_get cores p ≡ Some c → c ≡ booted image config.processors p) →
    IsReady image line_bytes (record { cores = cores; store = v; log = log; cycles = 0 })
IsReady-start image config line_bytes v cores log serves count most line low none sound first = record {
  nodes = serves.nodes ∙ sym count;
  most = omega arith;
  mapped = serves.mapped;
  line = line ∙ sym serves.line_bytes;
  some = omega arith;
  ticks = serves.ticks;
  kept = record { cores = sound; log = subst HaveNumbers (sym none) (λ j x at. absurd cc) };
  counted = λ p c at. subst (IsCounted 0) (sym (first p c at)) (record { accesses = omega arith; retired = omega arith });
}

pub IsAtStart-made : (image : ImageView) (config : Config) (v : StoreView) (cores : List CoreView) (log : List Place) → store.IsSound v → Serves image config v → length cores ≡ config.processors → log ≡ [] →
    ((p : ℕ) (c : CoreView) → slice_get cores p ≡ Some c → c ≡ booted image config.processors p) → IsAtStart image (record { cores = cores; store = v; log = log; cycles = 0 })
IsAtStart-made image config v cores log sound serves count none first = record {
  cores = λ p c at. first p c at ∙ ap (λ (n : ℕ). booted image n p) (sym count);
  log = none;
  memory = serves.bytes;
  bytes = λ a fits. sound.small a;
  cycles = refl;
}

-- ---- a cycle as the code makes it

-- room was made, the store has ticked, and all have had their turns
pub record HasCycled (image : ImageView) (old : MachineView) (v w : StoreView) (lost : List (Node × Line)) (mid new : List Processor) (log0 log : List Place) : Type 0 where
  pub views : views_of mid ≡ old.cores
  pub places : log0 ≡ old.log
  pub ticks : Ticks old.store v lost
  pub rule : ◌≡◌ {A = Turned} (record { cores = views_of new; log = log; bytes = w.bytes }) (turns image v 0 (views_of mid) log0 v.bytes)
  pub store : w ≡ record v { bytes = w.bytes; wishes = w.wishes }
  pub count : length new ≡ length mid
  pub sound : AreSound (views_of new)
  pub counted : (n : ℕ) → AreCounted n (views_of mid) → AreCounted (n + 1) (views_of new)
  pub numbers : HaveNumbers log0 → HaveNumbers log

abbrev pub cycled : MachineView → StoreView → List Processor → List Place → MachineView
cycled old w new log = record { cores = views_of new; store = w; log = log; cycles = old.cycles + 1 }

pub HasCycled-count : (image : ImageView) (old : MachineView) (v w : StoreView) (lost : List (Node × Line)) (mid new : List Processor) (log0 log : List Place) → HasCycled image old v w lost mid new log0 log → length (views_of new) ≡ length old.cores
HasCycled-count image old v w lost mid new log0 log h = length-map new view_of ∙ h.count ∙ sym (length-map mid view_of) ∙ ap length h.views

pub HasCycled-ready : (image : ImageView) (line_bytes : ℕ) (old : MachineView) (v w : StoreView) (lost : List (Node × Line)) (mid new : List Processor) (log0 log : List Place) → IsReady image line_bytes old →
    HasCycled image old v w lost mid new log0 log → IsReady image line_bytes (cycled old w new log)
HasCycled-ready image line_bytes old v w lost mid new log0 log ready h =
    IsReady-cycle image line_bytes old v w lost (views_of new) log ready h.ticks h.store (HasCycled-count image old v w lost mid new log0 log h) h.sound
    (h.numbers (subst HaveNumbers (sym h.places) ready.kept.log)) (h.counted old.cycles (subst (AreCounted old.cycles) (sym h.views) ready.counted))

pub HasCycled-cycle : (image : ImageView) (old : MachineView) (v w : StoreView) (lost : List (Node × Line)) (mid new : List Processor) (log0 log : List Place) → HasCycled image old v w lost mid new log0 log → CoreCycle image old (cycled old w new log)
HasCycled-cycle image old v w lost mid new log0 log h =
    let all : ◌≡◌ {A = Turned} (record { cores = views_of new; log = log; bytes = w.bytes }) (turns image v 0 old.cores old.log v.bytes) =
    h.rule ∙ ap (λ (cores : List CoreView). turns image v 0 cores log0 v.bytes) h.views ∙ ap (λ (l : List Place). turns image v 0 old.cores l v.bytes) h.places in
    record {
      ticked = v;
      lost = lost;
      ticks = h.ticks;
      cores = ap (λ (t : Turned). t.cores) all;
      log = ap (λ (t : Turned). t.log) all;
      store = h.store ∙ ap (λ (t : Turned). let s : StoreView = record v { bytes = t.bytes; wishes = w.wishes } in s) all;
      cycles = refl;
    }

pub HasCycled-stands : (image : ImageView) (line_bytes : ℕ) (old : MachineView) (v w : StoreView) (lost : List (Node × Line)) (mid new : List Processor) (log0 log : List Place) → IsReady image line_bytes old →
    HasCycled image old v w lost mid new log0 log → (model : Model) (taken : List Access) → Stands image model taken old → Stands image model taken (cycled old w new log)
HasCycled-stands image line_bytes old v w lost mid new log0 log ready h model taken stands =
    Stands-cycle image model taken old (cycled old w new log) (HasCycled-cycle image old v w lost mid new log0 log h) (HasCycled-ready image line_bytes old v w lost mid new log0 log ready h).kept stands

-- ---- an access that is taken out

pub Stands-first : (image : ImageView) (model : Model) (taken : List Access) (m : MachineView) (log : List Place) (found : Option Access) → found ≡ first_final m.log → log ≡ after_pop m.log → Stands image model taken m →
    IfSome found (λ a. Stands image model (taken ++ a ∷ []) (record m { log = log }))
Stands-first image model taken m log None is rest stands = tt
Stands-first image model taken m log (Some a) is rest stands = Stands-taken image model taken m (record m { log = log }) a (record { taken = sym is; log = rest; cores = refl; bytes = refl }) stands

pub Closed-first : (image : ImageView) (model : Model) (taken : List Access) (m : MachineView) (log : List Place) (found : Option Access) → found ≡ first_final m.log → log ≡ after_pop m.log → Closed image model taken m →
    IfSome found (λ a. Closed image model (taken ++ a ∷ []) (record m { log = log }))
Closed-first image model taken m log None is rest closed = tt
Closed-first image model taken m log (Some a) is rest closed = Closed-taken image model taken m (record m { log = log }) a (record { taken = sym is; log = rest; cores = refl; bytes = refl }) closed

-- ---- processors before their first steps

pub record IsBooted (image : ImageView) (n : ℕ) (items : List Processor) (p : ℕ) : Type 0 where
  pub count : length items ≡ p
  pub first : AreBooted image n (views_of items)
  pub sound : AreSound (views_of items)

pub IsBooted-more : (image : ImageView) (n : ℕ) (items new : List Processor) (p : ℕ) (x : Processor) → IsBooted image n items p → view_of x ≡ booted image n p → IsSound x.arch → new ≡ items ++ x ∷ [] → IsBooted image n new (p + 1)
IsBooted-more image n items new p x all is sound same =
    let more : views_of new ≡ views_of items ++ view_of x ∷ [] = ap views_of same ∙ map-append view_of items (x ∷ []) in
    let count : length (views_of items) ≡ p = length-map items view_of ∙ all.count in
    record {
      count = ap length same ∙ length_more items x ∙ ap suc all.count ∙ sym (add-one p);
      first = λ i c at. ⊎_elim (all.first i c) (λ last. last.1 ∙ is ∙ ap (booted image n) (sym (last.0 ∙ count))) (slice_get_more (views_of items) (view_of x) i c (ap (λ (cs : List CoreView). slice_get cs i) (sym more) ∙ at));
      sound = λ i c at. ⊎_elim (all.sound i c) (λ last. subst (λ (d : CoreView). IsSound d.arch) (sym last.1) sound) (slice_get_more (views_of items) (view_of x) i c (ap (λ (cs : List CoreView). slice_get cs i) (sym more) ∙ at));
    }

-- ---- answers

pub list_all-map : {A B : Type 0} (test : B → Bool) (f : A → B) (xs : List A) → list_all test (map f xs) ≡ list_all (λ x. test (f x)) xs
list_all-map test f [] = refl
list_all-map test f (x ∷ xs) = ap (λ b. test (f x) && b) (list_all-map test f xs)

none_waiting : (xs : List Processor) (n : ℕ) → fold (λ a (c : CoreView). a + length c.waiting) n (views_of xs) ≡ n
none_waiting [] n = refl
none_waiting (x ∷ xs) n = let same : n + 0 ≡ n = omega arith in ap (λ k. fold (λ a (c : CoreView). a + length c.waiting) k (views_of xs)) same ∙ none_waiting xs n

pub waiting_stores-none : (xs : List Processor) → 0 ≡ waiting_stores (views_of xs)
waiting_stores-none xs = sym (none_waiting xs 0)
