-- A cycle keeps what stands, and puts its accesses behind all others.
use Rattle.std.proofs.Common.{◌≡◌, ◌≤◌, ◌+◌, ◌++◌, ◌&&◌, not, ℕ, suc, Bool, true, false, if◌then◌else◌, List, [], ◌∷◌, length, map, None, Some, slice_get, refl, sym, ap, subst, ◌∙◌, append_assoc, arith}
use Rattle.std.proofs.lemmas.Bool.{and_parts}
use Rattle.std.proofs.lemmas.List.{length-append, length-map, map-append}
use Rattle.std.proofs.lemmas.List.Sums.{sum_by-cons}
use Rattle.std.proofs.lemmas.List.Elements.{All-append, All-nil, All-cons}
use Rattle.rsim_base.specs.declared.memory.Access.{Access}
use Rattle.rsim_base.specs.declared.memory.Model.{Model}
use Rattle.elf64_load.specs.Image.{ImageView}
use Rattle.memory_contracts.specs.Store.{StoreView}
use Rattle.order_log.specs.Laws.{AreRetired, AreRetired-rest}
use Rattle.order_log.specs.Log.{Place, placed, after_pop, first_final}
use Rattle.sparc_meaning.specs.Arch.{IsSound, is_running}
use Rattle.sparc_meaning.specs.Run.{accesses_of}
use Rattle.sparc_meaning.specs.Stepped.{Stepped}
use Rattle.sparc_meaning.specs.declared.acts.Act.{Act}
use Rattle.sparc_meaning.specs.declared.acts.Act.TheVariants.{Nothing, Load, Store, Atomic, Fence, Out, End as Ended}
use Rattle.cycle_loop.specs.Answers.{all_retired}
use Rattle.cycle_loop.specs.Ranges.{AreSound, HaveNumbers, IsKept}
use Rattle.sparc_meaning.specs.Accesses.{HasNumbers}
use Rattle.sparc_meaning.specs.Runs.{accesses_of-few}
use Rattle.cycle_loop.specs.Machine.{At, CoreCycle, CoreView, MachineView, Turned, after_step, bytes_after, core_after, lacks_line, next_step, turn, turns, with_taken}
use Rattle.cycle_loop.specs.Stands.{Stands, order_so_far}
use Rattle.list_facts.specs.Places.{length_more, slice_get-append_left, slice_get_middle}
use Rattle.cycle_loop.proofs.Turning.{Stand, Stand-stepped}

-- ---- accesses put into the log

accesses_of-places : (made : List Access) → map (λ (x : Place). x.access) (map (λ a. placed a true) made) ≡ made
accesses_of-places [] = refl
accesses_of-places (e ∷ made) = ap (λ xs. e ∷ xs) (accesses_of-places made)

order_more : (taken : List Access) (log : List Place) (made : List Access) →
    (taken ++ map (λ (x : Place). x.access) log) ++ made ≡ taken ++ map (λ (x : Place). x.access) (log ++ map (λ a. placed a true) made)
order_more taken log made =
    append_assoc taken (map (λ (x : Place). x.access) log) made
    ∙ ap (λ xs. taken ++ xs) (ap (λ xs. map (λ (x : Place). x.access) log ++ xs) (sym (accesses_of-places made)) ∙ sym (map-append (λ (x : Place). x.access) log (map (λ a. placed a true) made)))

AreRetired-places : (made : List Access) → AreRetired (map (λ a. placed a true) made)
AreRetired-places [] = All-nil (λ (x : Place). x.retired ≡ true)
AreRetired-places (e ∷ made) = All-cons (λ (x : Place). x.retired ≡ true) (placed e true) (map (λ a. placed a true) made) refl (AreRetired-places made)

-- ---- a turn

-- a turn by its test
abbrev pub turn_by : Bool → ℕ → Stepped → At → At
turn_by b p s x = if b then after_step p s x else x

turn_stands : (image : ImageView) (model : Model) (taken : List Access) (done : List CoreView) (c : CoreView) (cs : List CoreView) (log : List Place) (bytes : ℕ → ℕ) (b : Bool) →
    (b ≡ true → is_running c.arch.end ≡ true) → let s = next_step image bytes c.arch in let x = turn_by b (length done) s (record { core = c; log = log; bytes = bytes }) in
    IsSound x.core.arch → HaveNumbers x.log → Stand image model (taken ++ map (λ (x : Place). x.access) log) (done ++ c ∷ cs) bytes →
    Stand image model (taken ++ map (λ (x : Place). x.access) x.log) (done ++ x.core ∷ cs) x.bytes
turn_stands image model taken done c cs log bytes false runs sound numbers stand = stand
turn_stands image model taken done c cs log bytes true runs sound numbers stand =
    let p = length done in
    let s = next_step image bytes c.arch in
    let made = accesses_of p c.accesses s.act in
    let after = Stand-stepped image model (taken ++ map (λ (x : Place). x.access) log) done c cs bytes stand (runs refl) sound (λ e one. new_numbers e made one (numbers)) in
    subst (λ (order : List Access). Stand image model order (done ++ core_after p s c ∷ cs) (bytes_after s.act bytes)) (order_more taken log made) after
  where
    new_numbers : (e : Access) (made : List Access) → made ≡ e ∷ [] → HaveNumbers (log ++ map (λ a. placed a true) made) → HasNumbers e
    new_numbers e made one numbers =
        numbers (length log) (placed e true) (ap (λ xs. slice_get (log ++ map (λ a. placed a true) xs) (length log)) one ∙ slice_get_middle log (placed e true) [])

runs_where : (image : ImageView) (v : StoreView) (p : ℕ) (c : CoreView) (bytes : ℕ → ℕ) →
    (is_running c.arch.end && not (lacks_line v p (next_step image bytes c.arch).act)) ≡ true → is_running c.arch.end ≡ true
runs_where image v p c bytes e = (and_parts (is_running c.arch.end) (not (lacks_line v p (next_step image bytes c.arch).act)) e).0

-- what the log has stays
turn_by-keeps : (b : Bool) (p : ℕ) (s : Stepped) (x : At) (i : ℕ) (y : Place) → slice_get x.log i ≡ Some y → slice_get (turn_by b p s x).log i ≡ Some y
turn_by-keeps true p s x i y at = slice_get-append_left x.log _ i y at
turn_by-keeps false p s x i y at = at

turns_keep : (image : ImageView) (v : StoreView) (p : ℕ) (cs : List CoreView) (log : List Place) (bytes : ℕ → ℕ) (i : ℕ) (y : Place) → slice_get log i ≡ Some y → slice_get (turns image v p cs log bytes).log i ≡ Some y
turns_keep image v p [] log bytes i y at = at
turns_keep image v p (c ∷ cs) log bytes i y at =
    let x = turn image v p (record { core = c; log = log; bytes = bytes }) in
    turns_keep image v (suc p) cs x.log x.bytes i y (turn_by-keeps _ p (next_step image bytes c.arch) (record { core = c; log = log; bytes = bytes }) i y at)

-- ---- the turns of all

turns_stand : (image : ImageView) (model : Model) (v : StoreView) (taken : List Access) (p : ℕ) (done cs : List CoreView) (log : List Place) (bytes : ℕ → ℕ) → p ≡ length done →
    let t = turns image v p cs log bytes in AreSound t.cores → HaveNumbers t.log →
    Stand image model (taken ++ map (λ (x : Place). x.access) log) (done ++ cs) bytes → Stand image model (taken ++ map (λ (x : Place). x.access) t.log) (done ++ t.cores) t.bytes
turns_stand image model v taken p done [] log bytes place sound numbers stand = stand
turns_stand image model v taken p done (c ∷ cs) log bytes place sound numbers stand =
    let x0 : At = record { core = c; log = log; bytes = bytes } in
    let x = turn image v p x0 in
    let t = turns image v (suc p) cs x.log x.bytes in
    let numbers_now : HaveNumbers x.log = λ j y at. numbers j y (turns_keep image v (suc p) cs x.log x.bytes j y at) in
    let test = is_running c.arch.end && not (lacks_line v p (next_step image bytes c.arch).act) in
    let sound_now : IsSound x.core.arch = sound 0 x.core refl in
    let turned : Stand image model (taken ++ map (λ (y : Place). y.access) x.log) (done ++ x.core ∷ cs) x.bytes =
    at_place p place test refl sound_now numbers_now in
    let regrouped : Stand image model (taken ++ map (λ (y : Place). y.access) x.log) ((done ++ x.core ∷ []) ++ cs) x.bytes =
    subst (λ (all : List CoreView). Stand image model (taken ++ map (λ (y : Place). y.access) x.log) all x.bytes) (sym (append_assoc done (x.core ∷ []) cs)) turned in
    let further = turns_stand image model v taken (suc p) (done ++ x.core ∷ []) cs x.log x.bytes (ap suc place ∙ sym (length_more done x.core))
    (λ q d at. sound (suc q) d at) numbers regrouped in
    subst (λ (all : List CoreView). Stand image model (taken ++ map (λ (y : Place). y.access) t.log) all t.bytes) (append_assoc done (x.core ∷ []) t.cores) further
  where
    at_place : (q : ℕ) → q ≡ length done → (b : Bool) → (is_running c.arch.end && not (lacks_line v p (next_step image bytes c.arch).act)) ≡ b →
        let x = turn_by b q (next_step image bytes c.arch) (record { core = c; log = log; bytes = bytes }) in
        IsSound x.core.arch → HaveNumbers x.log → Stand image model (taken ++ map (λ (y : Place). y.access) x.log) (done ++ x.core ∷ cs) x.bytes
    at_place q place b is sound numbers =
        subst (λ (k : ℕ). let x = turn_by b k (next_step image bytes c.arch) (record { core = c; log = log; bytes = bytes }) in
        IsSound x.core.arch → HaveNumbers x.log → Stand image model (taken ++ map (λ (y : Place). y.access) x.log) (done ++ x.core ∷ cs) x.bytes) (sym place)
        (λ sound_k numbers_k. turn_stands image model taken done c cs log bytes b (λ e. runs_where image v p c bytes (is ∙ e)) sound_k numbers_k stand) sound numbers

-- ---- no more accesses than steps

turn_by-few : (b : Bool) (p : ℕ) (s : Stepped) (x : At) → length (turn_by b p s x).log + x.core.retired ≤ length x.log + (turn_by b p s x).core.retired
turn_by-few false p s x = omega arith
turn_by-few true p s x =
    let made = accesses_of p x.core.accesses s.act in
    let places = length-append x.log (map (λ a. placed a true) made) in
    let same = length-map made (λ a. placed a true) in
    let one = accesses_of-few p x.core.accesses s.act in
    omega arith

turns_few : (image : ImageView) (v : StoreView) (p : ℕ) (cs : List CoreView) (log : List Place) (bytes : ℕ → ℕ) → let t = turns image v p cs log bytes in length t.log + all_retired cs ≤ length log + all_retired t.cores
turns_few image v p [] log bytes = omega arith
turns_few image v p (c ∷ cs) log bytes =
    let x0 : At = record { core = c; log = log; bytes = bytes } in
    let x = turn image v p x0 in
    let t = turns image v (suc p) cs x.log x.bytes in
    let here : length x.log + c.retired ≤ length log + x.core.retired = turn_by-few (is_running c.arch.end && not (lacks_line v p (next_step image bytes c.arch).act)) p (next_step image bytes c.arch) x0 in
    let behind : length t.log + all_retired cs ≤ length x.log + all_retired t.cores = turns_few image v (suc p) cs x.log x.bytes in
    let old : all_retired (c ∷ cs) ≡ c.retired + all_retired cs = sum_by-cons (λ (d : CoreView). d.retired) c cs in
    let new : all_retired (x.core ∷ t.cores) ≡ x.core.retired + all_retired t.cores = sum_by-cons (λ (d : CoreView). d.retired) x.core t.cores in
    omega arith

length_so_far : (taken : List Access) (m : MachineView) → length (order_so_far taken m) ≡ length taken + length m.log
length_so_far taken m = length-append taken (map (λ (x : Place). x.access) m.log) ∙ ap (λ n. length taken + n) (length-map m.log (λ (x : Place). x.access))

few_after : (image : ImageView) (taken : List Access) (old new : MachineView) → CoreCycle image old new → length (order_so_far taken old) ≤ all_retired old.cores → length (order_so_far taken new) ≤ all_retired new.cores
few_after image taken old new cycle few =
    let t = turns image cycle.ticked 0 old.cores old.log cycle.ticked.bytes in
    let more : length t.log + all_retired old.cores ≤ length old.log + all_retired t.cores = turns_few image cycle.ticked 0 old.cores old.log cycle.ticked.bytes in
    let before = length_so_far taken old in
    let now = length_so_far taken new in
    let log : length new.log ≡ length t.log = ap length cycle.log in
    let cores : all_retired new.cores ≡ all_retired t.cores = ap all_retired cycle.cores in
    omega arith

-- ---- all that stands

pub Stands-parts : (image : ImageView) (model : Model) (taken : List Access) (m : MachineView) → Stands image model taken m → Stand image model (order_so_far taken m) m.cores m.store.bytes
Stands-parts image model taken m stands = record {
  runs = stands.runs;
  text = record { nodes = stands.nodes; told = stands.told; explains = stands.explains; memory = record { written = stands.memory; small = stands.bytes } };
}

pub Stands-from : (image : ImageView) (model : Model) (taken : List Access) (m : MachineView) → AreRetired m.log → length (order_so_far taken m) ≤ all_retired m.cores → Stand image model (order_so_far taken m) m.cores m.store.bytes → Stands image model taken m
Stands-from image model taken m retired few stand = record {
  runs = stand.runs;
  nodes = stand.text.nodes;
  retired = retired;
  told = stand.text.told;
  few = few;
  explains = stand.text.explains;
  memory = stand.text.memory.written;
  bytes = stand.text.memory.small;
}

turn_by-retired : (b : Bool) (p : ℕ) (s : Stepped) (x : At) → AreRetired x.log → AreRetired (turn_by b p s x).log
turn_by-retired false p s x retired = retired
turn_by-retired true p s x retired = All-append (λ (y : Place). y.retired ≡ true) x.log (map (λ a. placed a true) (accesses_of p x.core.accesses s.act)) retired (AreRetired-places (accesses_of p x.core.accesses s.act))

turns_retired : (image : ImageView) (v : StoreView) (p : ℕ) (cs : List CoreView) (log : List Place) (bytes : ℕ → ℕ) → AreRetired log → AreRetired (turns image v p cs log bytes).log
turns_retired image v p [] log bytes retired = retired
turns_retired image v p (c ∷ cs) log bytes retired =
    let x0 : At = record { core = c; log = log; bytes = bytes } in
    let x = turn image v p x0 in
    turns_retired image v (suc p) cs x.log x.bytes (turn_by-retired (is_running c.arch.end && not (lacks_line v p (next_step image bytes c.arch).act)) p (next_step image bytes c.arch) x0 retired)

-- What stands before a cycle stands behind it.
pub Stands-cycle : (image : ImageView) (model : Model) (taken : List Access) (old new : MachineView) → CoreCycle image old new → IsKept new → Stands image model taken old → Stands image model taken new
Stands-cycle image model taken old new cycle kept stands =
    let v = cycle.ticked in
    let before = Stands-parts image model taken old stands in
    let same : v.bytes ≡ old.store.bytes = ap (λ (s : StoreView). s.bytes) cycle.ticks.same in
    let ticked : Stand image model (order_so_far taken old) old.cores v.bytes = subst (Stand image model (order_so_far taken old) old.cores) (sym same) before in
    let t = turns image v 0 old.cores old.log v.bytes in
    let sound : AreSound t.cores = subst AreSound cycle.cores kept.cores in
    let numbers : HaveNumbers t.log = subst HaveNumbers cycle.log kept.log in
    let turned = turns_stand image model v taken 0 [] old.cores old.log v.bytes refl sound numbers ticked in
    let bytes : new.store.bytes ≡ t.bytes = ap (λ (s : StoreView). s.bytes) cycle.store in
    let retired : AreRetired new.log = subst AreRetired (sym cycle.log) (turns_retired image v 0 old.cores old.log v.bytes stands.retired) in
    let with_cores : Stand image model (taken ++ map (λ (y : Place). y.access) t.log) new.cores t.bytes =
    subst (λ (cores : List CoreView). Stand image model (taken ++ map (λ (y : Place). y.access) t.log) cores t.bytes) (sym cycle.cores) turned in
    let with_bytes : Stand image model (taken ++ map (λ (y : Place). y.access) t.log) new.cores new.store.bytes =
    subst (Stand image model (taken ++ map (λ (y : Place). y.access) t.log) new.cores) (sym bytes) with_cores in
    Stands-from image model taken new retired (few_after image taken old new cycle stands.few)
    (subst (λ (log : List Place). Stand image model (taken ++ map (λ (y : Place). y.access) log) new.cores new.store.bytes) (sym cycle.log) with_bytes)

-- ---- what stands before the log stays there

turn_by-behind : (b : Bool) (p : ℕ) (s : Stepped) (core : CoreView) (xs log : List Place) (bytes : ℕ → ℕ) → let x0 : At = record { core = core; log = log; bytes = bytes } in
    turn_by b p s (record x0 { log = xs ++ log }) ≡ record (turn_by b p s x0) { log = xs ++ (turn_by b p s x0).log }
turn_by-behind false p s core xs log bytes = refl
turn_by-behind true p s core xs log bytes =
    ap (λ (l : List Place). let x0 : At = record { core = core; log = log; bytes = bytes } in let x : At = record (after_step p s x0) { log = l } in x)
    (append_assoc xs log (map (λ a. placed a true) (accesses_of p core.accesses s.act)))

turns_behind : (image : ImageView) (v : StoreView) (p : ℕ) (cs : List CoreView) (xs log : List Place) (bytes : ℕ → ℕ) →
    turns image v p cs (xs ++ log) bytes ≡ record (turns image v p cs log bytes) { log = xs ++ (turns image v p cs log bytes).log }
turns_behind image v p [] xs log bytes = refl
turns_behind image v p (c ∷ cs) xs log bytes =
    let x0 : At = record { core = c; log = log; bytes = bytes } in
    let x = turn image v p x0 in
    let here = turn_by-behind (is_running c.arch.end && not (lacks_line v p (next_step image bytes c.arch).act)) p (next_step image bytes c.arch) c xs log bytes in
    let rest : At → Turned = λ (y : At). let t = turns image v (suc p) cs y.log y.bytes in let r : Turned = record { cores = y.core ∷ t.cores; log = t.log; bytes = t.bytes } in r in
    let further : Turned → Turned = λ (t : Turned). let r : Turned = record { cores = x.core ∷ t.cores; log = t.log; bytes = t.bytes } in r in
    ap rest here ∙ ap further (turns_behind image v (suc p) cs xs x.log x.bytes)

-- The accesses that were taken out may be put back before and after a cycle.
pub CoreCycle-with_taken : (image : ImageView) (xs : List Access) (old new : MachineView) → CoreCycle image old new → CoreCycle image (with_taken xs old) (with_taken xs new)
CoreCycle-with_taken image xs old new cycle =
    let v = cycle.ticked in
    let places = map (λ a. placed a true) xs in
    let all = turns_behind image v 0 old.cores places old.log v.bytes in
    record {
      ticked = v;
      lost = cycle.lost;
      ticks = cycle.ticks;
      cores = cycle.cores ∙ sym (ap (λ (t : Turned). t.cores) all);
      log = ap (λ l. places ++ l) cycle.log ∙ sym (ap (λ (t : Turned). t.log) all);
      store = cycle.store ∙ sym (ap (λ (t : Turned). let s : StoreView = record v { bytes = t.bytes; wishes = new.store.wishes } in s) all);
      cycles = cycle.cycles;
    }

-- ---- an access that is taken out of the log

order_taken : (taken : List Access) (x : Place) (log : List Place) → (taken ++ x.access ∷ []) ++ map (λ (y : Place). y.access) log ≡ taken ++ map (λ (y : Place). y.access) (x ∷ log)
order_taken taken x log = append_assoc taken (x.access ∷ []) (map (λ (y : Place). y.access) log)

AreRetired-behind : (x : Place) (log : List Place) → AreRetired (x ∷ log) → AreRetired log
AreRetired-behind x log all = AreRetired-rest x log all

-- the first access of the log is taken out of it
pub record TakesFirst (old new : MachineView) (a : Access) : Type 0 where
  pub taken : first_final old.log ≡ Some a
  pub log : new.log ≡ after_pop old.log
  pub cores : new.cores ≡ old.cores
  pub bytes : new.store.bytes ≡ old.store.bytes

-- then the log was this, and was retired
pub record WasFirst (log rest : List Place) (a : Access) : Type 0 where
  pub first : Place
  pub log_is : log ≡ first ∷ rest
  pub access : first.access ≡ a

was_first_by : (x : Place) (log : List Place) (a : Access) (b : Bool) → (if b then Some x.access else None) ≡ Some a → WasFirst (x ∷ log) (if b then log else x ∷ log) a
was_first_by x log a true e = record { first = x; log_is = refl; access = cc }
was_first_by x log a false e = absurd cc

was_first : (log : List Place) (a : Access) → first_final log ≡ Some a → WasFirst log (after_pop log) a
was_first [] a e = absurd cc
was_first (x ∷ log) a e = was_first_by x log a x.retired e

pub order_so_far-taken : (taken : List Access) (old new : MachineView) (a : Access) → TakesFirst old new a → order_so_far (taken ++ a ∷ []) new ≡ order_so_far taken old
order_so_far-taken taken old new a takes =
    let was = was_first old.log a takes.taken in
    ap (λ (l : List Place). (taken ++ a ∷ []) ++ map (λ (y : Place). y.access) l) takes.log
    ∙ ap (λ (e : Access). (taken ++ e ∷ []) ++ map (λ (y : Place). y.access) (after_pop old.log)) (sym was.access)
    ∙ order_taken taken was.first (after_pop old.log)
    ∙ ap (λ (l : List Place). taken ++ map (λ (y : Place). y.access) l) (sym was.log_is)

pub AreRetired-taken : (old new : MachineView) (a : Access) → TakesFirst old new a → AreRetired old.log → AreRetired new.log
AreRetired-taken old new a takes all =
    let was = was_first old.log a takes.taken in
    subst AreRetired (sym takes.log) (AreRetired-behind was.first (after_pop old.log) (subst AreRetired was.log_is all))

pub few_taken : (taken : List Access) (old new : MachineView) (a : Access) → TakesFirst old new a → length (order_so_far taken old) ≤ all_retired old.cores → length (order_so_far (taken ++ a ∷ []) new) ≤ all_retired new.cores
few_taken taken old new a takes few =
    let order : length (order_so_far (taken ++ a ∷ []) new) ≡ length (order_so_far taken old) = ap length (order_so_far-taken taken old new a takes) in
    let cores : all_retired new.cores ≡ all_retired old.cores = ap all_retired takes.cores in
    omega arith

pub Stands-taken : (image : ImageView) (model : Model) (taken : List Access) (old new : MachineView) (a : Access) → TakesFirst old new a → Stands image model taken old → Stands image model (taken ++ a ∷ []) new
Stands-taken image model taken old new a takes stands =
    let before = Stands-parts image model taken old stands in
    let with_cores : Stand image model (order_so_far taken old) new.cores old.store.bytes = subst (λ (cores : List CoreView). Stand image model (order_so_far taken old) cores old.store.bytes) (sym takes.cores) before in
    let with_bytes : Stand image model (order_so_far taken old) new.cores new.store.bytes = subst (Stand image model (order_so_far taken old) new.cores) (sym takes.bytes) with_cores in
    Stands-from image model (taken ++ a ∷ []) new (AreRetired-taken old new a takes stands.retired) (few_taken taken old new a takes stands.few)
    (subst (λ (order : List Access). Stand image model order new.cores new.store.bytes) (sym (order_so_far-taken taken old new a takes)) with_bytes)
