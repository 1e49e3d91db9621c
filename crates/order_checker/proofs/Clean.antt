-- An order without a fault: its processors' runs are those of its lines, and it fits the image.
use Rattle.std.proofs.Common.{◌≡◌, ◌+◌, ◌%◌, ◌^◌, ◌<◌, ◌≤◌, ◌==◌, ◌&&◌, nat_lt, nat_le, ℕ, Bool, true, false, if◌then◌else◌, List, [], length, map, Option, None, Some, unwrap_or, option_and_then, slice_get, slice_index, Result, Ok, Err, refl, sym, ap, subst, ⊎_elim, ◌∙◌, arith}
use Rattle.std.specs.List.{range_with_len}
use Rattle.std.specs.Option.{option_or}
use Rattle.std.proofs.Math.Nat.{mod-lt}
use Rattle.std.proofs.lemmas.Bool.{eq-eqb, eqb-true, leb-false, ltb-false, cases_lt, cond-true}
use Rattle.std.proofs.lemmas.Nat.{pow_pos}
use Rattle.std.proofs.lemmas.Option.{slice_get_within, get_or_from_slice_get}
use Rattle.rsim_base.specs.Accesses.{loads}
use Rattle.rsim_base.specs.Bytes.{count_of}
use Rattle.rsim_base.specs.Made.{Made, no_fences}
use Rattle.rsim_base.specs.declared.memory.Access.{Access}
use Rattle.elf64_load.specs.Image.{ImageView}
use Rattle.order_axioms.specs.Axioms.{needs}
use Rattle.order_certificate.specs.Certificate.{CertificateView, IsCertificate}
use Rattle.sparc_meaning.specs.Arch.{boot}
use Rattle.sparc_meaning.specs.Run.{Ran, run}
use Rattle.order_checker.specs.declared.verdict.Rejected.{Rejected}
use Rattle.order_checker.specs.Faults.{stray, replay, run_fault, run_fault_of, unmade, unmade_of, programs, made_by, is_needed, late, source_byte, wrong, line_fault, line_fault_of, first_fault, place_of}
use Rattle.order_checker.specs.Firsts.{first}
use Rattle.order_checker.specs.Fit.{Fit}
use Rattle.order_checker.specs.Order.{Respects, IsEntryOf, made_at}
use Rattle.order_checker.specs.Values.{Explains, ExplainsByte, loaded_byte}
use Rattle.order_checker.proofs.FirstOnes.{option_or_none, first_none-at}
use Rattle.order_checker.proofs.LinePlaces.{AreOnce, AreOnce-from, stray_none, place_once}
use Rattle.std.proofs.lemmas.List.FromFn.{length-map-range_with_len}
use Rattle.std.proofs.lemmas.List.{length-map}
use Rattle.list_facts.specs.Places.{slice_get-range, slice_get-range_past, slice_get_mapped, slice_get_unmapped, slice_get_below}
use Rattle.list_facts.specs.Options.{Some-injective}
use Rattle.order_checker.proofs.Replays.{AreInText, values_of, replayed_lines, replayed_run}
use Rattle.order_checker.proofs.SourceBytes.{AreInMemory, explained_from}

-- ---- the parts of having no fault

pub record IsClean (image : ImageView) (c : CertificateView) : Type 0 where
  pub strays : (j : ℕ) → j < length c.lines → stray c.processors c.lines j ≡ None
  pub runs : (p : ℕ) → p < c.processors → run_fault image c p ≡ None
  pub lines : (j : ℕ) → j < length c.lines → line_fault image c j ≡ None

pub IsClean-from : (image : ImageView) (c : CertificateView) → first_fault image c ≡ None → IsClean image c
unfolding first_fault
IsClean-from image c none =
    let outer = option_or_none (first (stray c.processors c.lines) (length c.lines)) (option_or (first (run_fault image c) c.processors) (first (line_fault image c) (length c.lines))) none in
    let inner = option_or_none (first (run_fault image c) c.processors) (first (line_fault image c) (length c.lines)) outer.1 in
    record {
      strays = λ j below. first_none-at (stray c.processors c.lines) (length c.lines) j outer.0 below;
      runs = λ p below. first_none-at (run_fault image c) c.processors p inner.0 below;
      lines = λ j below. first_none-at (line_fault image c) (length c.lines) j inner.1 below;
    }

-- ---- the programs of a certificate

pub AreInText-certificate : (c : CertificateView) → IsCertificate c → AreInText c.lines
AreInText-certificate c is = record { in_text = is.in_text }

pub AreInMemory-certificate : (c : CertificateView) → IsCertificate c → AreInMemory c.lines
AreInMemory-certificate c is = record { fits = λ j e at. (is.in_text j e at).printable.addr }

pub made_at-replay : (image : ImageView) (c : CertificateView) (p i : ℕ) (ran : Ran) → p < c.processors → replay image c p ≡ Ok ran → made_at (programs image c) p i ≡ slice_get ran.accesses i
made_at-replay image c p i ran below is =
    let first_is : 0 + p ≡ p = omega arith in
    ap (option_and_then (λ made. slice_get made i)) (slice_get-range (λ q. made_by (replay image c q)) 0 c.processors p below)
    ∙ ap (λ q. slice_get (made_by (replay image c q)) i) first_is ∙ ap (λ r. slice_get (made_by r) i) is

pub made_at-past : (image : ImageView) (c : CertificateView) (p i : ℕ) → c.processors ≤ p → made_at (programs image c) p i ≡ None
made_at-past image c p i past = ap (option_and_then (λ made. slice_get made i)) (slice_get-range_past (λ q. made_by (replay image c q)) 0 c.processors p past)

-- what an access of the runs is
pub made_at-some : (runs : List Ran) (p i : ℕ) (m : Made) → made_at (map (λ ran. ran.accesses) runs) p i ≡ Some m → (ran : Ran) × (slice_get runs p ≡ Some ran) × (slice_get ran.accesses i ≡ Some m)
made_at-some runs p i m is = found (slice_get (map (λ ran. ran.accesses) runs) p) refl (is)
  where
    found : (o : Option (List Made)) → slice_get (map (λ (ran : Ran). ran.accesses) runs) p ≡ o → option_and_then (λ made. slice_get made i) o ≡ Some m → (ran : Ran) × (slice_get runs p ≡ Some ran) × (slice_get ran.accesses i ≡ Some m)
    found None at e = absurd cc
    found (Some made) at e = let old = slice_get_unmapped (λ (ran : Ran). ran.accesses) runs p made at in (old.0, old.1, ap (λ xs. slice_get xs i) (sym old.2) ∙ e)

pub made_at-run : (runs : List Ran) (p i : ℕ) (ran : Ran) → slice_get runs p ≡ Some ran → made_at (map (λ ran. ran.accesses) runs) p i ≡ slice_get ran.accesses i
made_at-run runs p i ran at = ap (option_and_then (λ made. slice_get made i)) (slice_get_mapped (λ (r : Ran). r.accesses) runs p ran at)

-- ---- the runs of a certificate without a fault

pub record IsReplay (image : ImageView) (c : CertificateView) (p : ℕ) (ran : Ran) : Type 0 where
  pub is : replay image c p ≡ Ok ran
  pub all : first (unmade c.lines p (length ran.accesses)) (length c.lines) ≡ None

replay_from : (image : ImageView) (c : CertificateView) (p : ℕ) (r : Result Ran Rejected) → replay image c p ≡ r → run_fault_of c.lines p r ≡ None → (ran : Ran) × IsReplay image c p ran
replay_from image c p (Err fault) is none = absurd cc
replay_from image c p (Ok ran) is none = (ran, record { is = is; all = none })

pub IsReplay-clean : (image : ImageView) (c : CertificateView) (p : ℕ) → run_fault image c p ≡ None → (ran : Ran) × IsReplay image c p ran
IsReplay-clean image c p none = replay_from image c p (replay image c p) refl none

abbrev ran_or : Ran → Result Ran Rejected → Ran
ran_or d (Ok ran) = ran
ran_or d (Err r) = d

-- a run of no steps
abbrev started : ImageView → CertificateView → ℕ → Ran
started image c p = record { state = boot image p c.processors; accesses = []; fences = no_fences; output = [] }

abbrev ran_of : ImageView → CertificateView → ℕ → Ran
ran_of image c p = ran_or (started image c p) (replay image c p)

abbrev pub runs_of : ImageView → CertificateView → List Ran
runs_of image c = map (ran_of image c) (range_with_len 0 c.processors)

-- each run of a certificate without a fault
record IsRunOf (image : ImageView) (c : CertificateView) (p : ℕ) (ran : Ran) : Type 0 where
  below : p < c.processors
  replay : IsReplay image c p ran
  stands : slice_get (runs_of image c) p ≡ Some ran

run_at : (image : ImageView) (c : CertificateView) (p : ℕ) → IsClean image c → p < c.processors → (ran : Ran) × IsRunOf image c p ran
run_at image c p clean below =
    let is = IsReplay-clean image c p (clean.runs p below) in
    let first_is : 0 + p ≡ p = omega arith in
    (is.0, record { below = below; replay = is.1; stands = slice_get-range (ran_of image c) 0 c.processors p below ∙ ap (λ q. Some (ran_of image c q)) first_is ∙ ap (λ r. Some (ran_or (started image c p) r)) is.1.is })

run_is : (image : ImageView) (c : CertificateView) (p : ℕ) (ran : Ran) → IsClean image c → slice_get (runs_of image c) p ≡ Some ran → IsRunOf image c p ran
run_is image c p ran clean at =
    let below : p < c.processors = subst (λ n. p < n) (length-map-range_with_len (ran_of image c) 0 c.processors) (slice_get_within (runs_of image c) p ran at) in
    let here = run_at image c p clean below in
    subst (IsRunOf image c p) (Some-injective (sym here.1.stands ∙ at)) here.1

-- ---- each line is of an access that was made

pub count_above : (lines : List Access) (p count j : ℕ) (e : Access) → slice_get lines j ≡ Some e → e.node.0 ≡ p → unmade lines p count j ≡ None → e.index < count
count_above lines p count j e at node none = by_test (e.node.0 == p) (nat_le count e.index) _ (eq-eqb e.node.0 p node) refl (ap (unmade_of p count j) (sym at) ∙ none)
  where
    by_test : (a b : Bool) (r : Rejected) → a ≡ true → nat_le count e.index ≡ b → (if a && b then Some r else None) ≡ None → e.index < count
    by_test false b r same is no_fault = absurd cc
    by_test true true r same is no_fault = absurd cc
    by_test true false r same is no_fault = leb-false count e.index is

-- the access that a line is of
record IsOwn (image : ImageView) (c : CertificateView) (e : Access) : Type 0 where
  ran : Ran
  run : IsRunOf image c e.node.0 ran
  made : Made
  at : slice_get ran.accesses e.index ≡ Some made
  same : e ≡ made.access

own : (image : ImageView) (c : CertificateView) (j : ℕ) (e : Access) → IsCertificate c → IsClean image c → AreOnce c.lines → slice_get c.lines j ≡ Some e → IsOwn image c e
own image c j e is clean once at =
    let below = (stray_none c.processors c.lines j e at (clean.strays j (slice_get_within c.lines j e at))).0 in
    let here = run_at image c e.node.0 clean below in
    let few = count_above c.lines e.node.0 (length here.0.accesses) j e at refl (first_none-at (unmade c.lines e.node.0 (length here.0.accesses)) (length c.lines) j here.1.replay.all (slice_get_within c.lines j e at)) in
    let made = slice_get_below here.0.accesses e.index few in
    let line = replayed_lines image c.processors c.lines e.node.0 (slice_index c.counts e.node.0) here.0 (AreInText-certificate c is) here.1.replay.is e.index made.0 made.1 in
    let same_place : j ≡ line.place = Some-injective (sym (place_once c.lines e.node.0 e.index j e once (record { stands = at; node = refl; index = refl })) ∙ line.is_place) in
    record { ran = here.0; run = here.1; made = made.0; at = made.1; same = Some-injective (sym at ∙ ap (slice_get c.lines) same_place ∙ line.line.stands) }

-- ---- the order of the lines

late_none : (image : ImageView) (c : CertificateView) (j : ℕ) (e : Access) → slice_get c.lines j ≡ Some e → line_fault image c j ≡ None →
    (first (late image c j e) e.index ≡ None) × ((if loads e.kind then first (wrong image c.lines j e) (count_of e.size) else None) ≡ None)
late_none image c j e at none = option_or_none _ _ (ap (line_fault_of image c j) (sym at) ∙ none)

not_late : (needed after : Bool) (r : Rejected) → needed ≡ true → (if needed && after then Some r else None) ≡ None → after ≡ false
not_late false after r is e = absurd cc
not_late true true r is e = absurd cc
not_late true false r is e = refl

stands_first : (image : ImageView) (c : CertificateView) (j k : ℕ) (e f : Access) (x y : Made) → IsClean image c → AreOnce c.lines → slice_get c.lines j ≡ Some e → slice_get c.lines k ≡ Some f → e.node.0 ≡ f.node.0 → e.index < f.index →
    made_at (programs image c) e.node.0 e.index ≡ Some x → made_at (programs image c) f.node.0 f.index ≡ Some y → needs c.model x y ≡ true → j < k
stands_first image c j k e f x y clean once at_j at_k node earlier made_x made_y needed =
    let none = first_none-at (late image c k f) f.index e.index (late_none image c k f at_k (clean.lines k (slice_get_within c.lines k f at_k))).0 earlier in
    let is_needed_here : is_needed image c (made_at (programs image c) f.node.0 e.index) (made_at (programs image c) f.node.0 f.index) ≡ true =
    ap (λ o. is_needed image c o (made_at (programs image c) f.node.0 f.index)) (ap (λ p. made_at (programs image c) p e.index) (sym node) ∙ made_x) ∙ ap (is_needed image c (Some x)) made_y ∙ needed in
    let place : unwrap_or (place_of c.lines f.node.0 e.index) 0 ≡ j = ap (λ o. unwrap_or o 0) (place_once c.lines f.node.0 e.index j e once (record { stands = at_j; node = node; index = refl })) in
    let not_after = ltb-false k j (subst (λ q. nat_lt k q ≡ false) place (not_late _ _ _ is_needed_here none)) in
    ⊎_elim (λ lt. lt) (λ ge. absurd (apart (omega arith))) (cases_lt j k)
  where
    apart : j ≡ k → ⊥
    apart same = let e_is : e ≡ f = Some-injective (sym at_j ∙ ap (slice_get c.lines) same ∙ at_k) in let i : e.index ≡ f.index = ap (λ (a : Access). a.index) e_is in omega arith

same_programs : (image : ImageView) (c : CertificateView) (p i : ℕ) (m : Made) → IsClean image c → made_at (map (λ ran. ran.accesses) (runs_of image c)) p i ≡ Some m → made_at (programs image c) p i ≡ Some m
same_programs image c p i m clean is =
    let old = made_at-some (runs_of image c) p i m is in
    let here = run_is image c p old.0 clean old.1 in
    made_at-replay image c p i old.0 here.below here.replay.is ∙ old.2

Respects-clean : (image : ImageView) (c : CertificateView) → IsCertificate c → IsClean image c → AreOnce c.lines → Respects c.model (map (λ ran. ran.accesses) (runs_of image c)) c.lines
Respects-clean image c is clean once = record {
  made = λ j e at. let o = own image c j e is clean once at in (o.made, made_at-run (runs_of image c) e.node.0 e.index o.ran o.run.stands ∙ o.at, entry e o.made.access o.same);
  all = λ p i m made.
      let old = made_at-some (runs_of image c) p i m made in
      let here = run_is image c p old.0 clean old.1 in
      let line = replayed_lines image c.processors c.lines p (slice_index c.counts p) old.0 (AreInText-certificate c is) here.replay.is i m old.2 in
      (line.place, m.access, line.line.stands, line.line.node, line.line.index);
  once = once.once;
  ordered = λ j k e f x y at_j at_k node earlier made_x made_y needed.
      stands_first image c j k e f x y clean once at_j at_k node earlier (same_programs image c e.node.0 e.index x clean made_x) (same_programs image c f.node.0 f.index y clean made_y) needed;
}
  where
    entry : (e access : Access) → e ≡ access → IsEntryOf access e
    entry e access same = rw same (record { node = refl; index = refl; kind = refl; size = refl; addr = refl; stored = refl })

-- ---- values

no_fault_value : (source value : ℕ) (r : Rejected) → (if source == value then None else Some r) ≡ None → source ≡ value
no_fault_value source value r none = by_test (source == value) refl none
  where
    by_test : (b : Bool) → (source == value) ≡ b → (if b then None else Some r) ≡ None → source ≡ value
    by_test true is e = eqb-true source value is
    by_test false is e = absurd cc

Explains-clean : (image : ImageView) (c : CertificateView) → IsCertificate c → IsClean image c → Explains image c.lines
Explains-clean image c is clean at load stands is_load byte (b, below, byte_is) =
    let none = first_none-at (wrong image c.lines at load) (count_of load.size) b (sym (cond-true (loads load.kind) _ None is_load) ∙ (late_none image c at load stands (clean.lines at (slice_get_within c.lines at load stands))).1) below in
    let same = no_fault_value (source_byte image c.lines at load ((load.addr.0 + b) % 2 ^ 64)) (loaded_byte load ((load.addr.0 + b) % 2 ^ 64)) _ none in
    subst (ExplainsByte image c.lines at load) (sym byte_is) (explained_from image c.lines at load ((load.addr.0 + b) % 2 ^ 64) (AreInMemory-certificate c is) (mod-lt (load.addr.0 + b) (pow_pos 64)) same)

-- ---- an order without a fault fits

pub fits_where_clean : (image : ImageView) (c : CertificateView) → IsCertificate c → first_fault image c ≡ None → Fit image c.model c.counts c.lines (runs_of image c)
fits_where_clean image c is none =
    let clean = IsClean-from image c none in
    let once = AreOnce-from c.processors c.lines clean.strays in
    record {
      values = map (λ (ran : Ran). values_of ran.accesses) (runs_of image c);
      are_loaded = λ j e vs at is_load at_node. loaded_here clean once j e vs at at_node;
      have_values = length-map (runs_of image c) (λ (ran : Ran). values_of ran.accesses) ∙ length-map-range_with_len (ran_of image c) 0 c.processors ∙ sym is.counts;
      have_runs = length-map-range_with_len (ran_of image c) 0 c.processors ∙ sym is.counts;
      are_run = λ p k vs ran at_steps at_values at_runs. run_here clean p k vs ran at_steps at_values at_runs;
      respects = Respects-clean image c is clean once;
      explains = Explains-clean image c is clean;
    }
  where
    loaded_here : IsClean image c → AreOnce c.lines → (j : ℕ) (e : Access) (vs : List ℕ) → slice_get c.lines j ≡ Some e → slice_get (map (λ (ran : Ran). values_of ran.accesses) (runs_of image c)) e.node.0 ≡ Some vs → slice_get vs e.index ≡ Some e.loaded
    loaded_here clean once j e vs at at_node =
        let o = own image c j e is clean once at in
        let vs_is : values_of o.ran.accesses ≡ vs = Some-injective (sym (slice_get_mapped (λ (ran : Ran). values_of ran.accesses) (runs_of image c) e.node.0 o.ran o.run.stands) ∙ at_node) in
        ap (λ xs. slice_get xs e.index) (sym vs_is) ∙ slice_get_mapped (λ (m : Made). m.access.loaded) o.ran.accesses e.index o.made o.at ∙ ap (λ (a : Access). Some a.loaded) (sym o.same)

    run_here : IsClean image c → (p k : ℕ) (vs : List ℕ) (ran : Ran) → slice_get c.counts p ≡ Some k → slice_get (map (λ (ran : Ran). values_of ran.accesses) (runs_of image c)) p ≡ Some vs → slice_get (runs_of image c) p ≡ Some ran →
        run image p (length c.counts) k vs ≡ Some ran
    run_here clean p k vs ran at_steps at_values at_runs =
        let here = run_is image c p ran clean at_runs in
        let vs_is : values_of ran.accesses ≡ vs = Some-injective (sym (slice_get_mapped (λ (ran : Ran). values_of ran.accesses) (runs_of image c) p ran at_runs) ∙ at_values) in
        let k_is : slice_index c.counts p ≡ k = get_or_from_slice_get c.counts p k 0 at_steps in
        ap (λ n. run image p n k vs) is.counts ∙ ap (λ m. run image p c.processors m vs) (sym k_is) ∙ ap (run image p c.processors (slice_index c.counts p)) (sym vs_is)
        ∙ replayed_run image c.processors c.lines p (slice_index c.counts p) ran (AreInText-certificate c is) here.replay.is
