-- An order that fits has no fault.
use Rattle.std.proofs.Common.{◌≡◌, ◌+◌, ◌%◌, ◌^◌, ◌<◌, ◌==◌, ◌&&◌, nat_lt, nat_le, ℕ, zero, suc, Bool, true, false, if◌then◌else◌, List, [], ◌∷◌, ◌++◌, length, map, Option, None, Some, option_map, unwrap_or, option_and_then, slice_get, Ok, refl, sym, ap, subst, ⊎_elim, ◌∙◌, arith}
use Rattle.std.specs.Option.{option_or}
use Rattle.std.proofs.Math.Nat.{mod-lt}
use Rattle.std.proofs.lemmas.Bool.{eqb-true, eq-eqb, le-ltb, lt-leb, cond-true, cond-false, cases_lt}
use Rattle.std.proofs.lemmas.Nat.{pow_pos}
use Rattle.std.proofs.lemmas.Option.{slice_get_within, get_or_from_slice_get}
use Rattle.rsim_base.specs.Accesses.{loads}
use Rattle.rsim_base.specs.Bytes.{count_of}
use Rattle.rsim_base.specs.Made.{Made}
use Rattle.rsim_base.specs.declared.memory.Access.{Access}
use Rattle.elf64_load.specs.Image.{ImageView}
use Rattle.order_axioms.specs.Axioms.{needs}
use Rattle.order_certificate.specs.Certificate.{CertificateView, IsCertificate}
use Rattle.sparc_meaning.specs.Run.{Ran, run, after, accesses_of, made_after, uses_value}
use Rattle.sparc_meaning.specs.Step.{step}
use Rattle.sparc_meaning.specs.StepIgnores.{step_ignores}
use Rattle.sparc_meaning.specs.StepReads.{step_found}
use Rattle.sparc_meaning.specs.Stepped.{Stepped}
use Rattle.order_checker.specs.declared.verdict.Rejected.{Rejected}
use Rattle.order_checker.specs.declared.verdict.Rejected.TheVariants.{Differs}
use Rattle.order_checker.specs.Faults.{stray, replay, replayed, run_fault, run_fault_of, unmade, unmade_of, programs, is_needed, late, source_byte, wrong, line_fault, line_fault_of, first_fault, place_of, step_fault, loaded_of, file_line}
use Rattle.order_checker.specs.Firsts.{first}
use Rattle.order_checker.specs.Fit.{Fit}
use Rattle.order_checker.specs.Order.{IsEntryOf, made_at}
use Rattle.order_checker.specs.Values.{loaded_byte}
use Rattle.order_checker.proofs.Clean.{made_at-replay, made_at-past, made_at-some, made_at-run, AreInMemory-certificate}
use Rattle.order_checker.proofs.FirstOnes.{first_none-from}
use Rattle.order_checker.proofs.LinePlaces.{AreOnce, place_once, stray_from}
use Rattle.list_facts.specs.Places.{slice_get-append_left, slice_get_last, slice_get_below}
use Rattle.list_facts.specs.Options.{Some-injective}
use Rattle.order_checker.proofs.MadeLines.{IsMade, act_cases, AreAlike, IsEntryOf-alike, differing-alike}
use Rattle.order_checker.proofs.Replays.{line_at, stepped_on, IsNext, replayed_more, after_one}
use Rattle.order_checker.proofs.SourceBytes.{explained_is}
use Rattle.order_checker.proofs.Steps.{IsAdvance, advanced_some, run_less}

-- an order of a certificate that fits
pub record Fits (image : ImageView) (c : CertificateView) (runs : List Ran) : Type 0 where
  pub is : IsCertificate c
  pub fit : Fit image c.model c.counts c.lines runs

are_once : (image : ImageView) (c : CertificateView) (runs : List Ran) → Fits image c runs → AreOnce c.lines
are_once image c runs fits = record { once = fits.fit.respects.once }

-- the run of each processor, its steps and values
record IsRunOf (image : ImageView) (c : CertificateView) (runs : List Ran) (fits : Fits image c runs) (p : ℕ) (ran : Ran) : Type 0 where
  stands : slice_get runs p ≡ Some ran
  steps : ℕ
  counted : slice_get c.counts p ≡ Some steps
  values : List ℕ
  loaded : slice_get fits.fit.values p ≡ Some values
  is : run image p c.processors steps values ≡ Some ran

run_of : (image : ImageView) (c : CertificateView) (runs : List Ran) (fits : Fits image c runs) (p : ℕ) → p < c.processors → (ran : Ran) × IsRunOf image c runs fits p ran
run_of image c runs fits p below =
    let have_runs = fits.fit.have_runs in
    let have_values = fits.fit.have_values in
    let counts = fits.is.counts in
    let ran = slice_get_below runs p (omega arith) in
    let k = slice_get_below c.counts p (omega arith) in
    let vs = slice_get_below fits.fit.values p (omega arith) in
    (ran.0, record { stands = ran.1; steps = k.0; counted = k.1; values = vs.0; loaded = vs.1; is = subst (λ n. run image p n k.0 vs.0 ≡ Some ran.0) counts (fits.fit.are_run p k.0 vs.0 ran.0 k.1 vs.1 ran.1) })

-- ---- lines

-- what a line is of
record IsOwn (image : ImageView) (c : CertificateView) (runs : List Ran) (e : Access) : Type 0 where
  ran : Ran
  stands : slice_get runs e.node.0 ≡ Some ran
  below : e.node.0 < c.processors
  made : Made
  at : slice_get ran.accesses e.index ≡ Some made
  entry : IsEntryOf made.access e

own : (image : ImageView) (c : CertificateView) (runs : List Ran) (j : ℕ) (e : Access) → Fits image c runs → slice_get c.lines j ≡ Some e → IsOwn image c runs e
own image c runs j e fits at =
    let made = fits.fit.respects.made j e at in
    let old = made_at-some runs e.node.0 e.index made.0 made.1 in
    let within = slice_get_within runs e.node.0 old.0 old.1 in
    let have_runs = fits.fit.have_runs in
    let counts = fits.is.counts in
    record { ran = old.0; stands = old.1; below = omega arith; made = made.0; at = old.2; entry = made.2 }

-- ---- the replay is the run

-- the accesses of the one are the first of the other
record IsFront (few all : List Made) : Type 0 where
  front : (i : ℕ) (m : Made) → slice_get few i ≡ Some m → slice_get all i ≡ Some m

-- the line of an access that a processor makes
record HasLine (c : CertificateView) (p i : ℕ) (x : Access) (vs : List ℕ) : Type 0 where
  place : ℕ
  entry : Access
  is_place : place_of c.lines p i ≡ Some place
  stands : slice_get c.lines place ≡ Some entry
  alike : AreAlike x entry
  loaded : loads x.kind ≡ true → slice_get vs i ≡ Some entry.loaded

has_line : (image : ImageView) (c : CertificateView) (runs : List Ran) (fits : Fits image c runs) (p i : ℕ) (ran : Ran) (m : Made) (vs : List ℕ) →
    slice_get runs p ≡ Some ran → slice_get fits.fit.values p ≡ Some vs → slice_get ran.accesses i ≡ Some m → HasLine c p i m.access vs
has_line image c runs fits p i ran m vs at_run at_values at =
    let line = fits.fit.respects.all p i m (made_at-run runs p i ran at_run ∙ at) in
    let j = line.0 in
    let e = line.1 in
    let o = own image c runs j e fits line.2 in
    let same_ran : o.ran ≡ ran = Some-injective (sym o.stands ∙ ap (slice_get runs) line.3 ∙ at_run) in
    let same : o.made ≡ m = Some-injective (sym o.at ∙ ap (λ (r : Ran). slice_get r.accesses e.index) same_ran ∙ ap (slice_get ran.accesses) line.4 ∙ at) in
    let are = subst (λ (n : Made). AreAlike n.access e) same (IsEntryOf-alike o.made.access e o.entry) in
    record {
      place = j;
      entry = e;
      is_place = place_once c.lines p i j e (are_once image c runs fits) (record { stands = line.2; node = line.3; index = line.4 });
      stands = line.2;
      alike = are;
      loaded = λ is_load. ap (slice_get vs) (sym line.4) ∙ fits.fit.are_loaded j e vs line.2 (ap loads are.kind ∙ is_load) (ap (slice_get fits.fit.values) line.3 ∙ at_values);
    }

-- a step on the value of the run is the step on the line's, and has no fault
next_from : (image : ImageView) (c : CertificateView) (p : ℕ) (vs : List ℕ) (old new : Ran) → IsAdvance image p (slice_get vs (length old.accesses)) old new →
    ((x : Access) → new.accesses ≡ old.accesses ++ made_after old.fences x ∷ [] → HasLine c p (length old.accesses) x vs) → IsNext image c.lines p old new
next_from image c p vs old new advance lines =
    let i = length old.accesses in
    let v = unwrap_or (slice_get vs i) 0 in
    let s = step image old.state v in
    ⊎_elim (λ (none, quiet). plain none quiet) (λ (x, made). with_line x made (lines x (after_one p old new s x advance.is made.list))) (act_cases p i v s.act (step_found image old.state v))
  where
    from_step : stepped_on image c.lines p old ≡ step image old.state (unwrap_or (slice_get vs (length old.accesses)) 0) →
        step_fault p (length old.accesses) (accesses_of p (length old.accesses) (step image old.state (unwrap_or (slice_get vs (length old.accesses)) 0)).act) (place_of c.lines p (length old.accesses)) (line_at c.lines p (length old.accesses)) ≡ None →
        IsNext image c.lines p old new
    from_step same fine = record {
      running = advance.running;
      fine = ap (λ (t : Stepped). step_fault p (length old.accesses) (accesses_of p (length old.accesses) t.act) (place_of c.lines p (length old.accesses)) (line_at c.lines p (length old.accesses))) same ∙ fine;
      is = advance.is ∙ ap (after p old) (sym same);
    }

    plain : accesses_of p (length old.accesses) (step image old.state (unwrap_or (slice_get vs (length old.accesses)) 0)).act ≡ [] → uses_value (step image old.state (unwrap_or (slice_get vs (length old.accesses)) 0)).act ≡ false → IsNext image c.lines p old new
    plain none quiet = from_step (step_ignores image old.state (unwrap_or (slice_get vs (length old.accesses)) 0) (loaded_of (line_at c.lines p (length old.accesses))) quiet)
        (ap (λ xs. step_fault p (length old.accesses) xs (place_of c.lines p (length old.accesses)) (line_at c.lines p (length old.accesses))) none)

    same_value : (x : Access) (b : Bool) → loads x.kind ≡ b → IsMade p (length old.accesses) (unwrap_or (slice_get vs (length old.accesses)) 0) (step image old.state (unwrap_or (slice_get vs (length old.accesses)) 0)).act x →
        (line : HasLine c p (length old.accesses) x vs) → line_at c.lines p (length old.accesses) ≡ Some line.entry → stepped_on image c.lines p old ≡ step image old.state (unwrap_or (slice_get vs (length old.accesses)) 0)
    same_value x true is_load made line at_line = ap (λ o. step image old.state (loaded_of o)) at_line ∙ ap (step image old.state) (sym (ap (λ o. unwrap_or o 0) (line.loaded is_load)))
    same_value x false is_load made line at_line = step_ignores image old.state (unwrap_or (slice_get vs (length old.accesses)) 0) (loaded_of (line_at c.lines p (length old.accesses))) (made.uses ∙ is_load)

    with_line : (x : Access) → IsMade p (length old.accesses) (unwrap_or (slice_get vs (length old.accesses)) 0) (step image old.state (unwrap_or (slice_get vs (length old.accesses)) 0)).act x →
        HasLine c p (length old.accesses) x vs → IsNext image c.lines p old new
    with_line x made line =
        let i = length old.accesses in
        let at_line : line_at c.lines p i ≡ Some line.entry = ap (option_and_then (slice_get c.lines)) line.is_place ∙ line.stands in
        from_step (same_value x (loads x.kind) refl made line at_line)
        (ap (λ xs. step_fault p i xs (place_of c.lines p i) (line_at c.lines p i)) made.list ∙ ap (λ o. step_fault p i (x ∷ []) o (line_at c.lines p i)) line.is_place ∙ ap (step_fault p i (x ∷ []) (Some line.place)) at_line
        ∙ ap (option_map (Differs (file_line line.place))) (differing-alike x line.entry line.alike))

front_before : (p : ℕ) (old new : Ran) (s : Stepped) (all : List Made) → new ≡ after p old s → IsFront new.accesses all → IsFront old.accesses all
front_before p old new s all is front = record { front = λ i m at. front.front i m (ap (λ (r : Ran). slice_get r.accesses i) is ∙ slice_get-append_left old.accesses _ i m at) }

run_replayed : (image : ImageView) (c : CertificateView) (runs : List Ran) (fits : Fits image c runs) (p k : ℕ) (ran new : Ran) (vs : List ℕ) → slice_get runs p ≡ Some ran → slice_get fits.fit.values p ≡ Some vs →
    run image p c.processors k vs ≡ Some new → IsFront new.accesses ran.accesses → replayed image c.processors c.lines p k ≡ Ok new
run_replayed image c runs fits p zero ran new vs at_run at_values is front = ap Ok (Some-injective is)
run_replayed image c runs fits p (suc k) ran new vs at_run at_values is front =
    let less = run_less image p c.processors k vs new is in
    let old = less.0 in
    let advance = advanced_some image p vs old new less.2 in
    replayed_more image c.processors c.lines p k old new
    (run_replayed image c runs fits p k ran old vs at_run at_values less.1 (front_before p old new _ ran.accesses advance.is front))
    (next_from image c p vs old new advance (λ x one. has_line image c runs fits p (length old.accesses) ran (made_after old.fences x) vs at_run at_values
    (front.front (length old.accesses) (made_after old.fences x) (ap (λ xs. slice_get xs (length old.accesses)) one ∙ slice_get_last old.accesses (made_after old.fences x)))))

replay_is : (image : ImageView) (c : CertificateView) (runs : List Ran) (fits : Fits image c runs) (p : ℕ) (ran : Ran) → p < c.processors → slice_get runs p ≡ Some ran → replay image c p ≡ Ok ran
replay_is image c runs fits p ran below at_run =
    let here = run_of image c runs fits p below in
    let same : here.0 ≡ ran = Some-injective (sym here.1.stands ∙ at_run) in
    ap (replayed image c.processors c.lines p) (get_or_from_slice_get c.counts p here.1.steps 0 here.1.counted)
    ∙ run_replayed image c runs fits p here.1.steps here.0 here.0 here.1.values here.1.stands here.1.loaded here.1.is (record { front = λ i m at. at }) ∙ ap Ok same

-- ---- no fault of any kind

no_run_fault : (image : ImageView) (c : CertificateView) (runs : List Ran) → Fits image c runs → (p : ℕ) → p < c.processors → run_fault image c p ≡ None
no_run_fault image c runs fits p below =
    let here = run_of image c runs fits p below in
    ap (run_fault_of c.lines p) (replay_is image c runs fits p here.0 below here.1.stands) ∙ first_none-from (unmade c.lines p (length here.0.accesses)) (length c.lines) (λ j within. made here.0 here.1.stands j (slice_get c.lines j) refl)
  where
    by_test : (a b : Bool) (r : Rejected) → (a ≡ true → b ≡ false) → (if a && b then Some r else None) ≡ None
    by_test false b r low = refl
    by_test true b r low = cond-false b (Some r) None (low refl)

    made : (ran : Ran) → slice_get runs p ≡ Some ran → (j : ℕ) (o : Option Access) → slice_get c.lines j ≡ o → unmade_of p (length ran.accesses) j o ≡ None
    made ran at_run j None at = refl
    made ran at_run j (Some e) at = by_test (e.node.0 == p) (nat_le (length ran.accesses) e.index) _ (λ is_own.
        let o = own image c runs j e fits at in
        let same : o.ran ≡ ran = Some-injective (sym o.stands ∙ ap (slice_get runs) (eqb-true e.node.0 p is_own) ∙ at_run) in
        let few : e.index < length ran.accesses = subst (λ (r : Ran). e.index < length r.accesses) same (slice_get_within o.ran.accesses e.index o.made o.at) in
        lt-leb (length ran.accesses) e.index few)

same_programs : (image : ImageView) (c : CertificateView) (runs : List Ran) → Fits image c runs → (p i : ℕ) (m : Made) → made_at (programs image c) p i ≡ Some m → made_at (map (λ ran. ran.accesses) runs) p i ≡ Some m
same_programs image c runs fits p i m is = ⊎_elim
    (λ below. let here = run_of image c runs fits p below in
    made_at-run runs p i here.0 here.1.stands ∙ sym (made_at-replay image c p i here.0 below (replay_is image c runs fits p here.0 below here.1.stands)) ∙ is)
    (λ past. absurd (nothing (sym (made_at-past image c p i past) ∙ is))) (cases_lt p c.processors)
  where
    nothing : None ≡ Some m → ⊥
    nothing e = absurd cc

not_late : (image : ImageView) (c : CertificateView) (runs : List Ran) → Fits image c runs → (j : ℕ) (e : Access) → slice_get c.lines j ≡ Some e → (i : ℕ) → i < e.index → late image c j e i ≡ None
not_late image c runs fits j e at i earlier = by_made (made_at (programs image c) e.node.0 i) (made_at (programs image c) e.node.0 e.index) refl refl
  where
    by_test : (a b : Bool) (r : Rejected) → (a ≡ true → b ≡ false) → (if a && b then Some r else None) ≡ None
    by_test false b r low = refl
    by_test true b r low = cond-false b (Some r) None (low refl)

    stands_first : (x y : Made) → made_at (programs image c) e.node.0 i ≡ Some x → made_at (programs image c) e.node.0 e.index ≡ Some y → needs c.model x y ≡ true → nat_lt j (unwrap_or (place_of c.lines e.node.0 i) 0) ≡ false
    stands_first x y made_x made_y needed =
        let of_x = same_programs image c runs fits e.node.0 i x made_x in
        let of_y = same_programs image c runs fits e.node.0 e.index y made_y in
        let line = fits.fit.respects.all e.node.0 i x of_x in
        let k = line.0 in
        let f = line.1 in
        let i_is : f.index ≡ i = line.4 in
        let of_f : made_at (map (λ (ran : Ran). ran.accesses) runs) f.node.0 f.index ≡ Some x = ap (λ q. made_at (map (λ (ran : Ran). ran.accesses) runs) q f.index) line.3 ∙ ap (made_at (map (λ (ran : Ran). ran.accesses) runs) e.node.0) line.4 ∙ of_x in
        let before : k < j = fits.fit.respects.ordered k j f e x y line.2 at line.3 (omega arith) of_f of_y needed in
        let place = place_once c.lines e.node.0 i k f (are_once image c runs fits) (record { stands = line.2; node = line.3; index = line.4 }) in
        ap (λ o. nat_lt j (unwrap_or o 0)) place ∙ le-ltb j k (omega arith)

    by_made : (o q : Option Made) → made_at (programs image c) e.node.0 i ≡ o → made_at (programs image c) e.node.0 e.index ≡ q →
        late image c j e i ≡ None
    by_made o q of_x of_y = by_test _ _ _ (λ needed. by_both o q of_x of_y (ap (λ z. is_needed image c z (made_at (programs image c) e.node.0 e.index)) (sym of_x) ∙ needed))
      where
        by_both : (o q : Option Made) → made_at (programs image c) e.node.0 i ≡ o → made_at (programs image c) e.node.0 e.index ≡ q → is_needed image c o (made_at (programs image c) e.node.0 e.index) ≡ true →
            nat_lt j (unwrap_or (place_of c.lines e.node.0 i) 0) ≡ false
        by_both None q of_x of_y needed = absurd cc
        by_both (Some x) None of_x of_y needed = absurd (nothing (sym needed ∙ ap (is_needed image c (Some x)) of_y))
          where
            nothing : true ≡ false → ⊥
            nothing e = absurd cc
        by_both (Some x) (Some y) of_x of_y needed = stands_first x y of_x of_y (sym (ap (is_needed image c (Some x)) of_y) ∙ needed)

not_wrong : (image : ImageView) (c : CertificateView) (runs : List Ran) → Fits image c runs → (j : ℕ) (e : Access) → slice_get c.lines j ≡ Some e → loads e.kind ≡ true → (b : ℕ) → b < count_of e.size → wrong image c.lines j e b ≡ None
not_wrong image c runs fits j e at is_load b below =
    let byte = (e.addr.0 + b) % 2 ^ 64 in
    let same = explained_is image c.lines j e byte (AreInMemory-certificate c fits.is) (mod-lt (e.addr.0 + b) (pow_pos 64)) (fits.fit.explains j e at is_load byte (b, below, refl)) in
    cond-true _ None _ (eq-eqb (source_byte image c.lines j e byte) (loaded_byte e byte) same)

no_line_fault : (image : ImageView) (c : CertificateView) (runs : List Ran) → Fits image c runs → (j : ℕ) (o : Option Access) → slice_get c.lines j ≡ o → line_fault_of image c j o ≡ None
no_line_fault image c runs fits j None at = refl
no_line_fault image c runs fits j (Some e) at =
    ap (λ z. option_or z (if loads e.kind then first (wrong image c.lines j e) (count_of e.size) else None)) (first_none-from (late image c j e) e.index (not_late image c runs fits j e at)) ∙ by_kind (loads e.kind) refl
  where
    by_kind : (b : Bool) → loads e.kind ≡ b → (if b then first (wrong image c.lines j e) (count_of e.size) else None) ≡ None
    by_kind false is = refl
    by_kind true is = first_none-from (wrong image c.lines j e) (count_of e.size) (not_wrong image c runs fits j e at is)

pub fits_without_fault : (image : ImageView) (c : CertificateView) (runs : List Ran) → IsCertificate c → Fit image c.model c.counts c.lines runs → first_fault image c ≡ None
unfolding first_fault
fits_without_fault image c runs is fit =
    let fits : Fits image c runs = record { is = is; fit = fit } in
    let strays = first_none-from (stray c.processors c.lines) (length c.lines) (λ j below. stray_from c.processors c.lines (are_once image c runs fits) (λ k e at. (own image c runs k e fits at).below) j) in
    let run_faults = first_none-from (run_fault image c) c.processors (no_run_fault image c runs fits) in
    let line_faults = first_none-from (line_fault image c) (length c.lines) (λ j below. no_line_fault image c runs fits j (slice_get c.lines j) refl) in
    ap (λ o. option_or o (option_or (first (run_fault image c) c.processors) (first (line_fault image c) (length c.lines)))) strays
    ∙ ap (λ o. option_or o (first (line_fault image c) (length c.lines))) run_faults ∙ line_faults
