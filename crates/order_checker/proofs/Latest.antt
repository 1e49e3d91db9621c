-- The source of a load's byte: of its own earlier stores that stand behind it the last, else the last store before it.
use Rattle.std.proofs.Common.{◌≡◌, ◌⊎◌, ◌<◌, ◌≤◌, ◌==◌, ◌&&◌, ◌||◌, not, nat_lt, ℕ, zero, suc, Bool, true, false, if◌then◌else◌, List, [], ◌∷◌, ◌++◌, length, Option, None, Some, option_and_then, slice_get, slice_index, refl, sym, ap, subst, inl, inr, ⊎_elim, ◌∙◌, arith}
use Rattle.std.specs.List.{take_while}
use Rattle.std.proofs.lemmas.Bool.{and_parts, and_from, or_cases, or_left, or_right, eqb-true, eqb-false, eq-eqb, ne_eqb, ltb-true, ltb-false, lt-ltb, leb-true, le-leb, cases_lt, cond-false, false≢true, false_from_ne_true, not-true, not_from_false}
use Rattle.std.proofs.lemmas.List.Sums.{fold-append}
use Rattle.std.proofs.lemmas.Option.{slice_get_within, get_or_from_slice_get}
use Rattle.rsim_base.specs.Accesses.{stores}
use Rattle.rsim_base.specs.Bytes.{count_of, gap_of}
use Rattle.rsim_base.specs.declared.memory.Access.{Access}
use Rattle.elf64_load.specs.Image.{ImageView}
use Rattle.order_certificate.specs.Certificate.{CertificateView}
use Rattle.order_checker.specs.declared.walk.Walk.{Walk}
use Rattle.order_checker.specs.Faults.{writes, is_earlier, may_read, byte_from, source_byte}
use Rattle.order_checker.specs.Firsts.{last}
use Rattle.order_checker.specs.Standing.{passing, stands_from}
use Rattle.order_checker.specs.Values.{stored_byte}
use Rattle.order_checker.specs.Walking.{IsAtLine, later, latest, latest_left, written_byte}
use Rattle.order_checker.proofs.AtLines.{IsAt-from, here_is}
use Rattle.order_checker.proofs.FirstOnes.{below_suc, last_is}
use Rattle.order_checker.proofs.LinePlaces.{place_is, place_once}
use Rattle.list_facts.specs.Options.{Some-injective}
use Rattle.order_checker.proofs.StillStanding.{take_while-passing}

-- the latest store among the accesses below n that pass
pub record IsLatest (lines : List Access) (places : List ℕ) (test : Option Access → Bool) (t : ℕ → Bool) (n q : ℕ) : Type 0 where
  pub access : ℕ
  pub below : access < n
  pub passes : t access ≡ true
  pub place : slice_get places access ≡ Some q
  pub writes_it : test (slice_get lines q) ≡ true
  pub last : (k j : ℕ) → k < n → t k ≡ true → slice_get places k ≡ Some j → test (slice_get lines j) ≡ true → j ≤ q

abbrev pub NoStore : List Access → List ℕ → (Option Access → Bool) → (ℕ → Bool) → ℕ → Type 0
NoStore lines places test t n = (k j : ℕ) → k < n → t k ≡ true → slice_get places k ≡ Some j → test (slice_get lines j) ≡ false

abbrev pub LatestOf : List Access → List ℕ → (Option Access → Bool) → (ℕ → Bool) → ℕ → Option ℕ → Type 0
LatestOf lines places test t n None = NoStore lines places test t n
LatestOf lines places test t n (Some q) = IsLatest lines places test t n q

-- one that does not count leaves it
LatestOf-same : (lines : List Access) (places : List ℕ) (test : Option Access → Bool) (t : ℕ → Bool) (n : ℕ) (o : Option ℕ) → LatestOf lines places test t n o →
    ((j : ℕ) → t n ≡ true → slice_get places n ≡ Some j → test (slice_get lines j) ≡ true → ⊥) → LatestOf lines places test t (suc n) o
LatestOf-same lines places test t n None was apart = λ k j below passes at. ⊎_elim
    (λ lt. was k j lt passes at)
    (λ e. false_from_ne_true _ (apart j (subst (λ (m : ℕ). t m ≡ true) e passes) (subst (λ (m : ℕ). slice_get places m ≡ Some j) e at))) (below_suc k n below)
LatestOf-same lines places test t n (Some q) was apart = record {
  access = was.access;
  below = lower was.below;
  passes = was.passes;
  place = was.place;
  writes_it = was.writes_it;
  last = λ k j below passes at wrote. ⊎_elim (λ lt. was.last k j lt passes at wrote)
      (λ e. absurd (apart j (subst (λ (m : ℕ). t m ≡ true) e passes) (subst (λ (m : ℕ). slice_get places m ≡ Some j) e at) wrote)) (below_suc k n below);
}
  where
    lower : was.access < n → was.access < suc n
    lower lt = omega arith

-- one behind all others is the latest
IsLatest-new : (lines : List Access) (places : List ℕ) (test : Option Access → Bool) (t : ℕ → Bool) (n j : ℕ) → t n ≡ true → slice_get places n ≡ Some j → test (slice_get lines j) ≡ true →
    ((k i : ℕ) → k < n → t k ≡ true → slice_get places k ≡ Some i → test (slice_get lines i) ≡ true → i ≤ j) → IsLatest lines places test t (suc n) j
IsLatest-new lines places test t n j passes at wrote before = record {
  access = n;
  below = omega arith;
  passes = passes;
  place = at;
  writes_it = wrote;
  last = λ k i below t_k at_k wrote_k. ⊎_elim (λ lt. before k i lt t_k at_k wrote_k)
      (λ e. same i (Some-injective (sym (subst (λ (m : ℕ). slice_get places m ≡ Some i) e at_k) ∙ at))) (below_suc k n below);
}
  where
    same : (i : ℕ) → i ≡ j → i ≤ j
    same i e = omega arith

LatestOf-later : (lines : List Access) (places : List ℕ) (test : Option Access → Bool) (t : ℕ → Bool) (n : ℕ) (o place : Option ℕ) → LatestOf lines places test t n o → t n ≡ true → slice_get places n ≡ place →
    LatestOf lines places test t (suc n) (later (test (option_and_then (slice_get lines) place)) o place)
LatestOf-later lines places test t n o None was passes at = LatestOf-same lines places test t n o was (λ j t_n is wrote. none j (sym at ∙ is))
  where
    none : (j : ℕ) → None ≡ Some j → ⊥
    none j e = absurd cc
LatestOf-later lines places test t n None (Some j) was passes at = by_test (test (slice_get lines j)) refl
  where
    by_test : (b : Bool) → test (slice_get lines j) ≡ b → LatestOf lines places test t (suc n) (if b then Some j else None)
    by_test true is = IsLatest-new lines places test t n j passes at is (λ k i below t_k at_k wrote. absurd (false≢true (sym (was k i below t_k at_k) ∙ wrote)))
    by_test false is = LatestOf-same lines places test t n None was (λ i t_n at_i wrote. false≢true (sym is ∙ ap (λ (m : ℕ). test (slice_get lines m)) (Some-injective (sym at ∙ at_i)) ∙ wrote))
LatestOf-later lines places test t n (Some q) (Some j) was passes at = by_tests (test (slice_get lines j)) (nat_lt q j) refl refl
  where
    by_tests : (a b : Bool) → test (slice_get lines j) ≡ a → nat_lt q j ≡ b → LatestOf lines places test t (suc n) (if a && b then Some j else Some q)
    by_tests true true is above = IsLatest-new lines places test t n j passes at is (λ k i below t_k at_k wrote. let low = was.last k i below t_k at_k wrote in let high = ltb-true q j above in omega arith)
    by_tests true false is above = record {
      access = was.access;
      below = lower was.below;
      passes = was.passes;
      place = was.place;
      writes_it = was.writes_it;
      last = λ k i below t_k at_k wrote. ⊎_elim (λ lt. was.last k i lt t_k at_k wrote)
          (λ e. no_higher i (Some-injective (sym (subst (λ (m : ℕ). slice_get places m ≡ Some i) e at_k) ∙ at))) (below_suc k n below);
    }
      where
        lower : was.access < n → was.access < suc n
        lower lt = omega arith

        no_higher : (i : ℕ) → i ≡ j → i ≤ q
        no_higher i e = let high = ltb-false q j above in omega arith
    by_tests false b is above = LatestOf-same lines places test t n (Some q) was (λ i t_n at_i wrote. false≢true (sym is ∙ ap (λ (m : ℕ). test (slice_get lines m)) (Some-injective (sym at ∙ at_i)) ∙ wrote))

pub latest_passing : (lines : List Access) (places : List ℕ) (test : Option Access → Bool) (t : ℕ → Bool) (n : ℕ) → LatestOf lines places test t n (latest test lines places (passing t n))
latest_passing lines places test t zero = λ k j below passes at. absurd (omega arith)
latest_passing lines places test t (suc n) = by_test (t n) (latest_passing lines places test t n) refl
  where
    by_test : (b : Bool) → LatestOf lines places test t n (latest test lines places (passing t n)) → t n ≡ b → LatestOf lines places test t (suc n) (latest test lines places (if b then passing t n ++ n ∷ [] else passing t n))
    by_test true before is = subst (LatestOf lines places test t (suc n)) (sym (fold-append (λ found k. later (test (option_and_then (slice_get lines) (slice_get places k))) found (slice_get places k)) None (passing t n) (n ∷ [])))
        (LatestOf-later lines places test t n (latest test lines places (passing t n)) (slice_get places n) before is refl)
    by_test false before is = LatestOf-same lines places test t n (latest test lines places (passing t n)) before (λ j passes at wrote. false≢true (sym is ∙ passes))

-- ---- the last that a load may read from

last_front : (f g : ℕ → Bool) (j n : ℕ) → j ≤ n → ((k : ℕ) → k < j → f k ≡ g k) → ((k : ℕ) → j ≤ k → k < n → f k ≡ false) → last f n ≡ last g j
last_front f g zero zero le same none = refl
last_front f g (suc j) zero le same none = absurd (omega arith)
last_front f g j (suc n) le same none = ⊎_elim
    (λ lt. cond-false (f n) (Some n) (last f n) (none n (omega arith) (omega arith)) ∙ last_front f g j n (omega arith) same (λ k above below. none k above (omega arith)))
    (λ ge. subst (λ (m : ℕ). last f (suc n) ≡ last g m) (full ge) (last_same (suc n) (λ k below. same k (omega arith)))) (cases_lt j (suc n))
  where
    full : suc n ≤ j → suc n ≡ j
    full ge = omega arith

    last_same : (m : ℕ) → ((k : ℕ) → k < m → f k ≡ g k) → last f m ≡ last g m
    last_same zero all = refl
    last_same (suc m) all = ap (λ b. if b then Some m else last f m) (all m (omega arith)) ∙ ap (λ o. if g m then Some m else o) (last_same m (λ k below. all k (omega arith)))

-- what the walk finds of the load's own stores
abbrev pub found_own : CertificateView → Access → Walk → ℕ → Option ℕ
found_own c e w byte = latest_left (writes byte) c.lines e w

pub LatestOf-walk : (image : ImageView) (c : CertificateView) (j : ℕ) (e : Access) (w : Walk) (test : Option Access → Bool) → IsAtLine image c j e w →
    LatestOf c.lines w.program.places.items test (stands_from w.program.places.items j) e.index (latest_left test c.lines e w)
LatestOf-walk image c j e w test at =
    let places = w.program.places.items in
    let at_j : slice_index places e.index ≡ j = here_is image c j e w at in
    let left : take_while (λ k. nat_lt k e.index) w.left.items ≡ passing (stands_from places j) e.index =
    ap (take_while (λ k. nat_lt k e.index)) at.walk.walked.are_left ∙ take_while-passing (stands_from places j) e.index w.next (le-leb j (slice_index places e.index) (omega (arith, at_j))) at.reached in
    subst (λ ks. LatestOf c.lines places test (stands_from places j) e.index (latest test c.lines places ks)) (sym left) (latest_passing c.lines places test (stands_from places j) e.index)

-- a later line that the load may read from is of an earlier access of its processor, which stands behind it
record IsOwnStore (c : CertificateView) (e : Access) (w : Walk) (j k : ℕ) : Type 0 where
  access : ℕ
  earlier : access < e.index
  place : slice_get w.program.places.items access ≡ Some k
  behind : stands_from w.program.places.items j access ≡ true

own_store : (image : ImageView) (c : CertificateView) (j : ℕ) (e : Access) (w : Walk) (k : ℕ) (f : Access) → IsAtLine image c j e w → slice_get c.lines k ≡ Some f → j ≤ k → is_earlier e (Some f) ≡ true → IsOwnStore c e w j k
own_store image c j e w k f at at_k above earlier =
    let is = IsAt-from image c j e w at in
    let parts = and_parts (f.node.0 == e.node.0) (nat_lt f.index e.index) earlier in
    let node = eqb-true f.node.0 e.node.0 parts.0 in
    let low = ltb-true f.index e.index parts.1 in
    let x = is.own f.index (omega (arith, low, is.within)) in
    let place : x.place ≡ k = Some-injective (sym x.is_place ∙ place_once c.lines e.node.0 f.index k f is.once (record { stands = at_k; node = node; index = refl })) in
    let kept : slice_get w.program.places.items f.index ≡ Some k = x.kept ∙ ap Some place in
    record {
      access = f.index;
      earlier = low;
      place = kept;
      behind = le-leb j (slice_index w.program.places.items f.index) (subst (λ m. j ≤ m) (sym (get_or_from_slice_get w.program.places.items f.index k 0 kept)) above);
    }

-- the parts of being read
may_parts : (j : ℕ) (e : Access) (byte k : ℕ) (o : Option Access) → may_read j e byte k o ≡ true → (writes byte o ≡ true) × (k ≡ j → ⊥) × ((k < j) ⊎ (is_earlier e o ≡ true))
may_parts j e byte k o is =
    let outer = and_parts (writes byte o && not (k == j)) (nat_lt k j || is_earlier e o) is in
    let inner = and_parts (writes byte o) (not (k == j)) outer.0 in
    (inner.0, eqb-false k j (not-true (k == j) inner.1), ⊎_elim (λ lt. inl (ltb-true k j lt)) inr (or_cases _ _ outer.1))

-- an access that writes is there
written_by : (c : CertificateView) (byte k : ℕ) (o : Option Access) → slice_get c.lines k ≡ o → writes byte o ≡ true → (f : Access) × (slice_get c.lines k ≡ Some f)
written_by c byte k None at is = absurd cc
written_by c byte k (Some f) at is = (f, at)

-- behind the load's place it may read from its own stores that stand there alone
behind_it : (image : ImageView) (c : CertificateView) (j : ℕ) (e : Access) (w : Walk) (byte k : ℕ) → IsAtLine image c j e w → j ≤ k → may_read j e byte k (slice_get c.lines k) ≡ true →
    IsOwnStore c e w j k × (writes byte (slice_get c.lines k) ≡ true)
behind_it image c j e w byte k at above is =
    let parts = may_parts j e byte k (slice_get c.lines k) is in
    let f = written_by c byte k (slice_get c.lines k) refl parts.0 in (
      ⊎_elim (λ lt. absurd (omega (arith, lt, above))) (λ earlier. own_store image c j e w k f.0 at f.1 above (ap (is_earlier e) (sym f.1) ∙ earlier)) parts.2,
      parts.0,
    )

-- before it, from all that write
before_it : (j : ℕ) (e : Access) (byte k : ℕ) (o : Option Access) → k < j → may_read j e byte k o ≡ writes byte o
before_it j e byte k o lt = by_test (writes byte o)
  where
    differ : k ≡ j → ⊥
    differ same = omega arith

    by_test : (b : Bool) → (b && not (k == j) && (nat_lt k j || is_earlier e o)) ≡ b
    by_test false = refl
    by_test true = and_from _ _ (not_from_false _ (ne_eqb k j differ)) (or_left _ _ (lt-ltb k j lt))

pub source_own : (image : ImageView) (c : CertificateView) (j : ℕ) (e : Access) (w : Walk) (byte q : ℕ) (f : Access) → IsAtLine image c j e w →
    found_own c e w byte ≡ Some q → slice_get c.lines q ≡ Some f → source_byte image c.lines j e byte ≡ stored_byte f byte
source_own image c j e w byte q f at found at_q =
    let latest : IsLatest c.lines w.program.places.items (writes byte) (stands_from w.program.places.items j) e.index q = subst (LatestOf c.lines w.program.places.items (writes byte) (stands_from w.program.places.items j) e.index) found (LatestOf-walk image c j e w (writes byte) at) in
    ap (λ o. byte_from image byte (option_and_then (slice_get c.lines) o)) (last_is (λ k. may_read j e byte k (slice_get c.lines k)) (length c.lines) q (record {
      passes = passes latest;
      below = slice_get_within c.lines q f at_q;
      behind = λ k above below. false_from_ne_true _ (λ yes. none latest k above (behind_it image c j e w byte k at (le_from latest above) yes));
    }))
    ∙ ap (byte_from image byte) at_q
  where
    Latest : Type 0
    Latest = IsLatest c.lines w.program.places.items (writes byte) (stands_from w.program.places.items j) e.index q

    stands : Latest → j ≤ q
    stands latest = subst (λ m. j ≤ m) (get_or_from_slice_get w.program.places.items latest.access q 0 latest.place) (leb-true j (slice_index w.program.places.items latest.access) latest.passes)

    le_from : {k : ℕ} → Latest → q < k → j ≤ k
    le_from latest above = let low = stands latest in omega arith

    different : f.index < e.index → f ≡ e → ⊥
    different low same = let i : f.index ≡ e.index = ap (λ (x : Access). x.index) same in omega arith

    passes : Latest → may_read j e byte q (slice_get c.lines q) ≡ true
    passes latest =
        let is = IsAt-from image c j e w at in
        let early = latest.below in
        let x = is.own latest.access (omega (arith, early, is.within)) in
        let of_it = place_is c.lines e.node.0 latest.access q f (x.is_place ∙ sym x.kept ∙ latest.place) at_q in
        let low : f.index < e.index = subst (λ i. i < e.index) (sym of_it.1) early in
        let differ : q ≡ j → ⊥ = λ same. different low (Some-injective (sym at_q ∙ ap (slice_get c.lines) same ∙ at.stands)) in
        and_from _ _ (and_from _ _ latest.writes_it (not_from_false _ (ne_eqb q j differ)))
        (or_right (nat_lt q j) _ (ap (is_earlier e) at_q ∙ and_from _ _ (eq-eqb f.node.0 e.node.0 of_it.0) (lt-ltb f.index e.index low)))

    none : (latest : Latest) → (k : ℕ) → q < k → IsOwnStore c e w j k × (writes byte (slice_get c.lines k) ≡ true) → ⊥
    none latest k above (own, wrote) = let low = latest.last own.access k own.earlier own.behind own.place wrote in omega arith

pub source_before : (image : ImageView) (c : CertificateView) (j : ℕ) (e : Access) (w : Walk) (byte : ℕ) → IsAtLine image c j e w →
    found_own c e w byte ≡ None → source_byte image c.lines j e byte ≡ written_byte image c.lines j byte
source_before image c j e w byte at found =
    let no_store : NoStore c.lines w.program.places.items (writes byte) (stands_from w.program.places.items j) e.index = subst (LatestOf c.lines w.program.places.items (writes byte) (stands_from w.program.places.items j) e.index) found (LatestOf-walk image c j e w (writes byte) at) in
    let within = slice_get_within c.lines j e at.stands in
    ap (λ o. byte_from image byte (option_and_then (slice_get c.lines) o))
    (last_front (λ k. may_read j e byte k (slice_get c.lines k)) (λ k. writes byte (slice_get c.lines k)) j (length c.lines) (omega arith)
    (λ k below. before_it j e byte k (slice_get c.lines k) below)
    (λ k above below. false_from_ne_true _ (λ yes. none no_store k (behind_it image c j e w byte k at above yes))))
  where
    none : NoStore c.lines w.program.places.items (writes byte) (stands_from w.program.places.items j) e.index → (k : ℕ) → IsOwnStore c e w j k × (writes byte (slice_get c.lines k) ≡ true) → ⊥
    none no_store k (own, wrote) = false≢true (sym (no_store own.access k own.earlier own.behind own.place) ∙ wrote)

-- where a store is found its line is there, and has the byte
pub own_stands : (image : ImageView) (c : CertificateView) (j : ℕ) (e : Access) (w : Walk) (byte q : ℕ) → IsAtLine image c j e w → found_own c e w byte ≡ Some q →
    (f : Access) × (slice_get c.lines q ≡ Some f) × (gap_of f.addr.0 byte < count_of f.size)
own_stands image c j e w byte q at found =
    let latest : IsLatest c.lines w.program.places.items (writes byte) (stands_from w.program.places.items j) e.index q = subst (LatestOf c.lines w.program.places.items (writes byte) (stands_from w.program.places.items j) e.index) found (LatestOf-walk image c j e w (writes byte) at) in
    let f = written_by c byte q (slice_get c.lines q) refl latest.writes_it in
    (f.0, f.1, ltb-true _ _ (and_parts (stores f.0.kind) (nat_lt (gap_of f.0.addr.0 byte) (count_of f.0.size)) (ap (writes byte) (sym f.1) ∙ latest.writes_it)).1)
