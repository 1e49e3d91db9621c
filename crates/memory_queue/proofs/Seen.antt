-- What the accesses before a load show of its bytes.
use Rattle.std.proofs.Common.{◌≡◌, ℕ, zero, suc, ◌+◌, ◌*◌, ◌%◌, ◌^◌, ◌<◌, ◌≤◌, ◌↔◌, nat_lt, Bool, true, false, not, ◌&&◌, ◌||◌, cond, List, length, take, find, reverse, Option, None, Some, IsSome, is_some, option_and_then, slice_get, refl, sym, ap, subst, ⊎_elim, ◌∙◌, arith}
use Rattle.std.specs.Option.{ForSome, option_map_or}
use Rattle.std.proofs.lemmas.Bool.{cases_lt, lt-ltb, ltb-true, le-leb, leb-true}
use Rattle.std.proofs.lemmas.Option.{get_or_from_slice_get, slice_get_within}
use Rattle.list_facts.specs.Options.{Some-injective}
use Rattle.list_facts.specs.Places.{slice_get_below}
use Rattle.rsim_base.specs.Accesses.{stores}
use Rattle.rsim_base.specs.Bytes.{Covers, FitsIn, Overlaps, byte_of, count_of, gap_of, part, starts_in}
use Rattle.rsim_base.specs.ByteSets.{Covers-from_gap, IsByteOf-from_gap, count_of-bounds, gap_of-Covers, gaps_of-Overlaps}
use Rattle.rsim_base.specs.Laws.{PartsHaveTheBytes}
use Rattle.rsim_base.specs.declared.memory.Addr.{Addr}
use Rattle.rsim_base.specs.declared.memory.Kind.{Kind}
use Rattle.rsim_base.specs.declared.memory.Kind.TheVariants.{Load, Store, Atomic}
use Rattle.rsim_base.specs.declared.memory.Size.{Size}
use Rattle.memory_queue.specs.Laws.{AreAddresses}
use Rattle.memory_queue.specs.Queues.{byte_seen, forwarded_to, given, given_by, given_byte, last_writer, meets, met_by, writes_byte}
use Rattle.memory_queue.specs.declared.queued.Queued.{Queued}
use Rattle.memory_queue.proofs.Binding.{left-of}
use Rattle.memory_queue.proofs.Forwarding.{forwarded-at}
use Rattle.memory_queue.proofs.Walking.{back-at}

-- ---- what is found from the youngest on

module _ {X : Type 0} where
  -- it stands at a place, and passes
  pub found-at : (p : X → Bool) (xs : List X) (n : ℕ) → n ≤ length xs → (x : X) → find p (reverse (take n xs)) ≡ Some x → (i : ℕ) × (slice_get xs i ≡ Some x) × (p x ≡ true)
  found-at p xs zero within x is = absurd cc
  found-at p xs (suc n) within x is = let (y, at) = slice_get_below xs n (omega arith) in by y at (p y) refl (found-at p xs n (omega arith) x)
    where
      by : (y : X) → slice_get xs n ≡ Some y → (b : Bool) → p y ≡ b → (find p (reverse (take n xs)) ≡ Some x → (i : ℕ) × (slice_get xs i ≡ Some x) × (p x ≡ true)) → (i : ℕ) × (slice_get xs i ≡ Some x) × (p x ≡ true)
      by y at true passes rest =
          let here : y ≡ x = Some-injective (sym (ap (find p) (back-at xs n y at) ∙ ap (λ b. cond b (Some y) (find p (reverse (take n xs)))) passes) ∙ is) in
          (n, at ∙ ap Some here, sym (ap p here) ∙ passes)
      by y at false fails rest = rest (sym (ap (find p) (back-at xs n y at) ∙ ap (λ b. cond b (Some y) (find p (reverse (take n xs)))) fails) ∙ is)

  -- a narrower test finds the same where that passes it, and nothing where nothing is found
  pub find-narrower : (p q : X → Bool) (xs : List X) (n : ℕ) → n ≤ length xs → ((i : ℕ) (x : X) → slice_get xs i ≡ Some x → p x ≡ true → q x ≡ true) →
      (found : Option X) → find q (reverse (take n xs)) ≡ found → option_map_or p found true ≡ true → find p (reverse (take n xs)) ≡ found
  find-narrower p q xs zero within narrower found is passes = is
  find-narrower p q xs (suc n) within narrower found is passes = let (y, at) = slice_get_below xs n (omega arith) in by y at (q y) (p y) refl refl (λ e. find-narrower p q xs n (omega arith) narrower found e passes)
    where
      next : (r : X → Bool) (y : X) → slice_get xs n ≡ Some y → (b : Bool) → r y ≡ b → find r (reverse (take (suc n) xs)) ≡ cond b (Some y) (find r (reverse (take n xs)))
      next r y at b is = ap (find r) (back-at xs n y at) ∙ ap (λ b. cond b (Some y) (find r (reverse (take n xs)))) is

      by : (y : X) → slice_get xs n ≡ Some y → (b d : Bool) → q y ≡ b → p y ≡ d → (find q (reverse (take n xs)) ≡ found → find p (reverse (take n xs)) ≡ found) → find p (reverse (take (suc n) xs)) ≡ found
      by y at true true is_q is_p rest = next p y at true is_p ∙ (sym (next q y at true is_q) ∙ is)
      by y at true false is_q is_p rest =
          let here : Some y ≡ found = sym (next q y at true is_q) ∙ is in
          let both : p y ≡ true = ap (λ o. option_map_or p o true) here ∙ passes in
          absurd cc
      by y at false true is_q is_p rest = absurd (let both : q y ≡ true = narrower n y at is_p in cc)
      by y at false false is_q is_p rest = next p y at false is_p ∙ rest (sym (next q y at false is_q) ∙ is)

address-at : (accesses : List Queued) → AreAddresses accesses → (i : ℕ) (x : Queued) → slice_get accesses i ≡ Some x → ForSome x.addr (λ b. b.0 < 2 ^ 64)
address-at accesses fit i x at =
    subst (λ (z : Queued). ForSome z.addr (λ (b : Addr). b.0 < 2 ^ 64)) (get_or_from_slice_get accesses i x x at) (fit i x (slice_get_within accesses i x at))

-- ---- one that stores at a byte of a load meets it

starts-with_byte : (b m a n j : ℕ) → b < 2 ^ 64 → a < 2 ^ 64 → m ≤ 8 → n ≤ 8 → j < n → gap_of b ((a + j) % 2 ^ 64) < m → starts_in b m a n ≡ true
starts-with_byte b m a n j b_fits a_fits m_small n_small below near =
    let shared : Overlaps b m a n = ((a + j) % 2 ^ 64, IsByteOf-from_gap ((a + j) % 2 ^ 64) b m (omega arith) b_fits near, (j, below, refl)) in
    ⊎_elim (λ (first : gap_of a b < n). ap (λ c. nat_lt (gap_of b a) m || c) (lt-ltb _ _ first) ∙ either (nat_lt (gap_of b a) m))
    (λ (past : n ≤ gap_of a b). ap (λ c. c || nat_lt (gap_of a b) n) (lt-ltb _ _ (gaps_of-Overlaps b m a n b_fits a_fits m_small n_small shared past)))
    (cases_lt (gap_of a b) n)
  where
    either : (c : Bool) → (c || true) ≡ true
    either true = refl
    either false = refl

writer-meets : (s : Queued) (a : Addr) (n : Size) (j : ℕ) → ForSome s.addr (λ b. b.0 < 2 ^ 64) → a.0 < 2 ^ 64 → j < count_of n → writes_byte ((a.0 + j) % 2 ^ 64) s ≡ true → meets a n s ≡ true
writer-meets s a n j fits a_fits below writes = by (stores s.kind && not s.placed) s.addr fits writes
  where
    by : (r : Bool) (o : Option Addr) → ForSome o (λ b. b.0 < 2 ^ 64) → (r && option_map_or (λ b. nat_lt (gap_of b.0 ((a.0 + j) % 2 ^ 64)) (count_of s.size)) o false) ≡ true →
        (r && option_map_or (λ b. starts_in b.0 (count_of s.size) a.0 (count_of n)) o false) ≡ true
    by false o fits writes = writes
    by true None fits writes = writes
    by true (Some b) fits writes =
        starts-with_byte b.0 (count_of s.size) a.0 (count_of n) j (fits b refl) a_fits (count_of-bounds s.size).1 (count_of-bounds n).1 below (ltb-true _ _ writes)

pub unmet-unwritten : (accesses : List Queued) (k : ℕ) (y : Queued) (a : Addr) → AreAddresses accesses → slice_get accesses k ≡ Some y → y.addr ≡ Some a →
    met_by (take k accesses) a y.size ≡ None → (b : ℕ) → b < count_of y.size → last_writer (take k accesses) ((a.0 + b) % 2 ^ 64) ≡ None
unmet-unwritten accesses k y a fit at addr none b below =
    let within : k < length accesses = slice_get_within accesses k y at in
    let a_fits : a.0 < 2 ^ 64 = address-at accesses fit k y at a addr in
    find-narrower (writes_byte ((a.0 + b) % 2 ^ 64)) (meets a y.size) accesses k (omega (arith, within))
    (λ i s there writes. writer-meets s a y.size b (address-at accesses fit i s there) a_fits below writes)
    None none refl

-- ---- what a store gives

part-of : (c : Bool) (x v : ℕ) → cond c (Some x) None ≡ Some v → (c ≡ true) × (x ≡ v)
part-of true x v is = (refl, Some-injective is)
part-of false x v is = absurd cc

some-part : (c : Bool) (x : ℕ) → is_some (cond c (Some x) None) ≡ true → c ≡ true
some-part true x is = refl
some-part false x is = is

pub gives-where-it-covers : (kind : Kind) (b a : Addr) (m n : Size) (value : Option ℕ) → b.0 < 2 ^ 64 → a.0 < 2 ^ 64 →
    IsSome (given kind b m a n value) ↔ ((kind ≡ Store) × IsSome value × Covers b.0 (count_of m) a.0 (count_of n))
gives-where-it-covers Load b a m n value b_fits a_fits = (λ some. absurd cc, λ all. absurd (let store = all.0 in cc))
gives-where-it-covers Atomic b a m n value b_fits a_fits = (λ some. absurd cc, λ all. absurd (let store = all.0 in cc))
gives-where-it-covers Store b a m n None b_fits a_fits = (λ some. absurd cc, λ all. absurd (let some = all.1 in cc))
gives-where-it-covers Store b a m n (Some w) b_fits a_fits = (
  λ some. (refl, refl, Covers-from_gap _ _ _ _ b_fits a_fits (leb-true _ _ (some-part _ (part w (count_of m) (gap_of b.0 a.0) (count_of n)) some))),
  λ all.
      let within = gap_of-Covers b.0 (count_of m) a.0 (count_of n) b_fits a_fits (count_of-bounds m).1 (count_of-bounds n).1 (count_of-bounds n).0 all.2 in
      ap (λ c. is_some (cond c (Some (part w (count_of m) (gap_of b.0 a.0) (count_of n))) None)) (le-leb _ _ within),
)

-- a store that gives a load a value stores at each byte of it, and that byte is the value's
pub record Gives (s : Queued) (n : Size) (v x j : ℕ) : Type 0 where
  pub writes : writes_byte x s ≡ true
  pub byte : given_byte x s.kind s.addr s.size s.value ≡ Some (byte_of v (count_of n) j)
  pub fits : FitsIn n v

gives-at : PartsHaveTheBytes → (kind : Kind) (placed : Bool) (o : Option Addr) (m : Size) (value : Option ℕ) (a : Addr) (n : Size) (v j : ℕ) →
    ForSome o (λ b. b.0 < 2 ^ 64) → a.0 < 2 ^ 64 → j < count_of n → (stores kind && not placed) ≡ true → option_and_then (λ b. given kind b m a n value) o ≡ Some v →
    (((stores kind && not placed) && option_map_or (λ b. nat_lt (gap_of b.0 ((a.0 + j) % 2 ^ 64)) (count_of m)) o false) ≡ true)
    × (given_byte ((a.0 + j) % 2 ^ 64) kind o m value ≡ Some (byte_of v (count_of n) j))
    × FitsIn n v
gives-at parts kind placed None m value a n v j fits a_fits below waits gives = absurd cc
gives-at parts Load placed (Some b) m value a n v j fits a_fits below waits gives = absurd cc
gives-at parts Atomic placed (Some b) m value a n v j fits a_fits below waits gives = absurd cc
gives-at parts Store placed (Some b) m None a n v j fits a_fits below waits gives = absurd cc
gives-at parts Store placed (Some b) m (Some w) a n v j fits a_fits below waits gives =
    let (test, same) = part-of _ (part w (count_of m) (gap_of b.0 a.0) (count_of n)) v gives in
    let within : gap_of b.0 a.0 + count_of n ≤ count_of m = leb-true _ _ test in
    let b_fits : b.0 < 2 ^ 64 = fits b refl in
    let small : count_of m ≤ 8 = (count_of-bounds m).1 in
    let apart : gap_of b.0 ((a.0 + j) % 2 ^ 64) ≡ gap_of b.0 a.0 + j = omega (arith, within, b_fits, small) in
    let law = parts w (count_of m) (gap_of b.0 a.0) (count_of n) within in (
      ap (λ c. c && nat_lt (gap_of b.0 ((a.0 + j) % 2 ^ 64)) (count_of m)) waits ∙ lt-ltb _ _ (omega (arith, apart, within, below)),
      ap Some (ap (byte_of w (count_of m)) apart ∙ (sym (law.0 j below) ∙ ap (λ z. byte_of z (count_of n) j) same)),
      subst (λ z. z < 2 ^ (8 * count_of n)) same law.1,
    )

gives-each : PartsHaveTheBytes → (s : Queued) (a : Addr) (n : Size) (v j : ℕ) → ForSome s.addr (λ b. b.0 < 2 ^ 64) → a.0 < 2 ^ 64 → j < count_of n →
    meets a n s ≡ true → given_by a n (Some s) ≡ Some v → Gives s n v ((a.0 + j) % 2 ^ 64) j
gives-each parts s a n v j fits a_fits below met gives =
    let (writes, byte, whole) = gives-at parts s.kind s.placed s.addr s.size s.value a n v j fits a_fits below (left-of (stores s.kind && not s.placed) _ met) gives in
    record { writes = writes; byte = byte; fits = whole }

pub forward-seen : PartsHaveTheBytes → (accesses : List Queued) (k : ℕ) (y : Queued) (a : Addr) (v : ℕ) → AreAddresses accesses → slice_get accesses k ≡ Some y → y.addr ≡ Some a →
    forwarded_to k accesses ≡ Some v →
    FitsIn y.size v × ((b : ℕ) → b < count_of y.size → byte_seen (take k accesses) ((a.0 + b) % 2 ^ 64) ≡ Some (byte_of v (count_of y.size) b))
forward-seen parts accesses k y a v fit at addr given = by (met_by (take k accesses) a y.size) refl
  where
    by : (met : Option Queued) → met_by (take k accesses) a y.size ≡ met →
        FitsIn y.size v × ((b : ℕ) → b < count_of y.size → byte_seen (take k accesses) ((a.0 + b) % 2 ^ 64) ≡ Some (byte_of v (count_of y.size) b))
    by None none = absurd (let is : forwarded_to k accesses ≡ None = forwarded-at accesses k y a None at addr none in cc)
    by (Some s) some =
        let gives : given_by a y.size (Some s) ≡ Some v = sym (forwarded-at accesses k y a (Some s) at addr some) ∙ given in
        let within : k < length accesses = slice_get_within accesses k y at in
        let a_fits : a.0 < 2 ^ 64 = address-at accesses fit k y at a addr in
        let (i, there, met) = found-at (meets a y.size) accesses k (omega (arith, within)) s some in
        let each = λ (b : ℕ) (below : b < count_of y.size). gives-each parts s a y.size v b (address-at accesses fit i s there) a_fits below met gives in
        let writer = λ (b : ℕ) (below : b < count_of y.size).
        find-narrower (writes_byte ((a.0 + b) % 2 ^ 64)) (meets a y.size) accesses k (omega (arith, within))
        (λ i s there writes. writer-meets s a y.size b (address-at accesses fit i s there) a_fits below writes)
        (Some s) some (each b below).writes in (
          (each 0 (count_of-bounds y.size).0).fits,
          λ b below. ap (option_and_then (λ (s : Queued). given_byte ((a.0 + b) % 2 ^ 64) s.kind s.addr s.size s.value)) (writer b below) ∙ (each b below).byte,
        )
