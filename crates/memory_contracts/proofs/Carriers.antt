-- Lists of messages under way: one is sent, one is taken, a tick passes.
use Rattle.std.proofs.Common.{None, ◌≡◌, ℕ, zero, suc, ◌+◌, ◌*◌, ◌<◌, ◌≤◌, ◌==◌, nat_lt, Bool, true, false, cond, ◌&&◌, List, [], ◌∷◌, ◌++◌, length, map, slice_get, Some, refl, sym, ap, subst, ◌∙◌, arith}
use Rattle.std.specs.List.{filter, remove}
use Rattle.std.proofs.lemmas.Bool.Decides.{nat_tests}
use Rattle.std.proofs.lemmas.Bool.{le-leb, lt-ltb}
use Rattle.memory_contracts.specs.Bags.{marked, ticked}
use Rattle.memory_contracts.specs.Carrier.{Flight, CarrierTicks, class_of, earliest, has_class, same_class, sent_by, unmarked}
use Rattle.memory_contracts.specs.Carrying.{slice_get-map, marked-timely}
use Rattle.memory_contracts.specs.Packets.{carrier_of, flight_of, flights_of}
use Rattle.memory_contracts.specs.declared.mesh.Mesh.{Mesh}
use Rattle.memory_contracts.specs.declared.message.Class.{Class}
use Rattle.memory_contracts.specs.declared.message.Class.TheVariants.{Ask, Order, Give, Reply}
use Rattle.memory_contracts.specs.declared.packet.Packet.{Packet}

-- ---- how many pass a test

kept_one : {A : Type 0} (b : Bool) (x y : A) (xs ys : List A) (n : ℕ) → length xs ≡ length ys + n → length (cond b (x ∷ xs) xs) ≡ length (cond b (y ∷ ys) ys) + n
kept_one true x y xs ys n e = omega (arith, e)
kept_one false x y xs ys n e = e

here_one : {A : Type 0} (b : Bool) (x : A) (xs : List A) → length (cond b (x ∷ xs) xs) ≡ length xs + cond b 1 0
here_one true x xs = omega arith
here_one false x xs = omega arith

pub filter-push : {A : Type 0} (t : A → Bool) (xs : List A) (x : A) → length (filter t (xs ++ x ∷ [])) ≡ length (filter t xs) + cond (t x) 1 0
filter-push t [] x = here_one (t x) x []
filter-push t (y ∷ ys) x = kept_one (t y) y y (filter t (ys ++ x ∷ [])) (filter t ys) (cond (t x) 1 0) (filter-push t ys x)

pub filter-remove : {A : Type 0} (t : A → Bool) (xs : List A) (k : ℕ) (x : A) → slice_get xs k ≡ Some x → length (filter t xs) ≡ length (filter t (remove xs k)) + cond (t x) 1 0
filter-remove t [] k x e = absurd cc
filter-remove t (y ∷ ys) zero x e =
    let same : y ≡ x = cc in
    here_one (t y) y (filter t ys) ∙ ap (λ z. length (filter t ys) + cond (t z) 1 0) same
filter-remove t (y ∷ ys) (suc k) x e = kept_one (t y) y y (filter t ys) (filter t (remove ys k)) (cond (t x) 1 0) (filter-remove t ys k x e)

pub filter-all : {A : Type 0} (t : A → Bool) (xs : List A) → ((i : ℕ) (x : A) → slice_get xs i ≡ Some x → t x ≡ true) → length (filter t xs) ≡ length xs
filter-all t [] all = refl
filter-all t (x ∷ xs) all = ap (λ b. length (cond b (x ∷ filter t xs) (filter t xs))) (all zero x refl) ∙ ap suc (filter-all t xs (λ i. all (suc i)))

-- ---- the rooms bound the length of the list

below_more : (x n : ℕ) → cond (nat_lt x (suc n)) 1 0 ≡ cond (nat_lt x n) 1 0 + cond (x == n) 1 0
below_more x n = grind (arith, nat_tests)

split_one : {A : Type 0} (a b c : Bool) (x : A) (xs ys zs : List A) → cond a 1 0 ≡ cond b 1 0 + cond c 1 0 → length xs ≡ length ys + length zs → length (cond a (x ∷ xs) xs) ≡ length (cond b (x ∷ ys) ys) + length (cond c (x ∷ zs) zs)
split_one a b c x xs ys zs f e = omega (arith, f, e, here_one a x xs, here_one b x ys, here_one c x zs)

from_more : (n : ℕ) (flights : List Flight) → length (filter (λ f. nat_lt f.source (suc n)) flights) ≡ length (filter (λ f. nat_lt f.source n) flights) + length (filter (λ f. f.source == n) flights)
from_more n [] = refl
from_more n (f ∷ fs) =
    split_one (nat_lt f.source (suc n)) (nat_lt f.source n) (f.source == n) f (filter (λ f. nat_lt f.source (suc n)) fs) (filter (λ f. nat_lt f.source n) fs) (filter (λ f. f.source == n) fs) (below_more f.source n) (from_more n fs)

-- each message has one of four classes
one_of_four : (b : Bool) (c : Class) (f : Flight) (all asks orders gives replies : List Flight) → length all ≡ length asks + length orders + length gives + length replies →
    length (cond b (f ∷ all) all) ≡ length (cond (b && same_class c Ask) (f ∷ asks) asks) + length (cond (b && same_class c Order) (f ∷ orders) orders) + length (cond (b && same_class c Give) (f ∷ gives) gives) + length (cond (b && same_class c Reply) (f ∷ replies) replies)
one_of_four false c f all asks orders gives replies e = e
one_of_four true Ask f all asks orders gives replies e = omega (arith, e)
one_of_four true Order f all asks orders gives replies e = omega (arith, e)
one_of_four true Give f all asks orders gives replies e = omega (arith, e)
one_of_four true Reply f all asks orders gives replies e = omega (arith, e)

of_classes : (p : ℕ) (flights : List Flight) → length (filter (λ f. f.source == p) flights) ≡ length (sent_by p Ask flights) + length (sent_by p Order flights) + length (sent_by p Give flights) + length (sent_by p Reply flights)
of_classes p [] = refl
of_classes p (f ∷ fs) =
    one_of_four (f.source == p) (class_of f.message.kind) f (filter (λ f. f.source == p) fs) (sent_by p Ask fs) (sent_by p Order fs) (sent_by p Give fs) (sent_by p Reply fs) (of_classes p fs)

none_below : (flights : List Flight) → length (filter (λ f. nat_lt f.source 0) flights) ≡ 0
none_below [] = refl
none_below (f ∷ fs) =
    let none : nat_lt f.source 0 ≡ false = grind (arith, nat_tests) in
    ap (λ b. length (cond b (f ∷ filter (λ f. nat_lt f.source 0) fs) (filter (λ f. nat_lt f.source 0) fs))) none ∙ none_below fs

from_few : (n : ℕ) (flights : List Flight) → ((p : ℕ) (c : Class) → length (sent_by p c flights) ≤ 8) → length (filter (λ f. nat_lt f.source n) flights) ≤ n * 32
from_few zero flights rooms = omega (arith, none_below flights)
from_few (suc n) flights rooms =
    let before = from_few n flights rooms in
    let more = from_more n flights in
    let classes = of_classes n flights in
    let asks = rooms n Ask in
    let orders = rooms n Order in
    let gives = rooms n Give in
    let replies = rooms n Reply in
    omega arith

-- messages between n nodes that keep to their rooms are no more than these
pub few_flights : (n : ℕ) (flights : List Flight) → ((i : ℕ) (f : Flight) → slice_get flights i ≡ Some f → f.source < n) → ((p : ℕ) (c : Class) → length (sent_by p c flights) ≤ 8) → length flights ≤ n * 32
few_flights n flights sources rooms =
    let all = filter-all (λ (f : Flight). nat_lt f.source n) flights (λ i f at. lt-ltb f.source n (sources i f at)) in
    omega (arith, all, from_few n flights rooms)

-- ---- marks

pub sent_by-marked : (width now p : ℕ) (c : Class) (flights : List Flight) → length (sent_by p c (map (marked width now) flights)) ≡ length (sent_by p c flights)
sent_by-marked width now p c [] = refl
sent_by-marked width now p c (f ∷ fs) =
    kept_same ((f.source == p) && has_class c f) (marked width now f) f (sent_by p c (map (marked width now) fs)) (sent_by p c fs) (sent_by-marked width now p c fs)
  where
    kept_same : (b : Bool) (x y : Flight) (xs ys : List Flight) → length xs ≡ length ys → length (cond b (x ∷ xs) xs) ≡ length (cond b (y ∷ ys) ys)
    kept_same true x y xs ys e = ap suc e
    kept_same false x y xs ys e = e

-- marked anew, the messages of a list are those of the later tick
pub marked-marked : (width before now : ℕ) (packets : List Packet) → flights_of width now packets ≡ map (marked width now) (flights_of width before packets)
marked-marked width before now [] = refl
marked-marked width before now (s ∷ ss) = ap (λ fs. marked width now (flight_of s) ∷ fs) (marked-marked width before now ss)

-- a tick later
pub ticked-is : (mesh : Mesh) (now : ℕ) (packets : List Packet) → carrier_of mesh (now + 1) packets ≡ ticked (carrier_of mesh now packets)
ticked-is mesh now packets = λ i. record {
  flights = marked-marked mesh.width now (now + 1) packets i;
  ticks = now + 1;
  nodes = mesh.nodes;
  width = mesh.width;
  flit_bytes = mesh.flit_bytes;
  net = None;
  line_bytes = mesh.line_bytes;
}

unmarked-marked : (width now : ℕ) (flights : List Flight) → map unmarked (map (marked width now) flights) ≡ map unmarked flights
unmarked-marked width now [] = refl
unmarked-marked width now (f ∷ fs) = ap (λ gs. unmarked f ∷ gs) (unmarked-marked width now fs)

-- a tick of a list
pub ticks-ticked : (mesh : Mesh) (now : ℕ) (packets : List Packet) → CarrierTicks (carrier_of mesh now packets) (ticked (carrier_of mesh now packets))
ticks-ticked mesh now packets = record {
  same = refl;
  stay = unmarked-marked mesh.width (now + 1) (flights_of mesh.width now packets);
  kept = λ i f g at new arrived.
      let before = marked-timely mesh.width now packets i f at arrived in
      let (h, there, same) = slice_get-map (marked mesh.width (now + 1)) (flights_of mesh.width now packets) i g new in
      let one : f ≡ h = cc in
      let P : Flight → Type 0 = λ h. (marked mesh.width (now + 1) h).arrived ≡ true in
      ap (λ (g : Flight). g.arrived) (sym same) ∙ subst P one (le-leb (earliest mesh.width f) (now + 1) (omega (arith, before)));
}
