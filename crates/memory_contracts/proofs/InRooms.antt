-- A list of messages stays within the rooms that are counted: one is sent, one is taken, a tick passes.
use Rattle.std.proofs.Common.{◌≡◌, ℕ, ◌+◌, ◌-◌, ◌<◌, ◌≤◌, ◌==◌, Bool, true, false, cond, ◌&&◌, List, [], ◌∷◌, ◌++◌, length, map, slice_get, Some, refl, sym, ap, subst, ◌∙◌, arith, ⊎_elim}
use Rattle.std.specs.List.{remove}
use Rattle.std.proofs.lemmas.Bool.{and_parts, eqb-true}
use Rattle.std.proofs.lemmas.Bool.Decides.{nat_tests}
use Rattle.std.proofs.lemmas.List.{length_push}
use Rattle.list_facts.specs.Places.{slice_get_more, slice_get-remove}
use Rattle.memory_contracts.specs.Bags.{marked}
use Rattle.memory_contracts.specs.Carrier.{Flight, class_of, has_class, rank, same_class, sent_by}
use Rattle.memory_contracts.specs.Carrying.{slice_get-map}
use Rattle.memory_contracts.specs.Packets.{AreInRooms}
use Rattle.memory_contracts.specs.Rooms.{count_in, with_count}
use Rattle.memory_contracts.specs.declared.message.Class.{Class}
use Rattle.memory_contracts.specs.declared.message.Class.TheVariants.{Ask, Order, Give, Reply}
use Rattle.memory_contracts.specs.declared.rooms.Rooms.{Rooms}
use Rattle.memory_contracts.proofs.Carriers.{few_flights, filter-push, filter-remove, sent_by-marked}

-- ---- classes by their ranks

class_at : ℕ → Class
class_at n = cond (n == 0) Ask (cond (n == 1) Order (cond (n == 2) Give Reply))

class_at-rank : (c : Class) → class_at (rank c) ≡ c
unfolding class_at
class_at-rank Ask = refl
class_at-rank Order = refl
class_at-rank Give = refl
class_at-rank Reply = refl

same_class-is : (c d : Class) → same_class c d ≡ true → c ≡ d
same_class-is c d e = sym (class_at-rank c) ∙ ap class_at (eqb-true (rank c) (rank d) e) ∙ class_at-rank d

same_class-refl : (c : Class) → same_class c c ≡ true
same_class-refl c = grind (arith, nat_tests)

-- what holds of the node and the class of f holds of those that it is a message of
at_its_own : (P : ℕ → Class → Type 0) (f : Flight) (q : ℕ) (d : Class) → ((f.source == q) && has_class d f) ≡ true → P f.source (class_of f.message.kind) → P q d
at_its_own P f q d e here =
    let (source, class) = and_parts (f.source == q) (has_class d f) e in
    let at : Class → Type 0 = λ c. P q c in
    let of : ℕ → Type 0 = λ p. P p (class_of f.message.kind) in
    subst at (same_class-is (class_of f.message.kind) d class) (subst of (eqb-true f.source q source) here)

its_own : (f : Flight) → ((f.source == f.source) && has_class (class_of f.message.kind) f) ≡ true
its_own f =
    let here : (f.source == f.source) ≡ true = grind (arith, nat_tests) in
    ap (λ b. b && has_class (class_of f.message.kind) f) here ∙ same_class-refl (class_of f.message.kind)

-- ---- a message is sent

-- the counts with that of f one higher
counts-sent : (flights : List Flight) (taken new : Rooms) (f : Flight) (k : Class) → ((q : ℕ) (d : Class) → count_in taken q d ≡ length (sent_by q d flights)) →
    k ≡ class_of f.message.kind → count_in new ≡ with_count (count_in taken) f.source k (count_in taken f.source k + 1) → (q : ℕ) (d : Class) → count_in new q d ≡ length (sent_by q d (flights ++ f ∷ []))
counts-sent flights taken new f k counts class is q d =
    ap (λ (h : ℕ → Class → ℕ). h q d) is
    ∙ ap (λ k. cond ((f.source == q) && same_class k d) (n + 1) (count_in taken q d)) class
    ∙ by ((f.source == q) && has_class d f) refl
    ∙ sym (filter-push (λ f. (f.source == q) && has_class d f) flights f)
  where
    n : ℕ
    n = count_in taken f.source k

    here : n ≡ length (sent_by f.source (class_of f.message.kind) flights)
    here = ap (count_in taken f.source) class ∙ counts f.source (class_of f.message.kind)

    by : (b : Bool) → ((f.source == q) && has_class d f) ≡ b → cond b (n + 1) (count_in taken q d) ≡ length (sent_by q d flights) + cond b 1 0
    by true e = let there = at_its_own (λ q d. n ≡ length (sent_by q d flights)) f q d e here in omega (arith, there)
    by false e = omega (arith, counts q d)

rooms-sent : (flights : List Flight) (f : Flight) → ((q : ℕ) (d : Class) → length (sent_by q d flights) ≤ 8) → length (sent_by f.source (class_of f.message.kind) flights) < 8 → (q : ℕ) (d : Class) → length (sent_by q d (flights ++ f ∷ [])) ≤ 8
rooms-sent flights f rooms room q d = by ((f.source == q) && has_class d f) refl (filter-push (λ f. (f.source == q) && has_class d f) flights f)
  where
    by : (b : Bool) → ((f.source == q) && has_class d f) ≡ b → length (sent_by q d (flights ++ f ∷ [])) ≡ length (sent_by q d flights) + cond b 1 0 → length (sent_by q d (flights ++ f ∷ [])) ≤ 8
    by true e more = let there = at_its_own (λ q d. length (sent_by q d flights) < 8) f q d e room in omega (arith, more, there)
    by false e more = omega (arith, more, rooms q d)

pub in_rooms-sent : (flights : List Flight) (nodes : ℕ) (taken new : Rooms) (capacity more : ℕ) (f : Flight) (k : Class) → AreInRooms flights nodes taken capacity → f.source < nodes → f.to < nodes →
    k ≡ class_of f.message.kind → count_in taken f.source k < 8 → count_in new ≡ with_count (count_in taken) f.source k (count_in taken f.source k + 1) → more ≡ capacity → AreInRooms (flights ++ f ∷ []) nodes new more
in_rooms-sent flights nodes taken new capacity more f k kept source to class room is same =
    let memory = kept.memory in
    let here : count_in taken f.source k ≡ length (sent_by f.source (class_of f.message.kind) flights) = ap (count_in taken f.source) class ∙ kept.counts f.source (class_of f.message.kind) in
    let Source : Flight → Type 0 = λ f. f.source < nodes in
    let To : Flight → Type 0 = λ f. f.to < nodes in
    record {
      few = kept.few;
      memory = omega (arith, memory, same);
      sources = λ i g at. ⊎_elim (λ there. kept.sources i g there) (λ new. subst Source (sym new.1) source) (slice_get_more flights f i g at);
      destinations = λ i g at. ⊎_elim (λ there. kept.destinations i g there) (λ new. subst To (sym new.1) to) (slice_get_more flights f i g at);
      counts = counts-sent flights taken new f k kept.counts class is;
      rooms = rooms-sent flights f kept.rooms (omega (arith, room, here));
    }

-- with a message more in its rooms, a list has a place in memory
pub place-sent : (flights : List Flight) (nodes : ℕ) (taken : Rooms) (capacity : ℕ) (f : Flight) → AreInRooms (flights ++ f ∷ []) nodes taken capacity → length flights < capacity
place-sent flights nodes taken capacity f kept =
    let few = few_flights nodes (flights ++ f ∷ []) kept.sources kept.rooms in
    let memory = kept.memory in
    omega (arith, few, memory, length_push flights f)

-- ---- a message is taken

counts-taken : (flights : List Flight) (taken new : Rooms) (i : ℕ) (f : Flight) (k : Class) → ((q : ℕ) (d : Class) → count_in taken q d ≡ length (sent_by q d flights)) → slice_get flights i ≡ Some f →
    k ≡ class_of f.message.kind → count_in new ≡ with_count (count_in taken) f.source k (count_in taken f.source k - 1) → (q : ℕ) (d : Class) → count_in new q d ≡ length (sent_by q d (remove flights i))
counts-taken flights taken new i f k counts at class is q d =
    ap (λ (h : ℕ → Class → ℕ). h q d) is
    ∙ ap (λ k. cond ((f.source == q) && same_class k d) (n - 1) (count_in taken q d)) class
    ∙ by ((f.source == q) && has_class d f) refl (filter-remove (λ f. (f.source == q) && has_class d f) flights i f at)
  where
    n : ℕ
    n = count_in taken f.source k

    here : n ≡ length (sent_by f.source (class_of f.message.kind) flights)
    here = ap (count_in taken f.source) class ∙ counts f.source (class_of f.message.kind)

    by : (b : Bool) → ((f.source == q) && has_class d f) ≡ b → length (sent_by q d flights) ≡ length (sent_by q d (remove flights i)) + cond b 1 0 → cond b (n - 1) (count_in taken q d) ≡ length (sent_by q d (remove flights i))
    by true e less = let there = at_its_own (λ q d. n ≡ length (sent_by q d flights)) f q d e here in omega (arith, there, less)
    by false e less = omega (arith, counts q d, less)

pub in_rooms-taken : (flights : List Flight) (nodes : ℕ) (taken new : Rooms) (capacity more : ℕ) (i : ℕ) (f : Flight) (k : Class) → AreInRooms flights nodes taken capacity → slice_get flights i ≡ Some f →
    k ≡ class_of f.message.kind → count_in new ≡ with_count (count_in taken) f.source k (count_in taken f.source k - 1) → more ≡ capacity → AreInRooms (remove flights i) nodes new more
in_rooms-taken flights nodes taken new capacity more i f k kept at class is same =
    let memory = kept.memory in
    record {
      few = kept.few;
      memory = omega (arith, memory, same);
      sources = λ j g there. let (l, was) = slice_get-remove flights i j g there in kept.sources l g was;
      destinations = λ j g there. let (l, was) = slice_get-remove flights i j g there in kept.destinations l g was;
      counts = counts-taken flights taken new i f k kept.counts at class is;
      rooms = λ q d. let less = filter-remove (λ f. (f.source == q) && has_class d f) flights i f at in let most = kept.rooms q d in omega (arith, less, most);
    }

-- what stands in the list comes from a node, and is counted
pub source-there : (flights : List Flight) (nodes : ℕ) (taken : Rooms) (capacity : ℕ) (i : ℕ) (f : Flight) → AreInRooms flights nodes taken capacity → slice_get flights i ≡ Some f → f.source < 16
source-there flights nodes taken capacity i f kept at =
    let source = kept.sources i f at in
    let few = kept.few in
    omega (arith, source, few)

pub counted-there : (flights : List Flight) (nodes : ℕ) (taken : Rooms) (capacity : ℕ) (i : ℕ) (f : Flight) (k : Class) → AreInRooms flights nodes taken capacity → slice_get flights i ≡ Some f → k ≡ class_of f.message.kind → 0 < count_in taken f.source k
counted-there flights nodes taken capacity i f k kept at class =
    let c = class_of f.message.kind in
    let count : count_in taken f.source k ≡ length (sent_by f.source c flights) = ap (count_in taken f.source) class ∙ kept.counts f.source c in
    let less = filter-remove (λ g. (g.source == f.source) && has_class c g) flights i f at in
    let number : Bool → ℕ = λ b. cond b 1 0 in
    let one : number ((f.source == f.source) && has_class c f) ≡ number true = ap number (its_own f) in
    omega (arith, count, less, one)

-- ---- a tick passes

pub in_rooms-ticked : (flights : List Flight) (nodes : ℕ) (taken : Rooms) (capacity : ℕ) (width now : ℕ) → AreInRooms flights nodes taken capacity → AreInRooms (map (marked width now) flights) nodes taken capacity
in_rooms-ticked flights nodes taken capacity width now kept =
    let Source : Flight → Type 0 = λ f. f.source < nodes in
    let To : Flight → Type 0 = λ f. f.to < nodes in
    record {
      few = kept.few;
      memory = kept.memory;
      sources = λ i g at. let (f, was, same) = slice_get-map (marked width now) flights i g at in subst Source same (kept.sources i f was);
      destinations = λ i g at. let (f, was, same) = slice_get-map (marked width now) flights i g at in subst To same (kept.destinations i f was);
      counts = λ p c. kept.counts p c ∙ sym (sent_by-marked width now p c flights);
      rooms = λ p c. let same = sent_by-marked width now p c flights in let most = kept.rooms p c in omega (arith, same, most);
    }
