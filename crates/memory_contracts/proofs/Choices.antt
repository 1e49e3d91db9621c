-- Which message a node takes next: one pass through the list finds the first of the highest class.
use Rattle.std.proofs.Common.{◌≡◌, ℕ, ◌+◌, ◌<◌, ◌≤◌, ◌==◌, nat_lt, Bool, true, false, cond, not, ◌&&◌, List, [], ◌∷◌, ◌++◌, length, take, slice_get, get_or, Option, None, Some, refl, sym, ap, subst, ◌∙◌, arith}
use Rattle.std.specs.List.{position, position_or_len}
use Rattle.std.specs.Option.{option_map, option_or}
use Rattle.std.proofs.lemmas.Bool.{and_parts, eqb-true}
use Rattle.std.proofs.lemmas.Bool.Decides.{nat_tests}
use Rattle.std.proofs.lemmas.List.Folds.{position_or_len_push}
use Rattle.std.proofs.lemmas.List.{length-map, length-take, length_push, map_more}
use Rattle.std.proofs.lemmas.List.Quantifiers.{position-Some}
use Rattle.std.proofs.lemmas.List.Sums.{prefix_len-le-length}
use Rattle.memory_contracts.specs.Bags.{marked}
use Rattle.memory_contracts.specs.Carrier.{Flight, class_of, has_class, next_for, rank, waits_at}
use Rattle.memory_contracts.specs.Packets.{IsNext, arrived_at, better, flight_of, flights_of, outranks}
use Rattle.std.proofs.lemmas.Option.{slice_get-get_or}
use Rattle.memory_contracts.specs.declared.message.Class.{Class}
use Rattle.memory_contracts.specs.declared.message.Class.TheVariants.{Ask, Order, Give, Reply}
use Rattle.memory_contracts.specs.declared.packet.Arrived.{Arrived}
use Rattle.memory_contracts.specs.declared.packet.Packet.{Packet}

-- ---- the first place that passes, in a list with one more

place-push : (n new l more : ℕ) (d : Bool) → n ≤ l → new ≡ cond (n == l) (l + cond d 0 1) n → more ≡ l + 1 →
    cond (nat_lt new more) (Some new) None ≡ option_or (cond (nat_lt n l) (Some n) None) (cond d (Some l) None)
place-push n new l more d within is longer = by (nat_lt n l) refl d is
  where
    by : (b : Bool) → nat_lt n l ≡ b → (d : Bool) → new ≡ cond (n == l) (l + cond d 0 1) n → cond (nat_lt new more) (Some new) None ≡ option_or (cond b (Some n) None) (cond d (Some l) None)
    by true found d is =
        let other : (n == l) ≡ false = grind (arith, nat_tests, found) in
        let same : new ≡ n = is ∙ ap (λ b. cond b (l + cond d 0 1) n) other in
        let below : nat_lt new more ≡ true = grind (arith, nat_tests, found, same, longer) in
        ap (λ b. cond b (Some new) None) below ∙ ap (λ n. Some n) same
    by false none true is =
        let end : (n == l) ≡ true = grind (arith, nat_tests, none, within) in
        let same : new ≡ l = is ∙ ap (λ b. cond b (l + 0) n) end ∙ omega arith in
        let below : nat_lt new more ≡ true = grind (arith, nat_tests, same, longer) in
        ap (λ b. cond b (Some new) None) below ∙ ap (λ n. Some n) same
    by false none false is =
        let end : (n == l) ≡ true = grind (arith, nat_tests, none, within) in
        let same : new ≡ l + 1 = is ∙ ap (λ b. cond b (l + 1) n) end in
        let past : nat_lt new more ≡ false = grind (arith, nat_tests, same, longer) in
        ap (λ b. cond b (Some new) None) past

-- the first place that passes, in a list with one more
pub position-push : {A : Type 0} (t : A → Bool) (xs : List A) (x : A) → position t (xs ++ x ∷ []) ≡ option_or (position t xs) (cond (t x) (Some (length xs)) None)
position-push t xs x =
    place-push (position_or_len t xs) (position_or_len t (xs ++ x ∷ [])) (length xs) (length (xs ++ x ∷ [])) (t x) (prefix_len-le-length (λ x. not (t x)) xs) (position_or_len_push t xs x) (length_push xs x)

-- what passes stays the first; else it is the new one, or none
stays_first : {A : Type 0} (t : A → Bool) (xs : List A) (x : A) (k : ℕ) → position t xs ≡ Some k → position t (xs ++ x ∷ []) ≡ Some k
stays_first t xs x k e = position-push t xs x ∙ ap (λ o. option_or o (cond (t x) (Some (length xs)) None)) e

stays_none : {A : Type 0} (t : A → Bool) (xs : List A) (x : A) → position t xs ≡ None → t x ≡ false → position t (xs ++ x ∷ []) ≡ None
stays_none t xs x e f = position-push t xs x ∙ ap (λ o. option_or o (cond (t x) (Some (length xs)) None)) e ∙ ap (λ b. cond b (Some (length xs)) None) f

is_first : {A : Type 0} (t : A → Bool) (xs : List A) (x : A) → position t xs ≡ None → t x ≡ true → position t (xs ++ x ∷ []) ≡ Some (length xs)
is_first t xs x e f = position-push t xs x ∙ ap (λ o. option_or o (cond (t x) (Some (length xs)) None)) e ∙ ap (λ b. cond b (Some (length xs)) None) f

-- ---- ranks

other_rank : (a b : ℕ) → nat_lt a b ≡ true → (a == b) ≡ false
other_rank a b higher = grind (arith, nat_tests, higher)

rank-trans : (a b c : ℕ) → nat_lt a b ≡ true → nat_lt b c ≡ true → nat_lt a c ≡ true
rank-trans a b c first second = grind (arith, nat_tests, first, second)

-- what is higher than b is not what is not higher
lower_rank : (a b c : ℕ) → nat_lt a b ≡ false → nat_lt a c ≡ true → (b == c) ≡ false
lower_rank a b c low high = grind (arith, nat_tests, low, high)

same_rank : (a : ℕ) → (a == a) ≡ true
same_rank a = grind (arith, nat_tests)

-- ---- one step of the pass

waits-elsewhere : (p : ℕ) (c : Class) (f : Flight) → (f.arrived && (f.to == p)) ≡ false → waits_at p c f ≡ false
waits-elsewhere p c f e = ap (λ b. b && has_class c f) e

waits-other : (p : ℕ) (c : Class) (f : Flight) → (f.arrived && (f.to == p)) ≡ true → has_class c f ≡ false → waits_at p c f ≡ false
waits-other p c f e other = ap (λ b. b && has_class c f) e ∙ other

waits-here : (p : ℕ) (f : Flight) → (f.arrived && (f.to == p)) ≡ true → waits_at p (class_of f.message.kind) f ≡ true
waits-here p f e = ap (λ b. b && has_class (class_of f.message.kind) f) e ∙ same_rank (rank (class_of f.message.kind))

-- the new one is the first of the highest class
takes_new : (p : ℕ) (flights : List Flight) (f : Flight) → (f.arrived && (f.to == p)) ≡ true → position (waits_at p (class_of f.message.kind)) flights ≡ None →
    ((c : Class) → outranks c (class_of f.message.kind) ≡ true → position (waits_at p c) flights ≡ None) → IsNext p (flights ++ f ∷ []) (Some (record { place = length flights; class = class_of f.message.kind }))
takes_new p flights f here none higher =
    let k = class_of f.message.kind in
    (is_first (waits_at p k) flights f none (waits-here p f here), λ c above. stays_none (waits_at p c) flights f (higher c above) (waits-other p c f here (other_rank (rank k) (rank c) above)))

keeps_best : (p : ℕ) (flights : List Flight) (f : Flight) (best : Arrived) → IsNext p flights (Some best) →
    ((c : Class) → outranks c best.class ≡ true → waits_at p c f ≡ false) → IsNext p (flights ++ f ∷ []) (Some best)
keeps_best p flights f best next not_above =
    (stays_first (waits_at p best.class) flights f best.place next.0, λ c above. stays_none (waits_at p c) flights f (next.1 c above) (not_above c above))

pub IsNext-push : (p : ℕ) (flights : List Flight) (f : Flight) (best : Option Arrived) → IsNext p flights best → IsNext p (flights ++ f ∷ []) (better best (arrived_at p (length flights) f))
IsNext-push p flights f best next = by (f.arrived && (f.to == p)) refl best next
  where
    k : Class
    k = class_of f.message.kind

    new : Arrived
    new = record { place = length flights; class = class_of f.message.kind }

    ranked : (best : Arrived) → (f.arrived && (f.to == p)) ≡ true → IsNext p flights (Some best) → (higher : Bool) → outranks k best.class ≡ higher → IsNext p (flights ++ f ∷ []) (cond higher (Some new) (Some best))
    ranked best here next true higher = takes_new p flights f here (next.1 k higher) (λ c above. next.1 c (rank-trans (rank best.class) (rank k) (rank c) higher above))
    ranked best here next false lower = keeps_best p flights f best next (λ c above. waits-other p c f here (lower_rank (rank best.class) (rank k) (rank c) lower above))

    by : (here : Bool) → (f.arrived && (f.to == p)) ≡ here → (best : Option Arrived) → IsNext p flights best → IsNext p (flights ++ f ∷ []) (better best (cond here (Some new) None))
    by false away None next = λ c. stays_none (waits_at p c) flights f (next c) (waits-elsewhere p c f away)
    by false away (Some best) next = keeps_best p flights f best next (λ c above. waits-elsewhere p c f away)
    by true here None next = takes_new p flights f here (next k) (λ c above. next c)
    by true here (Some best) next = ranked best here next (outranks k best.class) refl

-- one more packet of a list
pub IsNext-more : (width now p : ℕ) (packets : List Packet) (i : ℕ) (d : Packet) (best next new : Option Arrived) → i < length packets →
    next ≡ arrived_at p i (marked width now (flight_of (get_or packets i d))) → new ≡ better best next → IsNext p (flights_of width now (take i packets)) best → IsNext p (flights_of width now (take (i + 1) packets)) new
IsNext-more width now p packets i d best next new below seen chosen before =
    let mark : Packet → Flight = λ s. marked width now (flight_of s) in
    let f = mark (get_or packets i d) in
    let count : length (flights_of width now (take i packets)) ≡ i = omega (arith, length-map (take i packets) mark, length-take i packets) in
    let is : better best (arrived_at p (length (flights_of width now (take i packets))) f) ≡ new =
    ap (λ n. better best (arrived_at p n f)) count ∙ ap (better best) (sym seen) ∙ sym chosen in
    let P : List Flight → Type 0 = λ fs. IsNext p fs (better best (arrived_at p (length (flights_of width now (take i packets))) f)) in
    let Q : Option Arrived → Type 0 = λ new. IsNext p (flights_of width now (take (i + 1) packets)) new in
    subst Q is (subst P (sym (map_more mark packets i d below)) (IsNext-push p (flights_of width now (take i packets)) f best before))

-- ---- what the pass finds

pub next_for-IsNext : (p : ℕ) (flights : List Flight) (best : Option Arrived) → IsNext p flights best → next_for p flights ≡ option_map (λ (a : Arrived). a.place) best
next_for-IsNext p flights None none =
    pick_at (none Reply) (none Give) (none Order) (none Ask)
  where
    pick_at : {r g o a s h q b : Option ℕ} → r ≡ s → g ≡ h → o ≡ q → a ≡ b → option_or r (option_or g (option_or o a)) ≡ option_or s (option_or h (option_or q b))
    pick_at e f g h = λ i. option_or (e i) (option_or (f i) (option_or (g i) (h i)))
next_for-IsNext p flights (Some best) next = by best.class next.0 next.1
  where
    at : Class → Option ℕ
    at c = position (waits_at p c) flights

    by : (c : Class) → at c ≡ Some best.place → ((d : Class) → outranks d c ≡ true → at d ≡ None) → next_for p flights ≡ Some best.place
    by Reply found none = ap (λ r. option_or r (option_or (at Give) (option_or (at Order) (at Ask)))) found
    by Give found none = (λ i. option_or (none Reply refl i) (option_or (found i) (option_or (at Order) (at Ask))))
    by Order found none = (λ i. option_or (none Reply refl i) (option_or (none Give refl i) (option_or (found i) (at Ask))))
    by Ask found none = (λ i. option_or (none Reply refl i) (option_or (none Give refl i) (option_or (none Order refl i) (found i))))

some_class : (at : Class → Option ℕ) (k : ℕ) → option_or (at Reply) (option_or (at Give) (option_or (at Order) (at Ask))) ≡ Some k → (c : Class) × (at c ≡ Some k)
some_class at k e = by (at Reply) (at Give) (at Order) refl refl refl e
  where
    by : (r g o : Option ℕ) → at Reply ≡ r → at Give ≡ g → at Order ≡ o → option_or r (option_or g (option_or o (at Ask))) ≡ Some k → (c : Class) × (at c ≡ Some k)
    by (Some x) g o a b c e = (Reply, a ∙ e)
    by None (Some x) o a b c e = (Give, b ∙ e)
    by None None (Some x) a b c e = (Order, c ∙ e)
    by None None None a b c e = (Ask, e)

-- the message that is next has arrived, and is for this node
pub next_for-is : (p : ℕ) (flights : List Flight) (k : ℕ) (f : Flight) → next_for p flights ≡ Some k → slice_get flights k ≡ Some f → (f.arrived ≡ true) × (f.to ≡ p)
next_for-is p flights k f e at =
    let (c, found) = some_class (λ c. position (waits_at p c) flights) k e in
    let (within, waits, _) = position-Some (waits_at p c) flights k f found in
    let there = slice_get-get_or flights k f within in
    let same : get_or flights k f ≡ f = cc in
    let here = (and_parts (f.arrived && (f.to == p)) (has_class c f) (ap (waits_at p c) (sym same) ∙ waits)).0 in
    let (arrived, to) = and_parts f.arrived (f.to == p) here in
    (arrived, eqb-true f.to p to)
