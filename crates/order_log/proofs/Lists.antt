-- Lists of lists, of which one is written.
use Rattle.std.proofs.Common.{◌≡◌, ℕ, ◌+◌, ◌<◌, ◌≤◌, List, [], length, take, get_or, vec_len, vec_capacity, ap, subst, sym, ◌∙◌, arith}
use Rattle.std.specs.List.{All}
use Rattle.std.proofs.Math.Seq.{map-set_same}
use Rattle.std.proofs.lemmas.List.Elements.{All-set, All-push}
use Rattle.std.proofs.Math.ListN.{set}
use Rattle.std.proofs.lemmas.List.{map-set, get_or-map, length-map, take_more_set, take_all}
use Rattle.std.specs.declared.vec.Vec.{Vec}
use Rattle.order_log.specs.declared.waiting.Entry.{Entry}
use Rattle.order_log.specs.Entries.{ListsView, AreRoomy, HaveRoom, items_of, list_of, list_number}

module _ {X Z : Type 0} where
  -- one of them is written
  pub items_of-set : (vs : List (Vec X Z)) (i : ℕ) (v : Vec X Z) → items_of (set vs i v) ≡ set (items_of vs) i v.items
  items_of-set vs i v = map-set (λ (w : Vec X Z). w.items) vs i v

  -- one of them is read
  pub items_of-read : (vs : List (Vec X Z)) (i : ℕ) (v : Vec X Z) (d : List X) → i < length vs → v ≡ get_or vs i v → v.items ≡ get_or (items_of vs) i d
  items_of-read vs i v d within is = ap (λ (w : Vec X Z). w.items) is ∙ sym (get_or-map (λ (w : Vec X Z). w.items) vs i v d within)

  -- one of them is written, and has the items that it had
  pub items_of-same : (vs : List (Vec X Z)) (i : ℕ) (was now : Vec X Z) → was ≡ get_or vs i was → now.items ≡ was.items → items_of (set vs i now) ≡ items_of vs
  items_of-same vs i was now is same = map-set_same (λ (v : Vec X Z). v.items) vs i now was (same ∙ ap (λ (v : Vec X Z). v.items) is)

  -- what has no less room keeps it
  pub HaveRoom-set : (n : ℕ) (vs : List (Vec X Z)) (i : ℕ) (was now : Vec X Z) → i < length vs → was ≡ get_or vs i was → vec_len now ≡ vec_len was → vec_capacity was ≤ vec_capacity now → HaveRoom n vs → HaveRoom n (set vs i now)
  HaveRoom-set n vs i was now within is len capacity had =
      let P : Vec X Z → Type 0 = λ v. vec_len v + n ≤ vec_capacity v in
      let before : vec_len was + n ≤ vec_capacity was = subst P (sym is) (had i was within) in
      All-set P vs i now (omega arith) had

  -- one more has room
  pub HaveRoom-more : (n : ℕ) (vs : List (Vec X Z)) (i : ℕ) (now : Vec X Z) → i < length vs → HaveRoom n (take i vs) → vec_len now + n ≤ vec_capacity now → HaveRoom n (take (i + 1) (set vs i now))
  HaveRoom-more n vs i now within had room =
      let P : Vec X Z → Type 0 = λ v. vec_len v + n ≤ vec_capacity v in
      subst (All P) (sym (take_more_set vs i now within)) (All-push P (take i vs) now had room)

  pub HaveRoom-all : (n : ℕ) (vs : List (Vec X Z)) (i : ℕ) → length vs ≤ i → HaveRoom n (take i vs) → HaveRoom n vs
  HaveRoom-all n vs i all had =
      let P : Vec X Z → Type 0 = λ v. vec_len v + n ≤ vec_capacity v in
      subst (All P) (take_all i vs all) had

  -- lists of the same items, with another room
  pub AreRoomy-same : (n m : ℕ) (was now : List (Vec X Z)) → items_of now ≡ items_of was → AreRoomy n was → HaveRoom m now → AreRoomy m now
  AreRoomy-same n m was now same roomy had =
      let items : Vec X Z → List X = λ v. v.items in
      let some : 0 < length was = roomy.some in
      record { some = omega (arith, ap length same, length-map was items, length-map now items); room = had }

-- the list of a node is written
pub list_written : {Z : Type 0} (vs : List (Vec Entry Z)) (spare : ℕ) (w : ListsView) (i node : ℕ) (was now : Vec Entry Z) (f : List Entry → List Entry)
    → record { lists = items_of vs; spare = spare } ≡ w → i ≡ list_number node w.lists → i < length w.lists → was ≡ get_or vs i was → now.items ≡ f was.items
    → items_of (set vs i now) ≡ set w.lists (list_number node w.lists) (f (list_of node w.lists))
list_written {Z} vs spare w i node was now f view number within is_was is_now =
    let lists : items_of vs ≡ w.lists = ap (λ (x : ListsView). x.lists) view in
    let there : i < length vs = omega (arith, ap length lists, length-map vs (λ (v : Vec Entry Z). v.items)) in
    items_of-set vs i now
    ∙ (ap (λ (es : List Entry). set (items_of vs) i es) (is_now ∙ ap f (items_of-read vs i was [] there is_was))
    ∙ (ap (λ (ls : List (List Entry)). set ls i (f (get_or ls i []))) lists
    ∙ ap (λ (k : ℕ). set w.lists k (f (get_or w.lists k []))) number))
