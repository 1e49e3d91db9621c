-- The accesses of a program and their places, after one access more.
use Rattle.std.proofs.Common.{◌≡◌, ◌<◌, ◌++◌, ℕ, true, List, [], ◌∷◌, length, Some, slice_get, sym, ap, ◌∙◌, ⊎_elim, arith}
use Rattle.std.proofs.lemmas.Option.{slice_get_within}
use Rattle.rsim_base.specs.Made.{Made}
use Rattle.rsim_base.specs.declared.memory.Access.{Access}
use Rattle.rsim_base.specs.declared.memory.Model.{Model}
use Rattle.order_axioms.specs.Axioms.{needs}
use Rattle.list_facts.specs.Places.{slice_get-append_left, slice_get_last, slice_get_more}

-- the order has each access of the program once, in places that keep the model
pub record IsListed (model : Model) (order : List Access) (p : ℕ) (accesses : List Made) : Type 0 where
  pub numbered : (i : ℕ) (m : Made) → slice_get accesses i ≡ Some m → (m.access.node.0 ≡ p) × (m.access.index ≡ i)
  pub made : (j : ℕ) (e : Access) → slice_get order j ≡ Some e → e.node.0 ≡ p → (m : Made) × (slice_get accesses e.index ≡ Some m) × (m.access ≡ e)
  pub all : (i : ℕ) (m : Made) → slice_get accesses i ≡ Some m → (j : ℕ) × (slice_get order j ≡ Some m.access)
  pub once : (j k : ℕ) (e f : Access) → slice_get order j ≡ Some e → slice_get order k ≡ Some f → e.node.0 ≡ p → f.node.0 ≡ p → e.index ≡ f.index → j ≡ k
  pub ordered : (k : ℕ) (f : Access) (i : ℕ) (x y : Made) → slice_get order k ≡ Some f → f.node.0 ≡ p → i < f.index → slice_get accesses i ≡ Some x → slice_get accesses f.index ≡ Some y
      → needs model x y ≡ true → (j : ℕ) × (slice_get order j ≡ Some x.access) × (j < k)

-- what stands in the order is earlier than an access that is made now
pub IsListed-earlier : (model : Model) (order : List Access) (p : ℕ) (accesses : List Made) → IsListed model order p accesses → (j : ℕ) (e : Access) → slice_get order j ≡ Some e → e.node.0 ≡ p → e.index < length accesses
IsListed-earlier model order p accesses listed j e at own = let m = listed.made j e at own in slice_get_within accesses e.index m.0 m.1

-- an access of another program
pub IsListed-other : (model : Model) (order : List Access) (p : ℕ) (accesses : List Made) (new : Access) → (new.node.0 ≡ p → ⊥) → IsListed model order p accesses → IsListed model (order ++ new ∷ []) p accesses
IsListed-other model order p accesses new other listed = record {
  numbered = listed.numbered;
  made = λ j e at own. listed.made j e (before j e at own) own;
  all = λ i m at. let place = listed.all i m at in (place.0, slice_get-append_left order (new ∷ []) place.0 m.access place.1);
  once = λ j k e f at_j at_k own_e own_f same. listed.once j k e f (before j e at_j own_e) (before k f at_k own_f) own_e own_f same;
  ordered = λ k f i x y at own earlier at_x at_y needed.
      let place = listed.ordered k f i x y (before k f at own) own earlier at_x at_y needed in
      (place.0, slice_get-append_left order (new ∷ []) place.0 x.access place.1, place.2);
}
  where
    before : (j : ℕ) (e : Access) → slice_get (order ++ new ∷ []) j ≡ Some e → e.node.0 ≡ p → slice_get order j ≡ Some e
    before j e at own = ⊎_elim (λ old. old) (λ last. absurd (other (sym (ap (λ (a : Access). a.node.0) last.1) ∙ own))) (slice_get_more order new j e at)

-- the next access of this one
pub IsListed-more : (model : Model) (order : List Access) (p : ℕ) (accesses : List Made) (new : Made) → new.access.node.0 ≡ p → new.access.index ≡ length accesses →
    IsListed model order p accesses → IsListed model (order ++ new.access ∷ []) p (accesses ++ new ∷ [])
IsListed-more model order p accesses new own_new number listed = record {
  numbered = λ i m at. ⊎_elim (λ old. listed.numbered i m old) (λ last. rw (last.0, last.1) (own_new, number)) (slice_get_more accesses new i m at);
  made = λ j e at own. ⊎_elim (made_old j e own) (λ last. made_new e last.1) (slice_get_more order new.access j e at);
  all = λ i m at. ⊎_elim
      (λ old. let place = listed.all i m old in (place.0, slice_get-append_left order (new.access ∷ []) place.0 m.access place.1))
      (λ last. (length order, rw last.1 (slice_get_last order new.access)))
      (slice_get_more accesses new i m at);
  once = λ j k e f at_j at_k own_e own_f same. ⊎_elim
      (λ old_j. ⊎_elim (λ old_k. listed.once j k e f old_j old_k own_e own_f same) (λ last. absurd (apart j e f old_j own_e same last.1)) (slice_get_more order new.access k f at_k))
      (λ last_j. ⊎_elim (λ old_k. absurd (apart k f e old_k own_f (sym same) last_j.1)) (λ last_k. last_j.0 ∙ sym last_k.0) (slice_get_more order new.access k f at_k))
      (slice_get_more order new.access j e at_j);
  ordered = λ k f i x y at own earlier at_x at_y needed. ⊎_elim
      (λ old. ordered_old k f i x y old own earlier at_x at_y needed)
      (λ last. ordered_new k f i x last.0 last.1 earlier at_x)
      (slice_get_more order new.access k f at);
}
  where
    made_old : (j : ℕ) (e : Access) → e.node.0 ≡ p → slice_get order j ≡ Some e → (m : Made) × (slice_get (accesses ++ new ∷ []) e.index ≡ Some m) × (m.access ≡ e)
    made_old j e own at = let m = listed.made j e at own in (m.0, slice_get-append_left accesses (new ∷ []) e.index m.0 m.1, m.2)

    made_new : (e : Access) → e ≡ new.access → (m : Made) × (slice_get (accesses ++ new ∷ []) e.index ≡ Some m) × (m.access ≡ e)
    made_new e same = (new, ap (slice_get (accesses ++ new ∷ [])) (ap (λ (a : Access). a.index) same ∙ number) ∙ slice_get_last accesses new, sym same)

    apart : (j : ℕ) (e f : Access) → slice_get order j ≡ Some e → e.node.0 ≡ p → e.index ≡ f.index → f ≡ new.access → ⊥
    apart j e f at own same last =
        let low = IsListed-earlier model order p accesses listed j e at own in
        let is = ap (λ (a : Access). a.index) last in
        omega arith

    -- what stands at its number was made before
    old_access : (i n : ℕ) (x : Made) → i < n → n < length accesses → slice_get (accesses ++ new ∷ []) i ≡ Some x → slice_get accesses i ≡ Some x
    old_access i n x low within at = ⊎_elim (λ old. old) (λ last. let is = last.0 in absurd (omega arith)) (slice_get_more accesses new i x at)

    ordered_old : (k : ℕ) (f : Access) (i : ℕ) (x y : Made) → slice_get order k ≡ Some f → f.node.0 ≡ p → i < f.index → slice_get (accesses ++ new ∷ []) i ≡ Some x → slice_get (accesses ++ new ∷ []) f.index ≡ Some y →
        needs model x y ≡ true → (j : ℕ) × (slice_get (order ++ new.access ∷ []) j ≡ Some x.access) × (j < k)
    ordered_old k f i x y at own earlier at_x at_y needed =
        let low = IsListed-earlier model order p accesses listed k f at own in
        let of_y : slice_get accesses f.index ≡ Some y = ⊎_elim (λ old. old) (λ last. let is = last.0 in absurd (omega arith)) (slice_get_more accesses new f.index y at_y) in
        let place = listed.ordered k f i x y at own earlier (old_access i f.index x earlier low at_x) of_y needed in
        (place.0, slice_get-append_left order (new.access ∷ []) place.0 x.access place.1, place.2)

    ordered_new : (k : ℕ) (f : Access) (i : ℕ) (x : Made) → k ≡ length order → f ≡ new.access → i < f.index → slice_get (accesses ++ new ∷ []) i ≡ Some x →
        (j : ℕ) × (slice_get (order ++ new.access ∷ []) j ≡ Some x.access) × (j < k)
    ordered_new k f i x place same earlier at_x =
        let is = ap (λ (a : Access). a.index) same in
        let old : slice_get accesses i ≡ Some x = ⊎_elim (λ old. old) (λ last. let here = last.0 in absurd (omega arith)) (slice_get_more accesses new i x at_x) in
        let stands = listed.all i x old in
        let within = slice_get_within order stands.0 x.access stands.1 in
        (stands.0, slice_get-append_left order (new.access ∷ []) stands.0 x.access stands.1, omega arith)
