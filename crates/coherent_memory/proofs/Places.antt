-- Functions that are changed at one place, and lists without what stands at one place.
use Rattle.std.proofs.Common.{◌≡◌, ℕ, zero, suc, Bool, true, false, cond, ◌==◌, List, [], ◌∷◌, ◌++◌, take, drop, Some, All, refl, sym, ap, ◌∙◌, subst, append_assoc}
use Rattle.std.specs.List.{flat_map, remove, slice_get}
use Rattle.std.proofs.lemmas.Bool.{cond_both, eq-eqb, eqb-true, eqb-false, ne_eqb}
use Rattle.std.proofs.lemmas.List.Concat.{flat_map-append}
use Rattle.std.proofs.lemmas.List.Elements.{All-append, All-drop, All-take}
use Rattle.std.proofs.lemmas.Option.{get_or_from_slice_get, slice_get_within}
use Rattle.memory_contracts.specs.Protocol.Messages.{Message}
use Rattle.memory_contracts.specs.Updates.{with_at}
use Rattle.coherent_memory.proofs.Alike.{AreReordered, AreReordered-refl, AreReordered-comm, AreReordered-same, AreReordered-trans, more_behind}

-- ---- tests

pub eqb-refl : (x : ℕ) → (x == x) ≡ true
eqb-refl x = eq-eqb x x refl

pub eqb-sym : (x y : ℕ) (b : Bool) → (x == y) ≡ b → (y == x) ≡ b
eqb-sym x y true e = eq-eqb y x (sym (eqb-true x y e))
eqb-sym x y false e = ne_eqb y x (λ same. eqb-false x y e (sym same))

-- ---- a function

pub with_at-same : {A : Type 0} (f : ℕ → A) (x : ℕ) (y : A) → with_at f x y x ≡ y
with_at-same f x y = ap (λ b. cond b y (f x)) (eqb-refl x)

pub with_at-other : {A : Type 0} (f : ℕ → A) (x : ℕ) (y : A) (z : ℕ) → (z == x) ≡ false → with_at f x y z ≡ f z
with_at-other f x y z other = ap (λ b. cond b y (f z)) other

-- what holds at the changed place, and at all others
pub with_at-both : {A : Type 0} (P : A → Type 0) (f : ℕ → A) (x : ℕ) (y : A) (z : ℕ) → (z ≡ x → P y) → ((z == x) ≡ false → P (f z)) → P (with_at f x y z)
with_at-both P f x y z here there = cond_both (z == x) y (f z) P (λ e. here (eqb-true z x e)) there

-- ---- a list

pub split_place : {A : Type 0} (xs : List A) (i : ℕ) (x : A) → slice_get xs i ≡ Some x → xs ≡ take i xs ++ x ∷ drop (suc i) xs
split_place [] i x e = absurd cc
split_place (y ∷ xs) zero x e = let same : y ≡ x = cc in ap (λ z. z ∷ xs) same
split_place (y ∷ xs) (suc i) x e = ap (λ zs. y ∷ zs) (split_place xs i x e)

-- what holds of each element holds of the one at a place
pub All-at_place : {A : Type 0} (P : A → Type 0) (xs : List A) (i : ℕ) (x : A) → All P xs → slice_get xs i ≡ Some x → P x
All-at_place P xs i x all e = subst P (get_or_from_slice_get xs i x x e) (all i x (slice_get_within xs i x e))

-- and of all that are left without one
pub All-remove : {A : Type 0} (P : A → Type 0) (xs : List A) (i : ℕ) → All P xs → All P (remove xs i)
All-remove P xs i all = All-append P (take i xs) (drop (suc i) xs) (All-take P i xs all) (All-drop P (suc i) xs all)

-- what one element gives comes to the front
pub removed : {A : Type 0} (f : A → List Message) (xs : List A) (i : ℕ) (x : A) → slice_get xs i ≡ Some x → AreReordered (flat_map f xs) (f x ++ flat_map f (remove xs i))
removed f xs i x e =
    AreReordered-trans (AreReordered-same (ap (flat_map f) (split_place xs i x e) ∙ flat_map-append f (take i xs) (x ∷ drop (suc i) xs)))
    (AreReordered-trans (more_behind (f x ++ flat_map f (drop (suc i) xs)) (flat_map f (drop (suc i) xs)) (f x) (flat_map f (take i xs)) (AreReordered-refl _))
    (AreReordered-same (ap (λ ms. f x ++ ms) (sym (flat_map-append f (take i xs) (drop (suc i) xs))))))

-- and so does what the last one gives
pub joined_last : {A : Type 0} (f : A → List Message) (xs : List A) (x : A) → AreReordered (flat_map f (xs ++ x ∷ [])) (f x ++ flat_map f xs)
joined_last f xs x =
    AreReordered-trans (AreReordered-same (flat_map-append f xs (x ∷ [])))
    (AreReordered-trans (AreReordered-comm (flat_map f xs) (f x ++ [])) (AreReordered-same (append_assoc (f x) [] (flat_map f xs))))

-- and what several last ones give
pub joined_all : {A : Type 0} (f : A → List Message) (xs ys : List A) → AreReordered (flat_map f (xs ++ ys)) (flat_map f ys ++ flat_map f xs)
joined_all f xs ys = AreReordered-trans (AreReordered-same (flat_map-append f xs ys)) (AreReordered-comm (flat_map f xs) (flat_map f ys))
