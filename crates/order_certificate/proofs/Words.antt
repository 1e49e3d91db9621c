-- Words that a text begins with, and steps that may find nothing.
use Rattle.std.proofs.Common.{◌≡◌, ℕ, ◌+◌, Bool, true, false, ◌&&◌, nat_eq, if◌then◌else◌, List, [], ◌∷◌, ◌++◌, length, take, drop, Option, Some, None, Bor, MatchOption, option_and_then, option_map, refl, sym, ap, ◌∙◌, rules}
use Rattle.std.proofs.lemmas.Bool.{eqb-true}
use Rattle.std.specs.Cmp.Lexicographic.{pointwise}
use Rattle.order_certificate.specs.Fields.{after, then_byte}

-- ---- steps

-- a step was made, where the whole gives a value
pub record Stepped {A B : Type 0} (o : Option A) (f : A → Option B) (y : B) : Type 0 where
  pub value : A
  pub is : o ≡ Some value
  pub more : f value ≡ Some y

pub bind_some : {A B : Type 0} (o : Option A) (f : A → Option B) (y : B) → option_and_then f o ≡ Some y → Stepped o f y
bind_some None f y e = absurd (let no : ⊥ = cc in no)
bind_some (Some x) f y e = record { value = x; is = refl; more = e }

pub bind_none : {A B : Type 0} (o : Option A) (f : A → Option B) → o ≡ None → option_and_then f o ≡ None
bind_none o f e = ap (option_and_then f) e

pub bind_is : {A B : Type 0} (o : Option A) (f : A → Option B) (x : A) → o ≡ Some x → option_and_then f o ≡ f x
bind_is o f x e = ap (option_and_then f) e

-- a value that passed a test
pub if_some : {A : Type 0} (test : Bool) (x y : A) → (if test then Some x else None) ≡ Some y → (test ≡ true) × (x ≡ y)
if_some true x y e = (refl, cc)
if_some false x y e = absurd (let no : ⊥ = cc in no)

-- the two parts of a value that is found
pub some_parts : {A B : Type 0} (a : A) (b : B) (x : A) (y : B) → ◌≡◌ {A = Option (A × B)} (Some (a, b)) (Some (x, y)) → (a ≡ x) × (b ≡ y)
some_parts {A} {B} a b x y e =
    let same : ◌≡◌ {A = A × B} (a, b) (x, y) = cc in
    (ap (λ p. p.0) same, ap (λ p. p.1) same)

-- ---- words

after_by_test : (word text : List ℕ) → after word text ≡ (if pointwise nat_eq (take (length word) text) word then Some (drop (length word) text) else None)
unfolding after
after_by_test [] text = refl
after_by_test (w ∷ word) [] = refl
after_by_test (w ∷ word) (b ∷ text) = by_test (nat_eq b w) (after_by_test word text)
  where
    by_test : (same : Bool) → after word text ≡ (if pointwise nat_eq (take (length word) text) word then Some (drop (length word) text) else None) →
        (if same then after word text else None) ≡ (if same && pointwise nat_eq (take (length word) text) word then Some (drop (length word) text) else None)
    by_test true more = more
    by_test false more = refl

-- what a call of `strip_prefix` tells
pub after_from_cases : (word text : List ℕ) (found : Option (Bor (List ℕ))) →
    MatchOption found (pointwise nat_eq (take (length word) text) word ≡ false) (λ x. (pointwise nat_eq (take (length word) text) word ≡ true) × (x.now ≡ drop (length word) text) × (length x.now + length word ≡ length text)) →
    option_map (λ x. x.now) found ≡ after word text
after_from_cases word text None e = sym (after_by_test word text ∙ ap (λ t. if t then Some (drop (length word) text) else None) e)
after_from_cases word text (Some x) e =
    ap Some e.1 ∙ sym (after_by_test word text ∙ ap (λ t. if t then Some (drop (length word) text) else None) e.0)

pub after_takes : (word text rest : List ℕ) → after word text ≡ Some rest → text ≡ word ++ rest
unfolding after
after_takes [] text rest e = cc
after_takes (w ∷ word) [] rest e = absurd (let no : ⊥ = cc in no)
after_takes (w ∷ word) (b ∷ text) rest e = by_test (nat_eq b w) refl (after_takes word text rest) e
  where
    by_test : (same : Bool) → nat_eq b w ≡ same → (after word text ≡ Some rest → text ≡ word ++ rest) → (if same then after word text else None) ≡ Some rest → b ∷ text ≡ w ∷ (word ++ rest)
    by_test true are more e = let first : b ≡ w = eqb-true b w are in let left = more e in cc
    by_test false are more e = absurd (let no : ⊥ = cc in no)

pub after_again : (word rest : List ℕ) → after word (word ++ rest) ≡ Some rest
unfolding after
after_again [] rest = refl
after_again (w ∷ word) rest = ap (λ same. if same then after word (word ++ rest) else None) (same_byte w) ∙ after_again word rest
  where
    same_byte : (b : ℕ) → nat_eq b b ≡ true
    same_byte b = search rules

-- ---- a field and the byte behind it

pub then_takes : {A : Type 0} (behind : ℕ) (field : Option (A × List ℕ)) (a : A) (rest : List ℕ) → then_byte behind field ≡ Some (a, rest) → field ≡ Some (a, behind ∷ rest)
then_takes behind field a rest e =
    let first = bind_some field _ _ e in
    let second = bind_some (after (behind ∷ []) first.value.1) _ _ first.more in
    let stands = after_takes (behind ∷ []) first.value.1 second.value second.is in
    let is_last : ◌≡◌ {A = _ × List ℕ} (first.value.0, second.value) (a, rest) = cc in
    let is_rest : second.value ≡ rest = ap (λ x. x.1) is_last in
    let is_value : first.value.0 ≡ a = ap (λ x. x.0) is_last in
    first.is ∙ ap Some (λ i. (is_value i, (stands ∙ ap (λ t. behind ∷ t) is_rest) i))

pub then_again : {A : Type 0} (behind : ℕ) (field : Option (A × List ℕ)) (a : A) (rest : List ℕ) → field ≡ Some (a, behind ∷ rest) → then_byte behind field ≡ Some (a, rest)
then_again behind field a rest e =
    bind_is field _ _ e ∙ bind_is (after (behind ∷ []) (behind ∷ rest)) _ _ (after_again (behind ∷ []) rest)
