-- A table in which no two keys have one name: a change that is made only at the key of a name is a write at its place.
use Rattle.std.specs.Prelude.{position}
use Rattle.std.specs.List.{list_any, list_all}
use Rattle.std.specs.Str.{bytes_eq}
use Rattle.std.proofs.Common.{◌≡◌, ℕ, zero, suc, ◌<◌, ◌^◌, Bool, true, false, not, ◌&&◌, ltb as nat_lt, List, [], ◌∷◌, map, length, get_or, set, Some, refl, sym, ap, ◌∙◌, arith}
use Rattle.std.proofs.lemmas.Bool.{and_parts, or_parts, false_from_ne_true, ltb-true}
use Rattle.std.proofs.lemmas.List.{get_or-map}
use Rattle.std.proofs.lemmas.List.Quantifiers.{position-Some}
use Rattle.std.proofs.lemmas.List.Recursion.{or_at, and_at}
use Rattle.std.proofs.lemmas.Slice.Eq.{bytes_eq-Decides}
use Rattle.machine_config.specs.Keys.{Key, keys, processors}
use Rattle.machine_config.specs.Reading.{Row, row_of, row_of_code, values_of, word_count}
use Rattle.machine_config.specs.declared.keys.Key.{Key as CodeKey}

abbrev pub is_named : List ℕ → Key → Bool
is_named name key = bytes_eq key.name name

abbrev pub are_distinct : List Key → Bool
are_distinct [] = true
are_distinct (key ∷ rest) = not (list_any (is_named key.name) rest) && are_distinct rest

-- ---- what the checker computes over the table

pub keys-distinct : are_distinct keys ≡ true
unfolding keys
keys-distinct = refl

pub keys-named : list_any (is_named []) keys ≡ false
unfolding keys
keys-named = refl

pub length-keys : length keys ≡ 33
unfolding keys
length-keys = refl

-- ---- from the names to the rows

not_true : (b : Bool) → not b ≡ true → b ≡ false
not_true true e = cc
not_true false e = refl

-- what agrees at each key with another name agrees on keys that all have another name
map-same : {A : Type 0} (f g : Key → A) (name : List ℕ) (rows : List Key)
    → ((key : Key) → is_named name key ≡ false → g key ≡ f key) → list_any (is_named name) rows ≡ false → map g rows ≡ map f rows
map-same f g name [] same none = refl
map-same f g name (key ∷ rest) same none =
    let (head, tail) = or_parts (is_named name key) (list_any (is_named name) rest) none in
    rw (same key head, map-same f g name rest same tail) refl

-- a key with a name that none of the rest has is not the one of the rest with that name
apart : (key : Key) (rest : List Key) (k : ℕ) (d : Key) (name : List ℕ) → list_any (is_named key.name) rest ≡ false → k < length rest
    → (get_or rest k d).name ≡ name → is_named name key ≡ false
apart key rest k d name fresh below at =
    false_from_ne_true (is_named name key)
    (λ is.
    let same : (get_or rest k d).name ≡ key.name = at ∙ sym ((bytes_eq-Decides key.name name).0 is) in
    let found = or_at (list_any (is_named key.name)) (is_named key.name) refl (λ _ _. refl) rest k d below ((bytes_eq-Decides (get_or rest k d).name key.name).1 same) in
    cc (found, fresh))

-- what agrees at each key with another name is written at the place of the one with this name
pub map-set : {A : Type 0} (f g : Key → A) (name : List ℕ) (rows : List Key) (k : ℕ) (d : Key)
    → are_distinct rows ≡ true → k < length rows → (get_or rows k d).name ≡ name
    → ((key : Key) → is_named name key ≡ false → g key ≡ f key)
    → map g rows ≡ set (map f rows) k (g (get_or rows k d))
map-set f g name [] k d distinct below at same = absurd (omega arith)
map-set f g name (key ∷ rest) zero d distinct below at same =
    let (fresh, _) = and_parts (not (list_any (is_named key.name) rest)) (are_distinct rest) distinct in
    let none : list_any (is_named name) rest ≡ false = rw (← at) (not_true _ fresh) in
    ap (λ ys. g key ∷ ys) (map-same f g name rest same none)
map-set f g name (key ∷ rest) (suc k) d distinct below at same =
    let (fresh, more) = and_parts (not (list_any (is_named key.name) rest)) (are_distinct rest) distinct in
    let lower : k < length rest = omega arith in
    let other = apart key rest k d name (not_true _ fresh) lower at in
    rw (same key other) (ap (λ ys. f key ∷ ys) (map-set f g name rest k d more lower at same))

-- what agrees at each key with a name agrees on all
pub map-unnamed : {A : Type 0} (f g : Key → A) → ((key : Key) → is_named [] key ≡ false → g key ≡ f key) → map g keys ≡ map f keys
map-unnamed f g same = map-same f g [] keys same keys-named

-- ---- the rows as the code has them

pub place-below : (name : List ℕ) (k : ℕ) → position (is_named name) keys ≡ Some k → k < 33
place-below name k at =
    let (below, here, before) = position-Some (is_named name) keys k processors at in omega (arith, below, length-keys)

pub values-at : (table : List CodeKey) (k : ℕ) (d : CodeKey) → map row_of_code table ≡ map row_of keys → length table ≡ 33 → k < 33
    → values_of (get_or table k d).values ≡ (get_or keys k processors).values
values-at table k d rows long below =
    let low : k < length table = omega arith in
    let lower : k < length keys = omega (arith, length-keys) in
    let same = sym (get_or-map row_of_code table k d (row_of processors) low)
    ∙ ap (λ all. get_or all k (row_of processors)) rows
    ∙ get_or-map row_of keys k processors (row_of processors) lower in
    ap (λ (row : Row). row.values) same

has_few_words : Key → Bool
has_few_words key = nat_lt (word_count key.values) 4

keys-few_words : list_all has_few_words keys ≡ true
unfolding keys has_few_words
keys-few_words = refl

few_words-at : (k : ℕ) → k < 33 → word_count (get_or keys k processors).values < 4
unfolding has_few_words
few_words-at k below =
    let lower : k < length keys = omega (arith, length-keys) in
    ltb-true _ _ (and_at (list_all has_few_words) has_few_words refl (λ _ _. refl) keys k processors lower keys-few_words)

-- no key has more words than a number of 32 bits counts
pub word_count-at : (table : List CodeKey) (k : ℕ) (d : CodeKey) → map row_of_code table ≡ map row_of keys → length table ≡ 33 → k < 33
    → word_count (values_of (get_or table k d).values) < 2 ^ 32
word_count-at table k d rows long below =
    let few = few_words-at k below in
    let same = ap word_count (values-at table k d rows long below) in
    omega (arith, few, same)
