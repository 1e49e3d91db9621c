-- The kinds of word, and what the lexer of `clap` makes of each.
use Rattle.std.proofs.Common.{◌≡◌, ◌∙◌, ◌⊎◌, ◌==◌, ℕ, zero, suc, Bool, true, false, refl, sym, ap, subst, arith, List, [], ◌∷◌, ◌++◌, length, drop, Option, Some, None, inl, inr, codes}
use Rattle.std.specs.Prelude.{nat_le, slice_get, encode_utf8_all}
use Rattle.std.specs.Str.{bytes_eq, chars, IsUtf8}
use Rattle.std.proofs.lemmas.Bool.{cases_Bool, false_from_ne_true, both_ways}
use Rattle.std.proofs.Math.Bool.{and-false}
use Rattle.std.proofs.lemmas.Bool.Decides.{nat_tests, Decides-eqb}
use Rattle.std.proofs.lemmas.Str.{IsUtf8-past_char, encode_ascii, encodes-chars}
use Rattle.std.proofs.lemmas.Slice.Eq.{bytes_eq-Decides, starts_is}
use Rattle.clap.specs.Lexer.{long_of, short_of, name_and_value}
use Rattle.clap.proofs.CutLemmas.{Lacks}
use Rattle.clap.proofs.LexerLemmas.{name_and_value-at, name_and_value-without}
use Rattle.command_words.specs.Words.{Text, is_dashes, is_generate, has_value, is_option}

-- `--`
pub record IsDashes (word : Text) : Type 0 where
  pub dashes : is_dashes word ≡ true
  pub option : is_option word ≡ true

-- `--generate`
pub record IsBare (word : Text) : Type 0 where
  pub dashes : is_dashes word ≡ false
  pub generate : is_generate word ≡ true
  pub value : has_value word ≡ false
  pub option : is_option word ≡ true
  pub long : long_of word ≡ Some (codes "generate", None)

-- `--generate=V`
pub record IsValued (word : Text) : Type 0 where
  pub dashes : is_dashes word ≡ false
  pub generate : is_generate word ≡ false
  pub value : has_value word ≡ true
  pub option : is_option word ≡ true
  pub long : long_of word ≡ Some (codes "generate", Some (drop 11 word))

-- `--name` or `--name=V`, by another name
pub record IsOther (word : Text) : Type 0 where
  pub dashes : is_dashes word ≡ false
  pub generate : is_generate word ≡ false
  pub value : has_value word ≡ false
  pub option : is_option word ≡ true
  pub name : Text
  pub given : Option Text
  pub long : long_of word ≡ Some (name, given)
  pub differs : bytes_eq (codes "generate") name ≡ false

-- `-abc`
pub record IsShort (word : Text) : Type 0 where
  pub dashes : is_dashes word ≡ false
  pub generate : is_generate word ≡ false
  pub value : has_value word ≡ false
  pub option : is_option word ≡ true
  pub long : long_of word ≡ None
  pub first : ℕ
  pub more : Text
  pub short : short_of word ≡ Some (first ∷ more)
  pub whole : word ≡ 45 ∷ first ∷ more

-- a name
pub record IsName (word : Text) : Type 0 where
  pub dashes : is_dashes word ≡ false
  pub generate : is_generate word ≡ false
  pub value : has_value word ≡ false
  pub option : is_option word ≡ false
  pub long : long_of word ≡ None
  pub short : short_of word ≡ None

-- each word is of one kind
pub data Kind (word : Text) : Type 0 where
  dashes : IsDashes word → Kind word
  bare : IsBare word → Kind word
  valued : IsValued word → Kind word
  other : IsOther word → Kind word
  short : IsShort word → Kind word
  name : IsName word → Kind word

flip : (x y : ℕ) (b : Bool) → (x == y) ≡ b → (y == x) ≡ b
flip x y true e = grind (arith, nat_tests)
flip x y false e = grind (arith, nat_tests)

two_or_more : (x y : ℕ) (ys : Text) → nat_le 2 (length (x ∷ y ∷ ys)) ≡ true
two_or_more x y ys = grind (arith, nat_tests)

looks_so : (y : ℕ) (ys : Text) → is_option (45 ∷ y ∷ ys) ≡ true
looks_so y ys = rw (two_or_more 45 y ys) refl

-- ---- words of one hyphen at most

no_hyphen : (x : ℕ) (xs : Text) → (x == 45) ≡ false → IsName (x ∷ xs)
no_hyphen x xs e =
    let f : (45 == x) ≡ false = flip x 45 false e in
    record {
      dashes = rw e refl;
      generate = rw e refl;
      value = rw f refl;
      option = rw e (and-false (nat_le 2 (length (x ∷ xs))));
      long = rw e refl;
      short = rw e refl;
    }

hyphen : IsName (45 ∷ [])
hyphen = record { dashes = refl; generate = refl; value = refl; option = refl; long = refl; short = refl }

one_hyphen : (y : ℕ) (ys : Text) → (y == 45) ≡ false → IsShort (45 ∷ y ∷ ys)
one_hyphen y ys e =
    let f : (45 == y) ≡ false = flip y 45 false e in
    record {
      dashes = rw e refl;
      generate = rw e refl;
      value = rw f refl;
      option = looks_so y ys;
      long = rw e refl;
      first = y;
      more = ys;
      short = rw e refl;
      whole = refl;
    }

-- ---- where the first `=` stands

pub record IsCut (text : Text) : Type 0 where
  pub name : Text
  pub value : Text
  pub whole : text ≡ name ++ 61 ∷ value
  pub lacks : Lacks 61 name

lacks_none : Lacks 61 []
lacks_none i lt = absurd (omega arith)

lacks_more : (x : ℕ) (xs : Text) → (x == 61) ≡ false → Lacks 61 xs → Lacks 61 (x ∷ xs)
lacks_more x xs e rest zero lt = grind (arith, nat_tests)
lacks_more x xs e rest (suc i) lt = rest i (omega arith)

-- there is one, or none
cut : (text : Text) → IsCut text ⊎ Lacks 61 text
cut [] = inr lacks_none
cut (x ∷ xs) = elim (cases_Bool (x == 61)) [
  | inl e ↦ inl (record { name = []; value = xs; whole = ap (λ n. n ∷ xs) ((Decides-eqb x 61).0 e); lacks = lacks_none })
  | inr e ↦ elim (cut xs) [
    | inl c ↦ inl (record { name = x ∷ c.name; value = c.value; whole = ap (λ r. x ∷ r) c.whole; lacks = lacks_more x c.name e c.lacks })
    | inr l ↦ inr (lacks_more x xs e l)
  ]
]

-- ---- words of two hyphens and more

generate_lacks : Lacks 61 (codes "generate")
generate_lacks =
    lacks_more 103 (101 ∷ 110 ∷ 101 ∷ 114 ∷ 97 ∷ 116 ∷ 101 ∷ []) refl
    (lacks_more 101 (110 ∷ 101 ∷ 114 ∷ 97 ∷ 116 ∷ 101 ∷ []) refl
    (lacks_more 110 (101 ∷ 114 ∷ 97 ∷ 116 ∷ 101 ∷ []) refl
    (lacks_more 101 (114 ∷ 97 ∷ 116 ∷ 101 ∷ []) refl
    (lacks_more 114 (97 ∷ 116 ∷ 101 ∷ []) refl
    (lacks_more 97 (116 ∷ 101 ∷ []) refl
    (lacks_more 116 (101 ∷ []) refl
    (lacks_more 101 ([]) refl lacks_none)))))))

two_hyphens : IsDashes (codes "--")
two_hyphens = record { dashes = refl; option = refl }

bare_word : IsBare (codes "--generate")
bare_word = record { dashes = refl; generate = refl; value = refl; option = refl; long = refl }

valued_word : (v : Text) → IsValued (codes "--generate=" ++ v)
valued_word v = record {
  dashes = refl;
  generate = refl;
  value = refl;
  option = looks_so 45 (codes "generate=" ++ v);
  long = ap Some (name_and_value-at (codes "generate") v generate_lacks);
}

-- two hyphens, and the rest
abbrev after : Text → Text
after rest = 45 ∷ 45 ∷ rest

-- a word whose name is the option's is one of these
named_so : (rest : Text) → rest ≡ codes "generate" → is_generate (after rest) ≡ true
named_so rest e = ap (λ r. is_generate (after r)) e

valued_so : (rest v : Text) → rest ≡ codes "generate" ++ 61 ∷ v → has_value (after rest) ≡ true
valued_so rest v e = ap (λ r. has_value (after r)) e

differs_so : (given : Text) → (given ≡ codes "generate" → ⊥) → bytes_eq (codes "generate") given ≡ false
differs_so given differs = false_from_ne_true _ (λ e. differs (sym ((bytes_eq-Decides (codes "generate") given).0 e)))

other_word : (z : ℕ) (zs : Text) → is_generate (after (z ∷ zs)) ≡ false → has_value (after (z ∷ zs)) ≡ false → IsOther (after (z ∷ zs))
other_word z zs g v = elim (cut (z ∷ zs)) [
  | inl c ↦ record {
    dashes = refl;
    generate = g;
    value = v;
    option = looks_so 45 (z ∷ zs);
    name = c.name;
    given = Some c.value;
    long = ap (λ t. Some (name_and_value t)) c.whole ∙ ap Some (name_and_value-at c.name c.value c.lacks);
    differs = differs_so c.name (λ e. both_ways _ v (valued_so (z ∷ zs) c.value (c.whole ∙ ap (λ n. n ++ 61 ∷ c.value) e)));
  }
  | inr l ↦ record {
    dashes = refl;
    generate = g;
    value = v;
    option = looks_so 45 (z ∷ zs);
    name = z ∷ zs;
    given = None;
    long = ap Some (name_and_value-without (z ∷ zs) l);
    differs = differs_so (z ∷ zs) (λ e. both_ways _ g (named_so (z ∷ zs) e));
  }
]

long_kind : (z : ℕ) (zs : Text) → Kind (after (z ∷ zs))
long_kind z zs = elim (cases_Bool (is_generate (after (z ∷ zs)))) [
  | inl g ↦ bare (subst IsBare (sym ((bytes_eq-Decides (after (z ∷ zs)) (codes "--generate")).0 g)) bare_word)
  | inr g ↦ elim (cases_Bool (has_value (after (z ∷ zs)))) [
    | inl v ↦ valued (subst IsValued (sym ((starts_is Decides-eqb (after (z ∷ zs)) (codes "--generate=") _ refl).0 v)) (valued_word (drop 11 (after (z ∷ zs)))))
    | inr v ↦ other (other_word z zs g v)
  ]
]

-- ---- each word

hyphens_kind : (ys : Text) → Kind (after ys)
hyphens_kind [] = dashes two_hyphens
hyphens_kind (z ∷ zs) = long_kind z zs

hyphen_kind : (xs : Text) → Kind (45 ∷ xs)
hyphen_kind [] = name hyphen
hyphen_kind (y ∷ ys) = elim (cases_Bool (y == 45)) [
  | inl e ↦ subst (λ n. Kind (45 ∷ n ∷ ys)) (sym ((Decides-eqb y 45).0 e)) (hyphens_kind ys)
  | inr e ↦ short (one_hyphen y ys e)
]

pub kind_of : (word : Text) → Kind word
kind_of [] = name (record { dashes = refl; generate = refl; value = refl; option = refl; long = refl; short = refl })
kind_of (x ∷ xs) = elim (cases_Bool (x == 45)) [
  | inl e ↦ subst (λ n. Kind (n ∷ xs)) (sym ((Decides-eqb x 45).0 e)) (hyphen_kind xs)
  | inr e ↦ name (no_hyphen x xs e)
]

-- a text that begins with a hyphen has a character after it, if anything
pub first_char : (x : ℕ) (more : Text) → IsUtf8 (45 ∷ x ∷ more) → (c : ℕ) × (slice_get (chars (x ∷ more)) 0 ≡ Some c)
first_char x more utf8 =
    let rest : IsUtf8 (x ∷ more) = IsUtf8-past_char (45 ∷ x ∷ more) (x ∷ more) 45 utf8 (ap (λ l. l ++ x ∷ more) (sym (encode_ascii 45 (omega arith)))) in
    first_of (chars (x ∷ more)) (encodes-chars (x ∷ more) rest)
  where
    first_of : (cs : List ℕ) → encode_utf8_all cs ≡ x ∷ more → (c : ℕ) × (slice_get cs 0 ≡ Some c)
    first_of [] e = cc
    first_of (c ∷ cs) e = (c, refl)
