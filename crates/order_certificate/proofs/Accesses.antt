-- The line of an access, read from the front of a text and printed.
use Rattle.std.proofs.Common.{◌≡◌, ℕ, ◌*◌, ◌^◌, ◌<◌, ◌≤◌, Bool, true, false, nat_eq, if◌then◌else◌, List, [], ◌∷◌, ◌++◌, codes, decimal, Option, Some, None, refl, sym, ap, ◌∙◌, subst, arith, append_assoc}
use Rattle.std.specs.Fmt.{digits}
use Rattle.std.proofs.Math.Nat.{mod-eq_of_lt}
use Rattle.std.proofs.lemmas.Bool.Decides.{nat_tests}
use Rattle.std.proofs.lemmas.List.{append_cancel_right}
use Rattle.rsim_base.specs.Accesses.{loads, stores}
use Rattle.rsim_base.specs.Bytes.{count_of, low_bytes, FitsIn}
use Rattle.rsim_base.specs.declared.memory.Access.{Access}
use Rattle.rsim_base.specs.declared.memory.Kind.{Kind}
use Rattle.rsim_base.specs.declared.memory.Kind.TheVariants.{Load, Store, Atomic}
use Rattle.rsim_base.specs.declared.memory.Size.{Size}
use Rattle.rsim_base.specs.declared.memory.Size.TheVariants.{B1, B2, B4, B8}
use Rattle.order_certificate.specs.Certificate.{IsInText}
use Rattle.rsim_base.specs.Limits.{max_steps}
use Rattle.order_certificate.specs.Fields.{after, digit_at, decimal_at, decimal_then, hex_then, value_then, letter_then, kind_of, size_of, access_at}
use Rattle.order_certificate.specs.Hex.{hex}
use Rattle.order_certificate.specs.OrderText.{kind_letter, value_text, value_or_dash, line}
use Rattle.order_certificate.specs.Reading.{IsAccess}
use Rattle.order_certificate.proofs.Decimals.{IsDecimal, decimal_takes, decimal_again}
use Rattle.order_certificate.proofs.Feedless.{IsFeedless, feedless_none, feedless_byte, feedless_both, feedless_decimal, feedless_hex}
use Rattle.order_certificate.proofs.HexDigits.{IsHex, hex_takes, hex_again}
use Rattle.order_certificate.proofs.LineReads.{IsWritten}
use Rattle.order_certificate.proofs.Words.{bind_some, bind_is, some_parts, after_takes, after_again, then_takes, then_again}

-- ---- decimals and the byte behind them

pub decimal_then_takes : (limit behind : ℕ) (text : List ℕ) (n : ℕ) (rest : List ℕ) → limit ≤ 2 ^ 64 → decimal_then limit behind text ≡ Some (n, rest) → IsDecimal limit n text (behind ∷ rest)
unfolding decimal_then
decimal_then_takes limit behind text n rest room e = decimal_takes limit text n (behind ∷ rest) room (then_takes behind (decimal_at limit text) n rest e)

pub decimal_then_again : (limit behind n : ℕ) (rest : List ℕ) → limit ≤ 2 ^ 64 → n < limit → digit_at (behind ∷ rest) ≡ None → decimal_then limit behind (decimal n ++ behind ∷ rest) ≡ Some (n, rest)
unfolding decimal_then
decimal_then_again limit behind n rest room small none =
    then_again behind (decimal_at limit (decimal n ++ behind ∷ rest)) n rest (decimal_again limit n (behind ∷ rest) room small none)

no_digit_in_blank : (rest : List ℕ) → digit_at (32 ∷ rest) ≡ None
unfolding digit_at
no_digit_in_blank rest = refl

-- ---- letters

record IsLetter {A : Type 0} (of : ℕ → Option A) (behind : ℕ) (text : List ℕ) (a : A) (rest : List ℕ) : Type 0 where
  letter : ℕ
  is : text ≡ letter ∷ behind ∷ rest
  means : of letter ≡ Some a

letter_takes : {A : Type 0} (of : ℕ → Option A) (behind : ℕ) (text : List ℕ) (a : A) (rest : List ℕ) → letter_then of behind text ≡ Some (a, rest) → IsLetter of behind text a rest
unfolding letter_then
letter_takes of behind [] a rest e = absurd (let no : ⊥ = cc in no)
letter_takes of behind (b ∷ text) a rest e =
    let first = bind_some (of b) _ _ e in
    let second = bind_some (after (behind ∷ []) text) _ _ first.more in
    let same = some_parts first.value second.value a rest second.more in
    let stands = after_takes (behind ∷ []) text second.value second.is in
    record { letter = b; is = ap (λ t. b ∷ t) (stands ∙ ap (λ t. behind ∷ t) same.1); means = first.is ∙ ap Some same.0 }

letter_again : {A : Type 0} (of : ℕ → Option A) (behind b : ℕ) (a : A) (rest : List ℕ) → of b ≡ Some a → letter_then of behind (b ∷ behind ∷ rest) ≡ Some (a, rest)
unfolding letter_then
letter_again of behind b a rest e = bind_is (of b) _ a e ∙ bind_is (after (behind ∷ []) (behind ∷ rest)) _ rest (after_again (behind ∷ []) rest)

kind_letter_is : (b : ℕ) (k : Kind) → kind_of b ≡ Some k → b ∷ [] ≡ kind_letter k
kind_letter_is b k e = by_tests (nat_eq b 76) (nat_eq b 83) (nat_eq b 65) refl refl refl e
  where
    by_tests : (load store atomic : Bool) → nat_eq b 76 ≡ load → nat_eq b 83 ≡ store → nat_eq b 65 ≡ atomic →
        (if load then Some Load else if store then Some Store else if atomic then Some Atomic else None) ≡ Some k → b ∷ [] ≡ kind_letter k
    by_tests true store atomic is_load is_store is_atomic e = let same : Load ≡ k = cc in let byte : b ≡ 76 = grind (arith, nat_tests) in ap (λ x. x ∷ []) byte ∙ ap kind_letter same
    by_tests false true atomic is_load is_store is_atomic e = let same : Store ≡ k = cc in let byte : b ≡ 83 = grind (arith, nat_tests) in ap (λ x. x ∷ []) byte ∙ ap kind_letter same
    by_tests false false true is_load is_store is_atomic e = let same : Atomic ≡ k = cc in let byte : b ≡ 65 = grind (arith, nat_tests) in ap (λ x. x ∷ []) byte ∙ ap kind_letter same
    by_tests false false false is_load is_store is_atomic e = absurd (let no : ⊥ = cc in no)

size_digit_is : (b : ℕ) (s : Size) → size_of b ≡ Some s → b ∷ [] ≡ decimal (count_of s)
unfolding digits
size_digit_is b s e = by_tests (nat_eq b 49) (nat_eq b 50) (nat_eq b 52) (nat_eq b 56) refl refl refl refl e
  where
    by_tests : (one two four eight : Bool) → nat_eq b 49 ≡ one → nat_eq b 50 ≡ two → nat_eq b 52 ≡ four → nat_eq b 56 ≡ eight →
        (if one then Some B1 else if two then Some B2 else if four then Some B4 else if eight then Some B8 else None) ≡ Some s → b ∷ [] ≡ decimal (count_of s)
    by_tests true two four eight is_one is_two is_four is_eight e = let same : B1 ≡ s = cc in let byte : b ≡ 49 = grind (arith, nat_tests) in ap (λ x. x ∷ []) byte ∙ ap (λ x. decimal (count_of x)) same
    by_tests false true four eight is_one is_two is_four is_eight e = let same : B2 ≡ s = cc in let byte : b ≡ 50 = grind (arith, nat_tests) in ap (λ x. x ∷ []) byte ∙ ap (λ x. decimal (count_of x)) same
    by_tests false false true eight is_one is_two is_four is_eight e = let same : B4 ≡ s = cc in let byte : b ≡ 52 = grind (arith, nat_tests) in ap (λ x. x ∷ []) byte ∙ ap (λ x. decimal (count_of x)) same
    by_tests false false false true is_one is_two is_four is_eight e = let same : B8 ≡ s = cc in let byte : b ≡ 56 = grind (arith, nat_tests) in ap (λ x. x ∷ []) byte ∙ ap (λ x. decimal (count_of x)) same
    by_tests false false false false is_one is_two is_four is_eight e = absurd (let no : ⊥ = cc in no)

kind_takes : (text : List ℕ) (k : Kind) (rest : List ℕ) → letter_then kind_of 32 text ≡ Some (k, rest) → text ≡ kind_letter k ++ 32 ∷ rest
kind_takes text k rest e =
    let taken = letter_takes kind_of 32 text k rest e in
    taken.is ∙ ap (λ t. t ++ 32 ∷ rest) (kind_letter_is taken.letter k taken.means)

kind_again : (k : Kind) (rest : List ℕ) → letter_then kind_of 32 (kind_letter k ++ 32 ∷ rest) ≡ Some (k, rest)
kind_again Load rest = letter_again kind_of 32 76 Load rest refl
kind_again Store rest = letter_again kind_of 32 83 Store rest refl
kind_again Atomic rest = letter_again kind_of 32 65 Atomic rest refl

size_takes : (text : List ℕ) (s : Size) (rest : List ℕ) → letter_then size_of 32 text ≡ Some (s, rest) → text ≡ decimal (count_of s) ++ 32 ∷ rest
size_takes text s rest e =
    let taken = letter_takes size_of 32 text s rest e in
    taken.is ∙ ap (λ t. t ++ 32 ∷ rest) (size_digit_is taken.letter s taken.means)

size_again : (s : Size) (rest : List ℕ) → letter_then size_of 32 (decimal (count_of s) ++ 32 ∷ rest) ≡ Some (s, rest)
unfolding digits
size_again B1 rest = letter_again size_of 32 49 B1 rest refl
size_again B2 rest = letter_again size_of 32 50 B2 rest refl
size_again B4 rest = letter_again size_of 32 52 B4 rest refl
size_again B8 rest = letter_again size_of 32 56 B8 rest refl

-- ---- values

record IsValue (has : Bool) (size : Size) (n behind : ℕ) (text rest : List ℕ) : Type 0 where
  is : text ≡ value_or_dash has size n ++ behind ∷ rest
  fits : FitsIn size n
  lacks : has ≡ false → n ≡ 0

-- a value that fits has no other bytes
value_is : (size : Size) (n : ℕ) → FitsIn size n → value_text size n ≡ hex (2 * count_of size) n
value_is size n fits = ap (hex (2 * count_of size)) (mod-eq_of_lt fits)

value_takes : (has : Bool) (size : Size) (behind : ℕ) (text : List ℕ) (n : ℕ) (rest : List ℕ) → value_then has size behind text ≡ Some (n, rest) → IsValue has size n behind text rest
unfolding value_then
value_takes true B1 behind text n rest e =
    let taken = hex_takes 1 behind text n rest (omega arith) e in
    record { is = taken.is ∙ ap (λ t. t ++ behind ∷ rest) (sym (value_is B1 n taken.fits)); fits = taken.fits; lacks = λ no. absurd (let never : ⊥ = cc in never) }
value_takes true B2 behind text n rest e =
    let taken = hex_takes 3 behind text n rest (omega arith) e in
    record { is = taken.is ∙ ap (λ t. t ++ behind ∷ rest) (sym (value_is B2 n taken.fits)); fits = taken.fits; lacks = λ no. absurd (let never : ⊥ = cc in never) }
value_takes true B4 behind text n rest e =
    let taken = hex_takes 7 behind text n rest (omega arith) e in
    record { is = taken.is ∙ ap (λ t. t ++ behind ∷ rest) (sym (value_is B4 n taken.fits)); fits = taken.fits; lacks = λ no. absurd (let never : ⊥ = cc in never) }
value_takes true B8 behind text n rest e =
    let taken = hex_takes 15 behind text n rest (omega arith) e in
    record { is = taken.is ∙ ap (λ t. t ++ behind ∷ rest) (sym (value_is B8 n taken.fits)); fits = taken.fits; lacks = λ no. absurd (let never : ⊥ = cc in never) }
value_takes false size behind text n rest e =
    let first = bind_some (after (codes "-" ++ behind ∷ []) text) _ _ e in
    let same = some_parts 0 first.value n rest first.more in
    record {
      is = after_takes (codes "-" ++ behind ∷ []) text first.value first.is ∙ ap (λ t. 45 ∷ behind ∷ t) same.1;
      fits = zero_fits size n same.0;
      lacks = λ no. sym same.0;
    }
  where
    zero_fits : (s : Size) (m : ℕ) → 0 ≡ m → FitsIn s m
    zero_fits B1 m none = omega arith
    zero_fits B2 m none = omega arith
    zero_fits B4 m none = omega arith
    zero_fits B8 m none = omega arith

value_again : (has : Bool) (size : Size) (behind n : ℕ) (rest : List ℕ) → FitsIn size n → (has ≡ false → n ≡ 0) → value_then has size behind (value_or_dash has size n ++ behind ∷ rest) ≡ Some (n, rest)
unfolding value_then
value_again true B1 behind n rest fits lacks = ap (λ t. hex_then 2 behind (t ++ behind ∷ rest)) (value_is B1 n fits) ∙ hex_again 1 behind n rest (omega arith) fits
value_again true B2 behind n rest fits lacks = ap (λ t. hex_then 4 behind (t ++ behind ∷ rest)) (value_is B2 n fits) ∙ hex_again 3 behind n rest (omega arith) fits
value_again true B4 behind n rest fits lacks = ap (λ t. hex_then 8 behind (t ++ behind ∷ rest)) (value_is B4 n fits) ∙ hex_again 7 behind n rest (omega arith) fits
value_again true B8 behind n rest fits lacks = ap (λ t. hex_then 16 behind (t ++ behind ∷ rest)) (value_is B8 n fits) ∙ hex_again 15 behind n rest (omega arith) fits
value_again false size behind n rest fits lacks =
    bind_is (after (codes "-" ++ behind ∷ []) (codes "-" ++ behind ∷ rest)) _ rest (after_again (codes "-" ++ behind ∷ []) rest) ∙ ap (λ m. Some (m, rest)) (sym (lacks refl))

-- ---- the line

-- the line without its line feed
pub access_body : Access → List ℕ
access_body e =
    decimal e.node.0 ++ 32 ∷ (decimal e.index ++ 32 ∷ (kind_letter e.kind ++ 32 ∷ (decimal (count_of e.size) ++ 32 ∷ (hex 16 e.addr.0 ++ 32 ∷ (value_or_dash (loads e.kind) e.size e.loaded
    ++ 32 ∷ value_or_dash (stores e.kind) e.size e.stored)))))

pub line_is : (e : Access) → line e ≡ access_body e ++ 10 ∷ []
unfolding line access_body
line_is e = simp append_assoc

-- the line of an access, with what stands behind it
body_on : (e : Access) (rest : List ℕ) → access_body e ++ 10 ∷ rest ≡
    decimal e.node.0 ++ 32 ∷ (decimal e.index ++ 32 ∷ (kind_letter e.kind ++ 32 ∷ (decimal (count_of e.size) ++ 32 ∷ (hex 16 e.addr.0 ++ 32 ∷ (value_or_dash (loads e.kind) e.size e.loaded
    ++ 32 ∷ (value_or_dash (stores e.kind) e.size e.stored ++ 10 ∷ rest))))))
unfolding access_body
body_on e rest = simp append_assoc

record Taken (text : List ℕ) (e : Access) (rest : List ℕ) : Type 0 where
  is : text ≡ access_body e ++ 10 ∷ rest
  in_text : IsInText e

-- the parts of a line, one behind the other, are the line
joined : (e : Access) (text t₁ t₂ t₃ t₄ t₅ t₆ rest : List ℕ) → IsDecimal 256 e.node.0 text (32 ∷ t₁) → IsDecimal max_steps e.index t₁ (32 ∷ t₂) → t₂ ≡ kind_letter e.kind ++ 32 ∷ t₃ → t₃ ≡ decimal (count_of e.size) ++ 32 ∷ t₄ →
    IsHex 16 e.addr.0 32 t₄ t₅ → IsValue (loads e.kind) e.size e.loaded 32 t₅ t₆ → IsValue (stores e.kind) e.size e.stored 10 t₆ rest → Taken text e rest
joined e text t₁ t₂ t₃ t₄ t₅ t₆ rest node index kind size addr loaded stored = record {
  is =
      node.is ∙ ap (λ t. decimal e.node.0 ++ 32 ∷ t) (index.is ∙ ap (λ t. decimal e.index ++ 32 ∷ t) (kind ∙ ap (λ t. kind_letter e.kind ++ 32 ∷ t) (size ∙ ap (λ t. decimal (count_of e.size) ++ 32 ∷ t)
      (addr.is ∙ ap (λ t. hex 16 e.addr.0 ++ 32 ∷ t) (loaded.is ∙ ap (λ t. value_or_dash (loads e.kind) e.size e.loaded ++ 32 ∷ t) stored.is)))))
      ∙ sym (body_on e rest);
  in_text = record {
    node = node.small;
    index = index.small;
    printable = record { addr = addr.fits; loaded = loaded.fits; stored = stored.fits };
    loaded = loaded.lacks;
    stored = stored.lacks;
  };
}

taken_as : (text : List ℕ) (made e : Access) (left rest : List ℕ) → made ≡ e → left ≡ rest → Taken text made left → Taken text e rest
taken_as text made e left rest same_access same_left taken = subst (λ x. Taken text x rest) same_access (subst (Taken text made) same_left taken)

access_takes : (text : List ℕ) (e : Access) (rest : List ℕ) → access_at text ≡ Some (e, rest) → Taken text e rest
unfolding access_at
access_takes text e rest found =
    let node = bind_some (decimal_then 256 32 text) _ _ found in
    let index = bind_some (decimal_then max_steps 32 node.value.1) _ _ node.more in
    let kind = bind_some (letter_then kind_of 32 index.value.1) _ _ index.more in
    let size = bind_some (letter_then size_of 32 kind.value.1) _ _ kind.more in
    let addr = bind_some (hex_then 16 32 size.value.1) _ _ size.more in
    let loaded = bind_some (value_then (loads kind.value.0) size.value.0 32 addr.value.1) _ _ addr.more in
    let stored = bind_some (value_then (stores kind.value.0) size.value.0 10 loaded.value.1) _ _ loaded.more in
    let made : Access = record { node = record { 0 = node.value.0 }; kind = kind.value.0; size = size.value.0; index = index.value.0; addr = record { 0 = addr.value.0 }; loaded = loaded.value.0; stored = stored.value.0 } in
    let same = some_parts made stored.value.1 e rest stored.more in
    taken_as text made e stored.value.1 rest same.0 same.1
    (joined made text node.value.1 index.value.1 kind.value.1 size.value.1 addr.value.1 loaded.value.1 stored.value.1
    (decimal_then_takes 256 32 text node.value.0 node.value.1 (omega arith) node.is)
    (decimal_then_takes max_steps 32 node.value.1 index.value.0 index.value.1 (omega arith) index.is)
    (kind_takes index.value.1 kind.value.0 kind.value.1 kind.is)
    (size_takes kind.value.1 size.value.0 size.value.1 size.is)
    (hex_takes 15 32 size.value.1 addr.value.0 addr.value.1 (omega arith) addr.is)
    (value_takes (loads kind.value.0) size.value.0 32 addr.value.1 loaded.value.0 loaded.value.1 loaded.is)
    (value_takes (stores kind.value.0) size.value.0 10 loaded.value.1 stored.value.0 stored.value.1 stored.is))

access_again : (e : Access) (rest : List ℕ) → IsInText e → access_at (access_body e ++ 10 ∷ rest) ≡ Some (e, rest)
unfolding access_at
access_again e rest ok =
    let t₆ : List ℕ = value_or_dash (stores e.kind) e.size e.stored ++ 10 ∷ rest in
    let t₅ : List ℕ = value_or_dash (loads e.kind) e.size e.loaded ++ 32 ∷ t₆ in
    let t₄ : List ℕ = hex 16 e.addr.0 ++ 32 ∷ t₅ in
    let t₃ : List ℕ = decimal (count_of e.size) ++ 32 ∷ t₄ in
    let t₂ : List ℕ = kind_letter e.kind ++ 32 ∷ t₃ in
    let t₁ : List ℕ = decimal e.index ++ 32 ∷ t₂ in
    ap access_at (body_on e rest)
    ∙ bind_is (decimal_then 256 32 (decimal e.node.0 ++ 32 ∷ t₁)) _ (e.node.0, t₁) (decimal_then_again 256 32 e.node.0 t₁ (omega arith) ok.node (no_digit_in_blank t₁))
    ∙ bind_is (decimal_then max_steps 32 t₁) _ (e.index, t₂) (decimal_then_again max_steps 32 e.index t₂ (omega arith) ok.index (no_digit_in_blank t₂))
    ∙ bind_is (letter_then kind_of 32 t₂) _ (e.kind, t₃) (kind_again e.kind t₃)
    ∙ bind_is (letter_then size_of 32 t₃) _ (e.size, t₄) (size_again e.size t₄)
    ∙ bind_is (hex_then 16 32 t₄) _ (e.addr.0, t₅) (hex_again 15 32 e.addr.0 t₅ (omega arith) ok.printable.addr)
    ∙ bind_is (value_then (loads e.kind) e.size 32 t₅) _ (e.loaded, t₆) (value_again (loads e.kind) e.size 32 e.loaded t₆ ok.printable.loaded ok.loaded)
    ∙ bind_is (value_then (stores e.kind) e.size 10 t₆) _ (e.stored, rest) (value_again (stores e.kind) e.size 10 e.stored rest ok.printable.stored ok.stored)

-- ---- no line feed stands in it

kind_free : (k : Kind) → IsFeedless (kind_letter k)
kind_free Load = feedless_byte 76 [] refl feedless_none
kind_free Store = feedless_byte 83 [] refl feedless_none
kind_free Atomic = feedless_byte 65 [] refl feedless_none

value_free : (has : Bool) (size : Size) (n : ℕ) → FitsIn size n → IsFeedless (value_or_dash has size n)
value_free true B1 n fits = feedless_hex 1 (low_bytes B1 n) (omega arith) (omega arith)
value_free true B2 n fits = feedless_hex 3 (low_bytes B2 n) (omega arith) (omega arith)
value_free true B4 n fits = feedless_hex 7 (low_bytes B4 n) (omega arith) (omega arith)
value_free true B8 n fits = feedless_hex 15 (low_bytes B8 n) (omega arith) (omega arith)
value_free false size n fits = feedless_byte 45 [] refl feedless_none

size_free : (s : Size) → IsFeedless (decimal (count_of s))
size_free B1 = feedless_decimal 1 (omega arith)
size_free B2 = feedless_decimal 2 (omega arith)
size_free B4 = feedless_decimal 4 (omega arith)
size_free B8 = feedless_decimal 8 (omega arith)

access_free : (e : Access) → IsInText e → IsFeedless (access_body e)
unfolding access_body
access_free e ok =
    let index_fits : e.index < 2 ^ 64 = omega (arith, ok.index) in
    let node_fits : e.node.0 < 2 ^ 64 = omega (arith, ok.node) in
    let stored = value_free (stores e.kind) e.size e.stored ok.printable.stored in
    let loaded = parted (value_or_dash (loads e.kind) e.size e.loaded) (value_or_dash (stores e.kind) e.size e.stored) (value_free (loads e.kind) e.size e.loaded ok.printable.loaded) stored in
    let addr = parted (hex 16 e.addr.0) _ (feedless_hex 15 e.addr.0 ok.printable.addr (omega arith)) loaded in
    let size = parted (decimal (count_of e.size)) _ (size_free e.size) addr in
    let kind = parted (kind_letter e.kind) _ (kind_free e.kind) size in
    let index = parted (decimal e.index) _ (feedless_decimal e.index index_fits) kind in
    parted (decimal e.node.0) _ (feedless_decimal e.node.0 node_fits) index
  where
    parted : (xs ys : List ℕ) → IsFeedless xs → IsFeedless ys → IsFeedless (xs ++ 32 ∷ ys)
    parted xs ys first second = feedless_both xs (32 ∷ ys) first (feedless_byte 32 ys refl second)

-- ---- a piece of a text that is a line

access_back : (piece : List ℕ) (e : Access) → IsAccess piece e → (piece ≡ access_body e) × IsInText e
access_back piece e is = (append_cancel_right piece (access_body e) (codes "\n") (is.0 ∙ line_is e), is.1)

pub access_written : IsWritten IsAccess IsInText access_body access_at
access_written = record {
  is = λ e ok. (sym (line_is e), ok);
  back = access_back;
  free = access_free;
  takes = λ text e rest found. let taken = access_takes text e rest found in (taken.is, taken.in_text);
  again = access_again;
}
