-- A text, cut at its line feeds.
use Rattle.std.proofs.Common.{◌≡◌, ℕ, suc, Bool, true, false, nat_eq, ◌⊎◌, inl, inr, List, [], ◌∷◌, ◌++◌, refl, sym, ap, ◌∙◌, arith}
use Rattle.std.specs.List.{list_any}
use Rattle.std.proofs.lemmas.Bool.{eqb-true}
use Rattle.std.proofs.lemmas.List.Splits.{slice_split_none, slice_split_at}
use Rattle.order_certificate.specs.Reading.{pieces, is_all}
use Rattle.order_certificate.proofs.Feedless.{IsFeedless, feedless_none, feedless_byte}

abbrev pub has_feed : List ℕ → Bool
has_feed text = list_any (λ b. nat_eq b 10) text

-- no line feed is left
pub record IsLast (text : List ℕ) : Type 0 where
  pub free : IsFeedless text
  pub none : has_feed text ≡ false

-- a line stands first
pub record IsCut (text : List ℕ) : Type 0 where
  pub piece : List ℕ
  pub rest : List ℕ
  pub is : text ≡ piece ++ 10 ∷ rest
  pub free : IsFeedless piece
  pub some : has_feed text ≡ true

pub cut : (text : List ℕ) → IsLast text ⊎ IsCut text
cut [] = inl (record { free = feedless_none; none = refl })
cut (b ∷ text) = by_byte (nat_eq b 10) refl (cut text)
  where
    by_byte : (feed : Bool) → nat_eq b 10 ≡ feed → IsLast text ⊎ IsCut text → IsLast (b ∷ text) ⊎ IsCut (b ∷ text)
    by_byte true is more =
        let byte : b ≡ 10 = eqb-true b 10 is in
        inr (record { piece = []; rest = text; is = ap (λ x. x ∷ text) byte; free = feedless_none; some = rw is refl })
    by_byte false is (inl last) = inl (record { free = feedless_byte b text is last.free; none = rw is last.none })
    by_byte false is (inr line) =
        inr (record { piece = b ∷ line.piece; rest = line.rest; is = ap (λ t. b ∷ t) line.is; free = feedless_byte b line.piece is line.free; some = rw is line.some })

pub pieces_last : (text : List ℕ) → IsFeedless text → pieces text ≡ text ∷ []
pieces_last text free = slice_split_none (λ b. nat_eq b 10) text free

pub pieces_line : (piece rest : List ℕ) → IsFeedless piece → pieces (piece ++ 10 ∷ rest) ≡ piece ∷ pieces rest
pieces_line piece rest free = slice_split_at (λ b. nat_eq b 10) piece 10 rest free refl

-- there is a piece
pub record HasPiece (ps : List (List ℕ)) : Type 0 where
  pub first : List ℕ
  pub others : List (List ℕ)
  pub is : ps ≡ first ∷ others

pub pieces_some : (text : List ℕ) → HasPiece (pieces text)
pieces_some text = by_cut (cut text)
  where
    by_cut : IsLast text ⊎ IsCut text → HasPiece (pieces text)
    by_cut (inl last) = record { first = text; others = []; is = pieces_last text last.free }
    by_cut (inr line) = record { first = line.piece; others = pieces line.rest; is = ap pieces line.is ∙ pieces_line line.piece line.rest line.free }

-- the text whose first piece is a line
pub record IsLineFirst (text piece : List ℕ) (more : List (List ℕ)) : Type 0 where
  pub rest : List ℕ
  pub is : text ≡ piece ++ 10 ∷ rest
  pub left : pieces rest ≡ more

pub pieces_cut : (text piece next : List ℕ) (more : List (List ℕ)) → pieces text ≡ piece ∷ next ∷ more → IsLineFirst text piece (next ∷ more)
pieces_cut text piece next more e = by_cut (cut text)
  where
    by_cut : IsLast text ⊎ IsCut text → IsLineFirst text piece (next ∷ more)
    by_cut (inl last) =
        let alone : piece ∷ next ∷ more ≡ text ∷ [] = sym e ∙ pieces_last text last.free in
        absurd (let no : ⊥ = cc in no)
    by_cut (inr line) =
        let both : line.piece ∷ pieces line.rest ≡ piece ∷ next ∷ more = sym (ap pieces line.is ∙ pieces_line line.piece line.rest line.free) ∙ e in
        let same : line.piece ≡ piece = cc in
        record { rest = line.rest; is = line.is ∙ ap (λ t. t ++ 10 ∷ line.rest) same; left = let left : pieces line.rest ≡ next ∷ more = cc in left }

-- nothing is left where the text is empty, and only there
pub all_read : (text : List ℕ) → is_all (pieces text) ≡ true → text ≡ []
all_read text e = by_cut (cut text)
  where
    by_cut : IsLast text ⊎ IsCut text → text ≡ []
    by_cut (inl last) = empty text (sym (ap is_all (pieces_last text last.free)) ∙ e)
      where
        empty : (t : List ℕ) → is_all (t ∷ []) ≡ true → t ≡ []
        empty [] e = refl
        empty (b ∷ t) e = absurd (let no : ⊥ = cc in no)
    by_cut (inr line) =
        let found = pieces_some line.rest in
        absurd (more line.piece found.first found.others (sym (ap is_all (ap pieces line.is ∙ pieces_line line.piece line.rest line.free ∙ ap (λ ps. line.piece ∷ ps) found.is)) ∙ e))
      where
        more : (piece next : List ℕ) (others : List (List ℕ)) → is_all (piece ∷ next ∷ others) ≡ true → ⊥
        more [] next others e = cc
        more (b ∷ piece) next others e = cc

pub not_all_read : (b : ℕ) (text : List ℕ) → is_all (pieces (b ∷ text)) ≡ false
not_all_read b text = by_test (is_all (pieces (b ∷ text))) refl
  where
    by_test : (all : Bool) → is_all (pieces (b ∷ text)) ≡ all → all ≡ false
    by_test false e = refl
    by_test true e = let empty : b ∷ text ≡ [] = all_read (b ∷ text) e in absurd (let no : ⊥ = cc in no)

-- ---- the front of a text that begins with a line

-- the front ends in that line
pub record EndsInLine (front behind : List ℕ) : Type 0 where
  pub free : IsFeedless front
  pub next : ℕ
  pub more : List ℕ
  pub some : behind ≡ next ∷ more

-- the front has that line
pub record HasLine (piece left front behind : List ℕ) : Type 0 where
  pub rest : List ℕ
  pub is : front ≡ piece ++ 10 ∷ rest
  pub same : rest ++ behind ≡ left

pub front_line : (piece left front behind : List ℕ) → IsFeedless piece → front ++ behind ≡ piece ++ 10 ∷ left → EndsInLine front behind ⊎ HasLine piece left front behind
front_line [] left [] behind free e = inl (record { free = feedless_none; next = 10; more = left; some = e })
front_line (p ∷ piece) left [] behind free e = inl (record { free = feedless_none; next = p; more = piece ++ 10 ∷ left; some = e })
front_line [] left (b ∷ front) behind free e =
    let byte : b ≡ 10 = cc in
    inr (record { rest = front; is = ap (λ x. x ∷ front) byte; same = let same : front ++ behind ≡ left = cc in same })
front_line (p ∷ piece) left (b ∷ front) behind free e =
    let byte : b ≡ p = cc in
    let other : nat_eq b 10 ≡ false = ap (λ x. nat_eq x 10) byte ∙ first_free in
    with_byte byte other (front_line piece left front behind others_free (let same : front ++ behind ≡ piece ++ 10 ∷ left = cc in same))
  where
    first_free : nat_eq p 10 ≡ false
    first_free = free 0 0 (omega arith)

    others_free : IsFeedless piece
    others_free = λ k d below. free (suc k) d (omega arith)

    with_byte : b ≡ p → nat_eq b 10 ≡ false → EndsInLine front behind ⊎ HasLine piece left front behind → EndsInLine (b ∷ front) behind ⊎ HasLine (p ∷ piece) left (b ∷ front) behind
    with_byte byte other (inl ends) = inl (record { free = feedless_byte b front other ends.free; next = ends.next; more = ends.more; some = ends.some })
    with_byte byte other (inr line) = inr (record { rest = line.rest; is = λ i. byte i ∷ line.is i; same = line.same })
