-- The words of a line.
use Rattle.std.specs.List.{position_or_len, after_first}
use Rattle.std.proofs.Common.{◌≡◌, ℕ, suc, ◌+◌, Bool, true, false, cond, List, [], ◌∷◌, drop, refl, sym, ap, ◌∙◌, arith}
use Rattle.machine_config.specs.Text.{is_blank, trimmed, trimmed_front, trimmed_end}

one_more : (n : ℕ) → 1 + n ≡ suc n
one_more n = omega arith

-- a blank in front is trimmed away
trimmed_front-cons : (b : Bool) (x : ℕ) (xs : List ℕ) → is_blank x ≡ b → trimmed_front (x ∷ xs) ≡ cond b (trimmed_front xs) (x ∷ xs)
trimmed_front-cons true x xs e = rw (e, one_more) refl
trimmed_front-cons false x xs e = rw e refl

drop-cons : (n : ℕ) (x : ℕ) (xs : List ℕ) → drop (1 + n) (x ∷ xs) ≡ drop n xs
drop-cons n x xs = rw one_more refl

drop-cons_more : (n : ℕ) (x : ℕ) (xs : List ℕ) → drop (1 + n + 1) (x ∷ xs) ≡ drop (n + 1) xs
drop-cons_more n x xs = let e : 1 + n + 1 ≡ suc (n + 1) = omega arith in rw e refl

front-after : (b : Bool) (x : ℕ) (xs : List ℕ) → is_blank x ≡ b
    → trimmed_front (drop (position_or_len is_blank xs) xs) ≡ trimmed_front (after_first is_blank xs)
    → trimmed_front (drop (position_or_len is_blank (x ∷ xs)) (x ∷ xs)) ≡ trimmed_front (after_first is_blank (x ∷ xs))
front-after true x xs e rest = rw e (trimmed_front-cons true x xs e)
front-after false x xs e rest =
    let n = position_or_len is_blank xs in
    rw e (ap trimmed_front (drop-cons n x xs) ∙ rest ∙ sym (ap trimmed_front (drop-cons_more n x xs)))

front-after_first : (xs : List ℕ) → trimmed_front (drop (position_or_len is_blank xs) xs) ≡ trimmed_front (after_first is_blank xs)
front-after_first [] = refl
front-after_first (x ∷ xs) = front-after (is_blank x) x xs refl (front-after_first xs)

-- the blank that ends the first word is trimmed away
pub trimmed-after_first : (xs : List ℕ) → trimmed (drop (position_or_len is_blank xs) xs) ≡ trimmed (after_first is_blank xs)
trimmed-after_first xs = ap trimmed_end (front-after_first xs)
