-- Retired places at the front stay as they are, whatever comes about behind them.
use Rattle.std.proofs.Common.{◌≡◌, ℕ, suc, true, false, Bool, if◌then◌else◌, Some, None, ap, List, [], ◌∷◌, ◌++◌, refl, append_assoc, arith}
use Rattle.std.specs.List.{All}
use Rattle.std.proofs.lemmas.List.Elements.{All-push}
use Rattle.std.proofs.lemmas.Option.{same_Some}
use Rattle.rsim_base.specs.declared.memory.Access.{Access}
use Rattle.order_log.specs.Log.{Place, placed, after_retire, after_drop, first_final, after_pop}

abbrev pub AreRetired : List Place → Type 0
AreRetired xs = All (λ x. x.retired ≡ true) xs

-- A place that is appended comes behind any others.
abbrev pub AppendKeeps : Type 0
AppendKeeps = (a : Access) (retired : Bool) (xs ys : List Place) → (xs ++ ys) ++ placed a retired ∷ [] ≡ xs ++ (ys ++ placed a retired ∷ [])

abbrev pub RetireKeeps : Type 0
RetireKeeps = (p i : ℕ) (xs ys : List Place) → AreRetired xs → after_retire p i (xs ++ ys) ≡ xs ++ after_retire p i ys

abbrev pub DropKeeps : Type 0
DropKeeps = (p i : ℕ) (xs ys : List Place) → AreRetired xs → after_drop p i (xs ++ ys) ≡ xs ++ after_drop p i ys

-- What is taken out can be put back: it stood first, and was retired.
abbrev pub PopTakesFirst : Type 0
PopTakesFirst = (a : Access) (places : List Place) → first_final places ≡ Some a → places ≡ placed a true ∷ after_pop places

pub append_keeps : AppendKeeps
append_keeps a retired xs ys = append_assoc xs ys (placed a retired ∷ [])

pub AreRetired-first : (x : Place) (xs : List Place) → AreRetired (x ∷ xs) → x.retired ≡ true
AreRetired-first x xs all = all 0 x (omega arith)

pub AreRetired-rest : (x : Place) (xs : List Place) → AreRetired (x ∷ xs) → AreRetired xs
AreRetired-rest x xs all = λ k d within. all (suc k) d (omega arith)

-- an access that is taken out comes behind those before it
pub AreRetired-push : (a : Access) (xs : List Place) → AreRetired xs → AreRetired (xs ++ placed a true ∷ [])
AreRetired-push a xs all = All-push (λ (x : Place). x.retired ≡ true) xs (placed a true) all refl

pub retire_keeps : RetireKeeps
retire_keeps p i [] ys all = refl
retire_keeps p i (x ∷ xs) ys all =
    let first = AreRetired-first x xs all in
    rw (first, retire_keeps p i xs ys (AreRetired-rest x xs all)) refl

pub drop_keeps : DropKeeps
drop_keeps p i [] ys all = refl
drop_keeps p i (x ∷ xs) ys all =
    let first = AreRetired-first x xs all in
    rw (first, drop_keeps p i xs ys (AreRetired-rest x xs all)) refl

pub pop_takes_first : PopTakesFirst
pop_takes_first a [] taken = cc
pop_takes_first a (x ∷ places) taken = by x.access x.retired taken
  where
    by : (b : Access) (retired : Bool) → (if retired then Some b else None) ≡ Some a → placed b retired ∷ places ≡ placed a true ∷ (if retired then places else placed b retired ∷ places)
    by b true same = ap (λ (e : Access). placed e true ∷ places) (same_Some b a same)
    by b false same = cc
