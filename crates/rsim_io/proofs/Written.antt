-- What a writer holds after writes of which the last may have failed.
use Rattle.std.proofs.Common.{◌≡◌, ℕ, ◌+◌, ◌-◌, List, ◌++◌, length, take, drop, Option, Result, Ok, Err, ◌∙◌, sym, ap, subst, append_assoc, take-append-drop}
use Rattle.std.proofs.Math.Seq.{take-append_seam, take-append-add}
use Rattle.std.proofs.lemmas.List.{take_rest}
use Rattle.std.proofs.KnownBytes.{Appends-trans, Appends-kept}
use Rattle.std.specs.Io.KnownBytes.{Appends, WriteAppends}

-- the first n bytes that are left go to those that are done
pub moves_front : (all done left : List ℕ) (n : ℕ) → all ≡ done ++ left → all ≡ (done ++ take n left) ++ take (length left - n) (drop n left)
moves_front all done left n is =
    is ∙ ap (λ l. done ++ l) (sym (take-append-drop n left)) ∙ sym (append_assoc done (take n left) (drop n left)) ∙ ap (λ l. (done ++ take n left) ++ l) (sym (take_rest left n))

-- a write after others leaves a prefix of all the bytes, whatever it answers
pub Appends-part : {E : Type 0} (a b c : Option (List ℕ)) (all done left : List ℕ) (r : Result ℕ E) → all ≡ done ++ left → Appends a b done → WriteAppends b c r left → (part : ℕ) × Appends a c (take part all)
Appends-part a b c all done left (Ok n) is grown more =
    (length done + n, subst (Appends a c) (sym (ap (take (length done + n)) is ∙ take-append-add done left n)) (Appends-trans a b c done (take n left) grown more))
Appends-part a b c all done left (Err e) is grown kept =
    (length done, subst (Appends a c) (sym (ap (take (length done)) is ∙ take-append_seam done left)) (Appends-kept a b c done grown kept))
