-- Memory after one line more, and the walk.
use Rattle.std.proofs.Common.{◌≡◌, ◌<◌, ◌≤◌, ◌&&◌, nat_lt, ℕ, zero, suc, Bool, true, false, if◌then◌else◌, List, [], ◌∷◌, ◌++◌, length, Some, option_and_then, slice_get, slice_index, refl, sym, ap, subst, ⊎_elim, ◌∙◌, append_assoc, arith}
use Rattle.std.specs.List.{take_while, remove}
use Rattle.std.proofs.lemmas.List.{length-append, append-nil}
use Rattle.std.proofs.lemmas.Bool.{cases_lt, cond-true, cond-false, le-leb, lt-leb}
use Rattle.rsim_base.specs.Accesses.{stores}
use Rattle.rsim_base.specs.Bytes.{byte_of, count_of, gap_of}
use Rattle.rsim_base.specs.declared.memory.Access.{Access}
use Rattle.elf64_load.specs.Image.{ImageView, byte_at}
use Rattle.image_memory.specs.Memory.{IsWritten}
use Rattle.image_memory.specs.declared.memory.Memory.{Memory}
use Rattle.order_checker.specs.Faults.{writes, byte_from}
use Rattle.order_checker.specs.Firsts.{last}
use Rattle.order_checker.specs.Standing.{passing, stands_from, IsWalked}
use Rattle.order_checker.specs.Values.{stored_byte}
use Rattle.order_checker.specs.Walking.{written_byte, HasWritten}
use Rattle.order_checker.proofs.StillStanding.{passing-same, passing_split, take_while-passing}

-- a byte after one line more
written_more : (image : ImageView) (lines : List Access) (j byte : ℕ) (e : Access) → slice_get lines j ≡ Some e →
    written_byte image lines (suc j) byte ≡ (if writes byte (Some e) then stored_byte e byte else written_byte image lines j byte)
written_more image lines j byte e at = ap (λ o. byte_from image byte (option_and_then (slice_get lines) (if writes byte o then Some j else last (λ k. writes byte (slice_get lines k)) j))) at ∙ by_test (writes byte (Some e))
  where
    by_test : (b : Bool) → byte_from image byte (option_and_then (slice_get lines) (if b then Some j else last (λ k. writes byte (slice_get lines k)) j)) ≡ (if b then stored_byte e byte else written_byte image lines j byte)
    by_test true = ap (byte_from image byte) at
    by_test false = refl

pub HasWritten-stored : (image : ImageView) (lines : List Access) (j : ℕ) (e : Access) (old new : Memory) → slice_get lines j ≡ Some e → stores e.kind ≡ true → HasWritten image lines j old →
    IsWritten image e.addr.0 e.size e.stored old new → HasWritten image lines (suc j) new
HasWritten-stored image lines j e old new at is_store had put a fits =
    put a fits
    ∙ ap (λ kept. if nat_lt (gap_of e.addr.0 a) (count_of e.size) then byte_of e.stored (count_of e.size) (gap_of e.addr.0 a) else kept) (had a fits)
    ∙ ap (λ b. if b && nat_lt (gap_of e.addr.0 a) (count_of e.size) then stored_byte e a else written_byte image lines j a) (sym is_store)
    ∙ sym (written_more image lines j a e at)

pub HasWritten-kept : (image : ImageView) (lines : List Access) (j : ℕ) (e : Access) (memory : Memory) → slice_get lines j ≡ Some e → stores e.kind ≡ false → HasWritten image lines j memory → HasWritten image lines (suc j) memory
HasWritten-kept image lines j e memory at is_store had a fits =
    had a fits
    ∙ ap (λ b. if b && nat_lt (gap_of e.addr.0 a) (count_of e.size) then stored_byte e a else written_byte image lines j a) (sym is_store)
    ∙ sym (written_more image lines j a e at)

pub written_start : (image : ImageView) (lines : List Access) (byte : ℕ) → written_byte image lines zero byte ≡ byte_at image byte
written_start image lines byte = refl

-- ---- the walk goes on over a line of its own

remove_middle : (xs : List ℕ) (x : ℕ) (ys : List ℕ) → remove (xs ++ x ∷ ys) (length xs) ≡ xs ++ ys
remove_middle [] x ys = refl
remove_middle (y ∷ xs) x ys = ap (λ zs. y ∷ zs) (remove_middle xs x ys)

-- of those that pass, all but one
passing_but : (t u : ℕ → Bool) (i n : ℕ) → t i ≡ true → u i ≡ false → i < n → ((k : ℕ) → k < n → (k ≡ i → ⊥) → t k ≡ u k) → remove (passing t n) (length (passing t i)) ≡ passing u n
passing_but t u i zero passes off below same = absurd (omega arith)
passing_but t u i (suc n) passes off below same = ⊎_elim (here (λ lt. passing_but t u i n passes off lt (λ k low ne. same k (omega arith) ne))) there (cases_lt i n)
  where
    split : i < n → (behind : List ℕ) × (passing t n ≡ passing t i ++ i ∷ behind)
    split lt = passing_split t i n passes lt

    here : (i < n → remove (passing t n) (length (passing t i)) ≡ passing u n) → i < n → remove (passing t (suc n)) (length (passing t i)) ≡ passing u (suc n)
    here before lt =
        let parts = split lt in
        let earlier : passing t i ++ parts.0 ≡ passing u n = sym (remove_middle (passing t i) i parts.0) ∙ ap (λ xs. remove xs (length (passing t i))) (sym parts.1) ∙ before lt in
        by_test (t n) refl parts.0 parts.1 earlier
      where
        not_i : n ≡ i → ⊥
        not_i e = omega arith

        by_test : (b : Bool) → t n ≡ b → (behind : List ℕ) → passing t n ≡ passing t i ++ i ∷ behind → passing t i ++ behind ≡ passing u n → remove (if b then passing t n ++ n ∷ [] else passing t n) (length (passing t i)) ≡ passing u (suc n)
        by_test true is behind parts earlier =
            ap (λ xs. remove (xs ++ n ∷ []) (length (passing t i))) parts
            ∙ ap (λ xs. remove xs (length (passing t i))) (append_assoc (passing t i) (i ∷ behind) (n ∷ []))
            ∙ remove_middle (passing t i) i (behind ++ n ∷ [])
            ∙ sym (append_assoc (passing t i) behind (n ∷ []))
            ∙ ap (λ xs. xs ++ n ∷ []) earlier
            ∙ sym (cond-true (u n) _ _ (sym (same n (omega arith) not_i) ∙ is))
        by_test false is behind parts earlier =
            ap (λ xs. remove xs (length (passing t i))) parts ∙ remove_middle (passing t i) i behind ∙ earlier ∙ sym (cond-false (u n) _ _ (sym (same n (omega arith) not_i) ∙ is))

    there : n ≤ i → remove (passing t (suc n)) (length (passing t i)) ≡ passing u (suc n)
    there ge =
        let e : i ≡ n = omega arith in
        ap (λ xs. remove xs (length (passing t i))) (cond-true (t n) (passing t n ++ n ∷ []) (passing t n) (subst (λ (m : ℕ). t m ≡ true) e passes))
        ∙ ap (λ (m : ℕ). remove (passing t n ++ n ∷ []) (length (passing t m))) e
        ∙ remove_middle (passing t n) n []
        ∙ append-nil (passing t n)
        ∙ passing-same t u n (λ k low. same k (omega arith) (λ f. apart low f e))
        ∙ sym (cond-false (u n) (passing u n ++ n ∷ []) (passing u n) (subst (λ (m : ℕ). u m ≡ false) e off))
      where
        apart : {k : ℕ} → k < n → k ≡ i → i ≡ n → ⊥
        apart low f e = omega arith

pub walked_own : (places : List ℕ) (j i next : ℕ) (left : List ℕ) → IsWalked places j next left → i < next → slice_index places i ≡ j → ((k : ℕ) → k < length places → slice_index places k ≡ j → k ≡ i) →
    IsWalked places (suc j) next (remove left (length (take_while (λ k. nat_lt k i) left)))
walked_own places j i next left walked below at alone = record {
  are_left =
      let passes : stands_from places j i ≡ true = le-leb j (slice_index places i) (omega (arith, at)) in
      let off : stands_from places (suc j) i ≡ false = lt-leb (suc j) (slice_index places i) (omega (arith, at)) in
      let front : take_while (λ k. nat_lt k i) left ≡ passing (stands_from places j) i = ap (take_while (λ k. nat_lt k i)) walked.are_left ∙ take_while-passing (stands_from places j) i next passes below in
      ap (λ xs. remove left (length xs)) front ∙ ap (λ xs. remove xs (length (passing (stands_from places j) i))) walked.are_left
      ∙ passing_but (stands_from places j) (stands_from places (suc j)) i next passes off below (λ k low ne. same k (omega (arith, walked.few)) ne);
  others = λ k past within. let low = walked.others k past within in above k past within low;
  few = walked.few;
}
  where
    above : (k : ℕ) → next ≤ k → k < length places → j ≤ slice_index places k → suc j ≤ slice_index places k
    above k past within low = ⊎_elim (λ lt. omega arith) (λ ge. absurd (clash (alone k within (omega arith)))) (cases_lt j (slice_index places k))
      where
        clash : k ≡ i → ⊥
        clash e = omega arith

    same : (k : ℕ) → k < length places → (k ≡ i → ⊥) → stands_from places j k ≡ stands_from places (suc j) k
    same k within ne = ⊎_elim
        (λ lt. le-leb j (slice_index places k) (omega arith) ∙ sym (le-leb (suc j) (slice_index places k) (omega arith)))
        (λ ge. ⊎_elim (λ lt. lt-leb j (slice_index places k) lt ∙ sym (lt-leb (suc j) (slice_index places k) (omega arith))) (λ le. absurd (ne (alone k within (omega arith)))) (cases_lt (slice_index places k) j))
        (cases_lt j (slice_index places k))

-- an access that is left is among those left
pub left_more : (places : List ℕ) (j i next : ℕ) (left : List ℕ) → IsWalked places j next left → i < next → slice_index places i ≡ j → length (take_while (λ k. nat_lt k i) left) < length left
left_more places j i next left walked below at =
    let passes : stands_from places j i ≡ true = le-leb j (slice_index places i) (omega (arith, at)) in
    let parts = passing_split (stands_from places j) i next passes below in
    let front : take_while (λ k. nat_lt k i) left ≡ passing (stands_from places j) i = ap (take_while (λ k. nat_lt k i)) walked.are_left ∙ take_while-passing (stands_from places j) i next passes below in
    let whole : length left ≡ length (passing (stands_from places j) i ++ i ∷ parts.0) = ap length (walked.are_left ∙ parts.1) in
    let sum = length-append (passing (stands_from places j) i) (i ∷ parts.0) in
    let same = ap length front in
    omega (arith, whole, sum, same)
