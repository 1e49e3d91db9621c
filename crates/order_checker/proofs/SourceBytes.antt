-- The byte that a load reads, by the last that it may read from, is the one that explains it.
use Rattle.std.proofs.Common.{◌≡◌, ◌^◌, ◌<◌, ◌≤◌, ◌==◌, ◌&&◌, ◌||◌, nat_lt, ℕ, true, not, List, length, slice_get, Option, None, Some, option_and_then, refl, sym, ap, inl, inr, ⊎_elim, ◌∙◌, arith}
use Rattle.std.proofs.lemmas.Bool.{and_parts, and_from, or_cases, or_left, or_right, eqb-true, eqb-false, eq-eqb, ne_eqb, ltb-true, lt-ltb, cases_lt, false≢true, false_from_ne_true, not-true, not_from_false}
use Rattle.std.proofs.lemmas.Option.{slice_get_within}
use Rattle.rsim_base.specs.Accesses.{stores}
use Rattle.rsim_base.specs.Bytes.{count_of, gap_of}
use Rattle.rsim_base.specs.ByteSets.{IsByteOf-from_gap, gap_of-IsByteOf, count_of-bounds}
use Rattle.rsim_base.specs.declared.memory.Access.{Access}
use Rattle.elf64_load.specs.Image.{ImageView, byte_at}
use Rattle.order_checker.specs.Faults.{is_earlier, may_read, byte_from, source_byte}
use Rattle.order_checker.specs.Firsts.{last}
use Rattle.order_checker.specs.Values.{MayRead, IsSource, ExplainsByte, loaded_byte, stored_byte}
use Rattle.order_checker.proofs.FirstOnes.{last_is, last_none}
use Rattle.order_checker.specs.Lasts.{IsLast, last_cases}

-- addresses have 64 bits
pub record AreInMemory (lines : List Access) : Type 0 where
  pub fits : (j : ℕ) (e : Access) → slice_get lines j ≡ Some e → e.addr.0 < 2 ^ 64

may_read_is : (lines : List Access) (at : ℕ) (load : Access) (byte k : ℕ) (o : Option Access) → AreInMemory lines → byte < 2 ^ 64 → slice_get lines k ≡ o → may_read at load byte k o ≡ true →
    (f : Access) × MayRead lines at load byte k f
may_read_is lines at load byte k None are fits found is = absurd cc
may_read_is lines at load byte k (Some f) are fits found is =
    let outer = and_parts (stores f.kind && nat_lt (gap_of f.addr.0 byte) (count_of f.size) && not (k == at)) (nat_lt k at || is_earlier load (Some f)) is in
    let inner = and_parts (stores f.kind && nat_lt (gap_of f.addr.0 byte) (count_of f.size)) (not (k == at)) outer.0 in
    let wrote = and_parts (stores f.kind) (nat_lt (gap_of f.addr.0 byte) (count_of f.size)) inner.0 in (
      f,
      record {
        stands = found;
        writes = wrote.0;
        byte_in = IsByteOf-from_gap byte f.addr.0 (count_of f.size) fits (are.fits k f found) (ltb-true _ _ wrote.1);
        another = eqb-false k at (not-true (k == at) inner.1);
        before = ⊎_elim (λ lt. inl (ltb-true k at lt)) (λ earlier. inr (own earlier)) (or_cases _ _ outer.1);
      },
    )
  where
    own : is_earlier load (Some f) ≡ true → (f.node.0 ≡ load.node.0) × (f.index < load.index)
    own earlier = let parts = and_parts (f.node.0 == load.node.0) (nat_lt f.index load.index) earlier in (eqb-true _ _ parts.0, ltb-true _ _ parts.1)

pub MayRead-is : (lines : List Access) (at : ℕ) (load : Access) (byte k : ℕ) → AreInMemory lines → byte < 2 ^ 64 → may_read at load byte k (slice_get lines k) ≡ true →
    (f : Access) × MayRead lines at load byte k f
MayRead-is lines at load byte k are fits is = may_read_is lines at load byte k (slice_get lines k) are fits refl is

-- an access is one of its node where its node has the number
pub may_read-from : (lines : List Access) (at : ℕ) (load : Access) (byte k : ℕ) (f : Access) → AreInMemory lines → MayRead lines at load byte k f → may_read at load byte k (slice_get lines k) ≡ true
may_read-from lines at load byte k f are may = ap (may_read at load byte k) may.stands ∙
    and_from _ _
    (and_from _ _
    (and_from (stores f.kind) _ may.writes (lt-ltb _ _ (gap_of-IsByteOf byte f.addr.0 (count_of f.size) (are.fits k f may.stands) (count_of-bounds f.size).1 may.byte_in)))
    (not_from_false _ (ne_eqb k at may.another)))
    (⊎_elim (λ lt. or_left _ _ (lt-ltb k at lt)) (λ own. or_right (nat_lt k at) _ (and_from _ _ (eq-eqb _ _ own.0) (lt-ltb _ _ own.1))) may.before)

-- the byte that is found last, where it is access e that wrote it
found_byte : (image : ImageView) (lines : List Access) (at : ℕ) (load : Access) (byte j : ℕ) (e : Access) → slice_get lines j ≡ Some e →
    last (λ k. may_read at load byte k (slice_get lines k)) (length lines) ≡ Some j → source_byte image lines at load byte ≡ stored_byte e byte
found_byte image lines at load byte j e stands is = ap (λ o. byte_from image byte (option_and_then (slice_get lines) o)) is ∙ ap (byte_from image byte) stands

none_found : (image : ImageView) (lines : List Access) (at : ℕ) (load : Access) (byte : ℕ) →
    last (λ k. may_read at load byte k (slice_get lines k)) (length lines) ≡ None → source_byte image lines at load byte ≡ byte_at image byte
none_found image lines at load byte is = ap (λ o. byte_from image byte (option_and_then (slice_get lines) o)) is

pub explained_from : (image : ImageView) (lines : List Access) (at : ℕ) (load : Access) (byte : ℕ) → AreInMemory lines → byte < 2 ^ 64 →
    source_byte image lines at load byte ≡ loaded_byte load byte → ExplainsByte image lines at load byte
explained_from image lines at load byte are fits same =
    ⊎_elim (λ (is, none). inr (λ j e may. false≢true (sym (none j (slice_get_within lines j e may.stands)) ∙ may_read-from lines at load byte j e are may), sym same ∙ none_found image lines at load byte is))
    (λ (j, is, at_j). inl (by_source j is at_j (MayRead-is lines at load byte j are fits at_j.passes)))
    (last_cases (λ k. may_read at load byte k (slice_get lines k)) (length lines))
  where
    none_behind : (j : ℕ) → IsLast (λ k. may_read at load byte k (slice_get lines k)) (length lines) j → (k : ℕ) (f : Access) → MayRead lines at load byte k f → k ≤ j
    none_behind j at_j k f may = ⊎_elim
        (λ lt. absurd (false≢true (sym (at_j.behind k lt (slice_get_within lines k f may.stands)) ∙ may_read-from lines at load byte k f are may)))
        (λ le. le) (cases_lt j k)

    by_source : (j : ℕ) → last (λ k. may_read at load byte k (slice_get lines k)) (length lines) ≡ Some j → IsLast (λ k. may_read at load byte k (slice_get lines k)) (length lines) j →
        (e : Access) × MayRead lines at load byte j e → (j : ℕ) × (e : Access) × IsSource lines at load byte j e × (loaded_byte load byte ≡ stored_byte e byte)
    by_source j is at_j (e, may) = (j, e, record { may = may; last = none_behind j at_j }, sym same ∙ found_byte image lines at load byte j e may.stands is)

pub explained_is : (image : ImageView) (lines : List Access) (at : ℕ) (load : Access) (byte : ℕ) → AreInMemory lines → byte < 2 ^ 64 →
    ExplainsByte image lines at load byte → source_byte image lines at load byte ≡ loaded_byte load byte
explained_is image lines at load byte are fits (inl (j, e, source, same)) =
    found_byte image lines at load byte j e source.may.stands
    (last_is (λ k. may_read at load byte k (slice_get lines k)) (length lines) j (record {
      passes = may_read-from lines at load byte j e are source.may;
      below = slice_get_within lines j e source.may.stands;
      behind = λ k above below. false_from_ne_true _ (λ yes. behind k above (MayRead-is lines at load byte k are fits yes));
    })) ∙ sym same
  where
    behind : (k : ℕ) → j < k → (f : Access) × MayRead lines at load byte k f → ⊥
    behind k above (f, may) = let low = source.last k f may in omega arith
explained_is image lines at load byte are fits (inr (none, same)) =
    none_found image lines at load byte
    (last_none (λ k. may_read at load byte k (slice_get lines k)) (length lines) (λ k below. false_from_ne_true _ (λ yes. nothing k (MayRead-is lines at load byte k are fits yes)))) ∙ sym same
  where
    nothing : (k : ℕ) → (f : Access) × MayRead lines at load byte k f → ⊥
    nothing k (f, may) = none k f may
