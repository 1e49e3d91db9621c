-- An order with one access more explains its loads.
use Rattle.std.proofs.Common.{◌≡◌, ◌≤◌, ◌<◌, ◌^◌, ◌++◌, ℕ, true, false, nat_lt, List, [], ◌∷◌, length, Option, None, Some, option_and_then, slice_get, refl, sym, ap, ◌∙◌, inl, inr, ⊎_elim, arith}
use Rattle.std.proofs.lemmas.Bool.{and_parts, and_from, cases_lt, false≢true, ltb-true, lt-ltb}
use Rattle.std.proofs.lemmas.Option.{slice_get_within}
use Rattle.rsim_base.specs.Accesses.{loads, stores}
use Rattle.rsim_base.specs.Bytes.{count_of, gap_of, IsByteOf}
use Rattle.rsim_base.specs.ByteSets.{IsByteOf-from_gap, gap_of-IsByteOf, count_of-bounds}
use Rattle.rsim_base.specs.declared.memory.Access.{Access}
use Rattle.elf64_load.specs.Image.{ImageView}
use Rattle.order_checker.specs.Faults.{writes, byte_from}
use Rattle.order_checker.specs.Firsts.{last}
use Rattle.order_checker.specs.Values.{MayRead, IsSource, ExplainsByte, Explains, loaded_byte, stored_byte}
use Rattle.order_checker.specs.Walking.{written_byte}
use Rattle.order_checker.specs.Lasts.{IsLast, last_cases}
use Rattle.list_facts.specs.Places.{slice_get-append_left, slice_get_more}

-- addresses are below 2^64
pub record AreInMemory (order : List Access) : Type 0 where
  pub fits : (j : ℕ) (e : Access) → slice_get order j ≡ Some e → e.addr.0 < 2 ^ 64

-- the accesses of the new one's program that stand in the order are earlier in it
pub record ComesLast (order : List Access) (new : Access) : Type 0 where
  pub earlier : (j : ℕ) (e : Access) → slice_get order j ≡ Some e → e.node.0 ≡ new.node.0 → e.index < new.index

pub byte_in_memory : (byte addr n : ℕ) → IsByteOf byte addr n → byte < 2 ^ 64
byte_in_memory byte addr n (k, below, is) = omega arith

-- ---- earlier loads

may_read_before : (order : List Access) (new load e : Access) (at byte j : ℕ) → ComesLast order new → slice_get order at ≡ Some load →
    MayRead (order ++ new ∷ []) at load byte j e → MayRead order at load byte j e
may_read_before order new load e at byte j comes stands may = record {
  stands = ⊎_elim (λ old. old) (λ last. absurd (not_last last.0 last.1)) (slice_get_more order new j e may.stands);
  writes = may.writes;
  byte_in = may.byte_in;
  another = may.another;
  before = may.before;
}
  where
    not_last : j ≡ length order → e ≡ new → ⊥
    not_last place same =
        let within = slice_get_within order at load stands in
        ⊎_elim (λ before. omega arith)
        (λ own. let lower = comes.earlier at load stands (sym own.0 ∙ ap (λ (a : Access). a.node.0) same) in let is = ap (λ (a : Access). a.index) same in let low = own.1 in omega arith) may.before

may_read_after : (order : List Access) (new load e : Access) (at byte j : ℕ) → MayRead order at load byte j e → MayRead (order ++ new ∷ []) at load byte j e
may_read_after order new load e at byte j may = record {
  stands = slice_get-append_left order (new ∷ []) j e may.stands;
  writes = may.writes;
  byte_in = may.byte_in;
  another = may.another;
  before = may.before;
}

explains_before : (image : ImageView) (order : List Access) (new load : Access) (at byte : ℕ) → ComesLast order new → slice_get order at ≡ Some load →
    ExplainsByte image order at load byte → ExplainsByte image (order ++ new ∷ []) at load byte
explains_before image order new load at byte comes stands (inl (j, e, source, same)) = inl (
  j,
  e,
  record {
    may = may_read_after order new load e at byte j source.may;
    last = λ k f may. source.last k f (may_read_before order new load f at byte k comes stands may);
  },
  same,
)
explains_before image order new load at byte comes stands (inr (none, same)) = inr (λ j e may. none j e (may_read_before order new load e at byte j comes stands may), same)

-- ---- the load that comes last

found_access : (order : List Access) (byte j : ℕ) (o : Option Access) → AreInMemory order → byte < 2 ^ 64 → slice_get order j ≡ o → writes byte o ≡ true →
    (e : Access) × (slice_get order j ≡ Some e) × (stores e.kind ≡ true) × IsByteOf byte e.addr.0 (count_of e.size)
found_access order byte j None are fits at is = absurd cc
found_access order byte j (Some e) are fits at is =
    let parts = and_parts (stores e.kind) (nat_lt (gap_of e.addr.0 byte) (count_of e.size)) is in
    (e, at, parts.0, IsByteOf-from_gap byte e.addr.0 (count_of e.size) fits (are.fits j e at) (ltb-true _ _ parts.1))

does_write : (order : List Access) (byte j : ℕ) (e : Access) → AreInMemory order → slice_get order j ≡ Some e → stores e.kind ≡ true → IsByteOf byte e.addr.0 (count_of e.size) → writes byte (slice_get order j) ≡ true
does_write order byte j e are at wrote here =
    ap (writes byte) at ∙ and_from (stores e.kind) _ wrote (lt-ltb _ _ (gap_of-IsByteOf byte e.addr.0 (count_of e.size) (are.fits j e at) (count_of-bounds e.size).1 here))

explains_last : (image : ImageView) (order : List Access) (load : Access) (byte : ℕ) → AreInMemory order → IsByteOf byte load.addr.0 (count_of load.size) →
    loaded_byte load byte ≡ written_byte image order (length order) byte → ExplainsByte image (order ++ load ∷ []) (length order) load byte
explains_last image order load byte are byte_in value =
    ⊎_elim (λ (is, none). inr (λ j e may. nothing none j e may, value ∙ ap (λ o. byte_from image byte (option_and_then (slice_get order) o)) is))
    (λ (j, is, at). inl (source j is at (found_access order byte j (slice_get order j) are (byte_in_memory byte load.addr.0 (count_of load.size) byte_in) refl at.passes)))
    (last_cases (λ k. writes byte (slice_get order k)) (length order))
  where
    -- what it may read from stands before it
    stands_before : (j : ℕ) (e : Access) → MayRead (order ++ load ∷ []) (length order) load byte j e → slice_get order j ≡ Some e
    stands_before j e may = ⊎_elim (λ old. old) (λ last. absurd (may.another last.0)) (slice_get_more order load j e may.stands)

    it_writes : (j : ℕ) (e : Access) → MayRead (order ++ load ∷ []) (length order) load byte j e → writes byte (slice_get order j) ≡ true
    it_writes j e may = does_write order byte j e are (stands_before j e may) may.writes may.byte_in

    nothing : ((k : ℕ) → k < length order → writes byte (slice_get order k) ≡ false) → (j : ℕ) (e : Access) → MayRead (order ++ load ∷ []) (length order) load byte j e → ⊥
    nothing none j e may = false≢true (sym (none j (slice_get_within order j e (stands_before j e may))) ∙ it_writes j e may)

    none_behind : (j : ℕ) → IsLast (λ k. writes byte (slice_get order k)) (length order) j → (k : ℕ) (f : Access) → MayRead (order ++ load ∷ []) (length order) load byte k f → k ≤ j
    none_behind j at k f may = ⊎_elim
        (λ lt. absurd (false≢true (sym (at.behind k lt (slice_get_within order k f (stands_before k f may))) ∙ it_writes k f may)))
        (λ le. le) (cases_lt j k)

    source : (j : ℕ) → last (λ k. writes byte (slice_get order k)) (length order) ≡ Some j → IsLast (λ k. writes byte (slice_get order k)) (length order) j →
        (e : Access) × (slice_get order j ≡ Some e) × (stores e.kind ≡ true) × IsByteOf byte e.addr.0 (count_of e.size) →
        (j : ℕ) × (e : Access) × IsSource (order ++ load ∷ []) (length order) load byte j e × (loaded_byte load byte ≡ stored_byte e byte)
    source j is at (e, stands, wrote, here) = (
      j,
      e,
      record {
        may = record {
          stands = slice_get-append_left order (load ∷ []) j e stands;
          writes = wrote;
          byte_in = here;
          another = λ same. let within = at.below in omega arith;
          before = inl at.below;
        };
        last = none_behind j at;
      },
      value ∙ ap (λ o. byte_from image byte (option_and_then (slice_get order) o)) is ∙ ap (byte_from image byte) stands,
    )

-- ---- an order with one access more

pub explains_more : (image : ImageView) (order : List Access) (new : Access) → AreInMemory order → ComesLast order new → Explains image order →
    (loads new.kind ≡ true → (byte : ℕ) → IsByteOf byte new.addr.0 (count_of new.size) → loaded_byte new byte ≡ written_byte image order (length order) byte) →
    Explains image (order ++ new ∷ [])
explains_more image order new are comes explained value at load stands is_load byte byte_in =
    ⊎_elim
    (λ old. explains_before image order new load at byte comes old (explained at load old is_load byte byte_in))
    (λ last. rw (last.0, last.1) (explains_last image order new byte are (rw last.1 at byte_in) (of_new last.1 (rw last.1 at byte_in))))
    (slice_get_more order new at load stands)
  where
    of_new : load ≡ new → IsByteOf byte new.addr.0 (count_of new.size) → loaded_byte new byte ≡ written_byte image order (length order) byte
    of_new same is_in = value (ap (λ (a : Access). loads a.kind) (sym same) ∙ is_load) byte is_in
