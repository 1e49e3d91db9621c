use Rattle.std.specs.Prelude.{◌≡◌, ◌<◌, ℕ, true, false, ◌==◌, ◌&&◌, not, nat_lt}
use Rattle.std.proofs.Common.{◌∙◌, sym, ap, refl}
use Rattle.std.proofs.lemmas.Bool.{eqb-true}
use Rattle.sparc_decode.specs.declared.instr.Op.{Op}
use Rattle.sparc_decode.specs.declared.instr.Op.TheVariants as op
use Rattle.sparc_decode.specs.Fields as field
use Rattle.sparc_decode.specs.Forms as form
use Rattle.sparc_decode.specs.Instr.{arithmetic_rows, by_row, instr}
use Rattle.sparc_decode.specs.Laws.{is_arithmetic, ShiftsByRegisters, ShiftsByCounts, NarrowShifts, OperandsInRegisters}
use Rattle.sparc_decode.proofs.Looks.{arithmetic_agree, addresses_agree, both, is_below, is_false, arithmetic_same, memory_same, SameRegisters, three_same, popc_same, write_state_same, return_same, return_on_registers_same, movcc_same, movr_same, shift_same, shift_by_count_same, narrow_shift_same, tcc_same, tcc_on_registers_same, read_state_same, register_read_same, read_state_without_i_same, prefetch_same}
use Rattle.sparc_decode.proofs.laws.unnamed_bits_are_free.Goals as goal

-- a word with i clear beside one that has the same i
still_clear : (v w : ℕ) → field.i v ≡ false → field.bits 13 13 v ≡ field.bits 13 13 w → field.i w ≡ false
still_clear v w clear same = sym (ap (λ n. n == 1) same) ∙ clear

pub returns-clause-arithmetic : goal.returns-clause-arithmetic
returns-clause-arithmetic c v w passes s =
    let parts = both (field.op v == 2 && nat_lt (field.op3 v) 0x20) (not (field.i v)) passes in
    let place = both (field.op v == 2) (nat_lt (field.op3 v) 0x20) parts.0 in
    let clear = is_false (field.i v) parts.1 in
    let low : field.op3 w < 0x20 = is_below _ _ (sym (ap (λ n. nat_lt n 0x20) s.1.1.0) ∙ place.1) in
    arithmetic_same v w (field.op3 w) (eqb-true _ _ place.0) s.0 s.1.1.0 refl (arithmetic_agree (field.op3 w) v w low (record {
      rd = s.1.0;
      rs1 = s.1.1.1.0;
      rs2 = s.1.1.1.1.1.0;
      old_i = clear;
      new_i = still_clear v w clear s.1.1.1.1.0;
    }))

pub returns-clause-addresses : goal.returns-clause-addresses
returns-clause-addresses c v w passes s =
    let parts = both (field.op v == 3 && nat_lt (field.op3 v) 0x10) (not (field.i v)) passes in
    let place = both (field.op v == 3) (nat_lt (field.op3 v) 0x10) parts.0 in
    let clear = is_false (field.i v) parts.1 in
    let low : field.op3 w < 0x10 = is_below _ _ (sym (ap (λ n. nat_lt n 0x10) s.1.1.0) ∙ place.1) in
    memory_same v w (field.op3 w) (eqb-true _ _ place.0) s.0 s.1.1.0 refl (addresses_agree (field.op3 w) v w low (record {
      rd = s.1.0;
      rs1 = s.1.1.1.0;
      rs2 = s.1.1.1.1.1.0;
      old_i = clear;
      new_i = still_clear v w clear s.1.1.1.1.0;
    }))

-- the law of a form of op 2 by its op3, from the row of that op3
at_place : (k v w : ℕ) → is_arithmetic k v ≡ true → field.op v ≡ field.op w → field.op3 v ≡ field.op3 w
    → by_row arithmetic_rows k v ≡ by_row arithmetic_rows k w → instr v ≡ instr w
at_place k v w passes codes places agree =
    let parts = both (field.op v == 2) (field.op3 v == k) passes in
    let place = eqb-true _ _ parts.1 in
    arithmetic_same v w k (eqb-true _ _ parts.0) codes place (sym places ∙ place) agree

shifted : (k : ℕ) (narrow wide : Op) → ((v w : ℕ) → form.shift narrow wide v ≡ form.shift narrow wide w → by_row arithmetic_rows k v ≡ by_row arithmetic_rows k w)
    → ShiftsByRegisters k
shifted k narrow wide row v w passes s =
    let parts = both (is_arithmetic k v) (not (field.i v)) passes in
    let clear = is_false (field.i v) parts.1 in
    at_place k v w parts.0 s.0 s.1.1.0 (row v w (shift_same narrow wide v w (record {
      rd = s.1.0;
      rs1 = s.1.1.1.0;
      rs2 = s.1.1.1.1.1.1.0;
      old_i = clear;
      new_i = still_clear v w clear s.1.1.1.1.0;
    }) s.1.1.1.1.1.0))

pub returns-clause-shifts_left : goal.returns-clause-shifts_left
returns-clause-shifts_left c = shifted 0x25 op.Sll op.Sllx (λ v w same. same)

pub returns-clause-shifts_right : goal.returns-clause-shifts_right
returns-clause-shifts_right c = shifted 0x26 op.Srl op.Srlx (λ v w same. same)

pub returns-clause-shifts_of_signed : goal.returns-clause-shifts_of_signed
returns-clause-shifts_of_signed c = shifted 0x27 op.Sra op.Srax (λ v w same. same)

counted : (k : ℕ) (narrow wide : Op) → ((v w : ℕ) → form.shift narrow wide v ≡ form.shift narrow wide w → by_row arithmetic_rows k v ≡ by_row arithmetic_rows k w)
    → ShiftsByCounts k
counted k narrow wide row v w passes s =
    at_place k v w passes s.0 s.1.1.0 (row v w (shift_by_count_same narrow wide v w s.1.0 s.1.1.1.0 s.1.1.1.1.0 s.1.1.1.1.1.0 s.1.1.1.1.1.1.0 s.1.1.1.1.1.1.1.0))

pub returns-clause-counts_left : goal.returns-clause-counts_left
returns-clause-counts_left c = counted 0x25 op.Sll op.Sllx (λ v w same. same)

pub returns-clause-counts_right : goal.returns-clause-counts_right
returns-clause-counts_right c = counted 0x26 op.Srl op.Srlx (λ v w same. same)

pub returns-clause-counts_of_signed : goal.returns-clause-counts_of_signed
returns-clause-counts_of_signed c = counted 0x27 op.Sra op.Srax (λ v w same. same)

narrowed : (k : ℕ) (narrow wide : Op) → ((v w : ℕ) → form.shift narrow wide v ≡ form.shift narrow wide w → by_row arithmetic_rows k v ≡ by_row arithmetic_rows k w)
    → NarrowShifts k
narrowed k narrow wide row v w passes s =
    let parts = both (is_arithmetic k v) (not (field.x v)) passes in
    let clear = is_false (field.x v) parts.1 in
    let still = sym (ap (λ n. n == 1) s.1.1.1.1.1.0) ∙ clear in
    at_place k v w parts.0 s.0 s.1.1.0 (row v w (narrow_shift_same narrow wide v w s.1.0 s.1.1.1.0 s.1.1.1.1.0 clear still s.1.1.1.1.1.1.0))

pub returns-clause-narrow_left : goal.returns-clause-narrow_left
returns-clause-narrow_left c = narrowed 0x25 op.Sll op.Sllx (λ v w same. same)

pub returns-clause-narrow_right : goal.returns-clause-narrow_right
returns-clause-narrow_right c = narrowed 0x26 op.Srl op.Srlx (λ v w same. same)

pub returns-clause-narrow_of_signed : goal.returns-clause-narrow_of_signed
returns-clause-narrow_of_signed c = narrowed 0x27 op.Sra op.Srax (λ v w same. same)

operands : (k : ℕ) → ((v w : ℕ) → SameRegisters v w → by_row arithmetic_rows k v ≡ by_row arithmetic_rows k w) → OperandsInRegisters k
operands k row v w passes s =
    let parts = both (is_arithmetic k v) (not (field.i v)) passes in
    let clear = is_false (field.i v) parts.1 in
    at_place k v w parts.0 s.0 s.1.1.0 (row v w (record {
      rd = s.1.0;
      rs1 = s.1.1.1.0;
      rs2 = s.1.1.1.1.1.0;
      old_i = clear;
      new_i = still_clear v w clear s.1.1.1.1.0;
    }))

pub returns-clause-divisions : goal.returns-clause-divisions
returns-clause-divisions c = operands 0x2D (three_same op.Sdivx)

pub returns-clause-counts_of_ones : goal.returns-clause-counts_of_ones
returns-clause-counts_of_ones c = operands 0x2E popc_same

pub returns-clause-state_writes : goal.returns-clause-state_writes
returns-clause-state_writes c = operands 0x30 write_state_same

pub returns-clause-jumps : goal.returns-clause-jumps
returns-clause-jumps c = operands 0x38 (three_same op.Jmpl)

pub returns-clause-saves : goal.returns-clause-saves
returns-clause-saves c = operands 0x3C (three_same op.Save)

pub returns-clause-restores : goal.returns-clause-restores
returns-clause-restores c = operands 0x3D (three_same op.Restore)

pub returns-clause-returns_in_all : goal.returns-clause-returns_in_all
returns-clause-returns_in_all c v w passes s =
    at_place 0x39 v w passes s.0 s.1.0 (return_same v w s.1.1.0 s.1.1.1.0 s.1.1.1.1.0 s.1.1.1.1.1.0)

pub returns-clause-returns_on_registers : goal.returns-clause-returns_on_registers
returns-clause-returns_on_registers c v w passes s =
    let parts = both (is_arithmetic 0x39 v) (not (field.i v)) passes in
    let clear = is_false (field.i v) parts.1 in
    at_place 0x39 v w parts.0 s.0 s.1.0 (return_on_registers_same v w s.1.1.0 clear (still_clear v w clear s.1.1.1.0) s.1.1.1.1.0)

pub returns-clause-moves_on_codes : goal.returns-clause-moves_on_codes
returns-clause-moves_on_codes c v w passes s =
    let parts = both (is_arithmetic 0x2C v) (not (field.i v)) passes in
    let clear = is_false (field.i v) parts.1 in
    at_place 0x2C v w parts.0 s.0 s.1.1.0
    (movcc_same v w s.1.0 s.1.1.1.0 s.1.1.1.1.0 clear (still_clear v w clear s.1.1.1.1.1.0) s.1.1.1.1.1.1.0 s.1.1.1.1.1.1.1.0)

pub returns-clause-moves_on_registers : goal.returns-clause-moves_on_registers
returns-clause-moves_on_registers c v w passes s =
    let parts = both (is_arithmetic 0x2F v) (not (field.i v)) passes in
    let clear = is_false (field.i v) parts.1 in
    at_place 0x2F v w parts.0 s.0 s.1.1.0 (movr_same v w (record {
      rd = s.1.0;
      rs1 = s.1.1.1.0;
      rs2 = s.1.1.1.1.1.1.0;
      old_i = clear;
      new_i = still_clear v w clear s.1.1.1.1.0;
    }) s.1.1.1.1.1.0)

pub returns-clause-traps : goal.returns-clause-traps
returns-clause-traps c v w passes s =
    at_place 0x3A v w passes s.0 s.1.1.0
    (tcc_same v w s.1.0 s.1.1.1.0 s.1.1.1.1.0 s.1.1.1.1.1.0 s.1.1.1.1.1.1.0 s.1.1.1.1.1.1.1.0)

pub returns-clause-traps_on_registers : goal.returns-clause-traps_on_registers
returns-clause-traps_on_registers c v w passes s =
    let parts = both (is_arithmetic 0x3A v) (not (field.i v)) passes in
    let clear = is_false (field.i v) parts.1 in
    at_place 0x3A v w parts.0 s.0 s.1.1.0
    (tcc_on_registers_same v w s.1.0 s.1.1.1.0 clear (still_clear v w clear s.1.1.1.1.0) s.1.1.1.1.1.0 s.1.1.1.1.1.1.0)

pub returns-clause-state : goal.returns-clause-state
returns-clause-state c v w passes s =
    at_place 0x28 v w passes s.0 s.1.1.0
    (read_state_same v w s.1.0 s.1.1.1.0 s.1.1.1.1.0 s.1.1.1.1.1.0 s.1.1.1.1.1.1.0)

pub returns-clause-state_registers : goal.returns-clause-state_registers
returns-clause-state_registers c v w passes s =
    let parts = both (is_arithmetic 0x28 v) (not (field.rs1 v == 15)) passes in
    let other = sym (ap (λ n. n == 15) s.1.1.1.0) ∙ is_false (field.rs1 v == 15) parts.1 in
    at_place 0x28 v w parts.0 s.0 s.1.1.0 (register_read_same v w s.1.0 s.1.1.1.0 other)

pub returns-clause-store_barriers : goal.returns-clause-store_barriers
returns-clause-store_barriers c v w passes s =
    let parts = both (is_arithmetic 0x28 v && field.rs1 v == 15) (not (field.i v)) passes in
    let place = both (is_arithmetic 0x28 v) (field.rs1 v == 15) parts.0 in
    let clear = is_false (field.i v) parts.1 in
    at_place 0x28 v w place.0 s.0 s.1.1.0
    (read_state_without_i_same v w s.1.0 s.1.1.1.0 clear (still_clear v w clear s.1.1.1.1.0))

pub returns-clause-window_flush : goal.returns-clause-window_flush
returns-clause-window_flush c v w passes s = at_place 0x2B v w passes s.0 s.1.0 refl

pub returns-clause-memory_flush : goal.returns-clause-memory_flush
returns-clause-memory_flush c v w passes s = at_place 0x3B v w passes s.0 s.1.0 refl

pub returns-clause-prefetches : goal.returns-clause-prefetches
returns-clause-prefetches c v w passes s =
    let parts = both (field.op v == 3) (field.op3 v == 0x2D) passes in
    let place = eqb-true _ _ parts.1 in
    memory_same v w 0x2D (eqb-true _ _ parts.0) s.0 place (sym s.1.1.0 ∙ place) (prefetch_same v w s.1.0)
