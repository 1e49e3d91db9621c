-- Facts of every word's instruction. Their proofs call no tactic, so that they may stand here, where proofs of other
-- crates cite them.
use Rattle.std.specs.Prelude.{◌≡◌, ◌<◌, ℕ, ℤ, pos, Bool, true, false, ◌==◌, ◌||◌, ◌&&◌, ◌%◌, not, nat_le, if◌then◌else◌, List, [], ◌∷◌}
use Rattle.std.specs.List.{AllByRecursion}
use Rattle.std.proofs.Common.{refl, ◌∙◌, sym}
use Rattle.std.proofs.Math.Nat.{lt_trans}
use Rattle.std.proofs.lemmas.Bool.{ltb-true, or_from, true≢false}
use Rattle.std.proofs.lemmas.Nat.{mod_below}
use Rattle.sparc_decode.specs.declared.instr.Instr.{Instr}
use Rattle.sparc_decode.specs.declared.instr.Op.{Op}
use Rattle.sparc_decode.specs.declared.instr.Op.TheVariants as op
use Rattle.sparc_decode.specs.declared.instr.Src2.TheVariants.{Reg, Imm}
use Rattle.sparc_decode.specs.Effects.{reads_rd, writes_rd}
use Rattle.sparc_decode.specs.Fields as field
use Rattle.sparc_decode.specs.Forms as form
use Rattle.sparc_decode.specs.Instr.{Row, by_row, branch_rows, arithmetic_rows, memory_rows, branch, arithmetic, memory, instr}
use Rattle.sparc_decode.specs.Laws.{InRange, UnusedRd}
use Rattle.sparc_decode.specs.Ranges.{IsOperand, IsInRange}

-- what holds of the instruction of each word
record IsDecoded (i : Instr) : Type 0 where
  in_range : IsInRange i
  unused_rd : reads_rd i.op ≡ false → writes_rd i.op ≡ false → i.rd ≡ 0

-- ---- bounds

none32 : 0 < 32
none32 = ltb-true 0 32 refl

none16 : 0 < 16
none16 = ltb-true 0 16 refl

of32 : (n : ℕ) → n % 32 < 32
of32 n = mod_below n 32 none32

of16 : (n : ℕ) → n % 16 < 16
of16 n = mod_below n 16 none16

of8 : (n : ℕ) → n % 8 < 16
of8 n = lt_trans (mod_below n 8 (ltb-true 0 8 refl)) (ltb-true 8 16 refl)

operand : (b : Bool) (z : ℤ) (r : ℕ) → r < 32 → IsOperand (if b then Imm z else Reg r)
operand true z r h = tt
operand false z r h = h

with_rs2 : (immediate : ℕ → ℤ) (word : ℕ) → IsOperand (form.with_rs2 immediate word)
with_rs2 immediate word = operand (field.i word) (immediate word) (field.rs2 word) (of32 _)

either_mask : (b : Bool) (m n : ℕ) → m < 16 → n < 16 → (if b then m else n) < 16
either_mask true m n p q = p
either_mask false m n p q = q

ordered16 : (word : ℕ) → form.ordered word < 16
ordered16 word = either_mask (field.cmask word == 0) (field.mmask word) 15 (of16 _) (ltb-true 15 16 refl)

-- ---- forms

-- an instruction with these fields whose form does not use rd
without_rd : (i : Instr) → i.rd ≡ 0 → i.rd < 32 → i.rs1 < 32 → IsOperand i.src2 → i.cond < 16 → i.mask < 16 → IsDecoded i
without_rd i e p q r s t = record {
  in_range = record { rd = p; rs1 = q; src2 = r; cond = s; mask = t };
  unused_rd = λ reads writes. e;
}

-- the form reads or writes the register of rd
abbrev uses_rd : Op → Bool
uses_rd o = reads_rd o || writes_rd o

-- an instruction with these fields whose form uses rd
with_rd : (i : Instr) → uses_rd i.op ≡ true → i.rd < 32 → i.rs1 < 32 → IsOperand i.src2 → i.cond < 16 → i.mask < 16 → IsDecoded i
with_rd i e p q r s t = record {
  in_range = record { rd = p; rs1 = q; src2 = r; cond = s; mask = t };
  unused_rd = λ reads writes. absurd (true≢false (sym e ∙ or_from _ _ reads writes));
}

-- what holds of two instructions holds of the one that a test takes
either : (b : Bool) (x y : Instr) → IsDecoded x → IsDecoded y → IsDecoded (if b then x else y)
either true x y p q = p
either false x y p q = q

plain : (o : Op) → IsDecoded (form.plain o)
plain o = without_rd _ refl none32 none32 none32 none16 none16

ill : (number : ℕ) → IsDecoded (form.ill number)
ill number = without_rd _ refl none32 none32 none32 none16 none16

to_rd : (o : Op) (word : ℕ) → uses_rd o ≡ true → IsDecoded (form.to_rd o word)
unfolding form.to_rd
to_rd o word e = with_rd _ e (of32 _) none32 none32 none16 none16

from_two : (o : Op) (word : ℕ) → IsDecoded (form.from_two o word)
unfolding form.from_two
from_two o word = without_rd _ refl none32 (of32 _) (with_rs2 field.simm13 word) none16 none16

three : (o : Op) (word : ℕ) → uses_rd o ≡ true → IsDecoded (form.three_operands o word)
unfolding form.three_operands
three o word e = with_rd _ e (of32 _) (of32 _) (with_rs2 field.simm13 word) none16 none16

bpr : (word : ℕ) → IsDecoded (form.bpr word)
unfolding form.bpr
bpr word =
    either (field.is_set 28 word || (field.rcond word == 0 || field.rcond word == 4)) _ _ (ill 0x010)
    (without_rd _ refl none32 (of32 _) none32 (of8 _) none16)

bpcc : (word : ℕ) → IsDecoded (form.bpcc word)
unfolding form.bpcc
bpcc word =
    either (field.branch_cc word == 0 || field.branch_cc word == 2) _ _
    (without_rd _ refl none32 none32 none32 (of16 _) none16)
    (ill 0x010)

bicc : (word : ℕ) → IsDecoded (form.bicc word)
unfolding form.bicc
bicc word = without_rd _ refl none32 none32 none32 (of16 _) none16

sethi : (word : ℕ) → IsDecoded (form.sethi word)
unfolding form.sethi reads_rd writes_rd
sethi word = with_rd _ refl (of32 _) none32 none32 none16 none16

call : (word : ℕ) → IsDecoded (form.call word)
unfolding form.call
call word = without_rd _ refl none32 none32 none32 none16 none16

shift : (narrow wide : Op) (word : ℕ) → uses_rd narrow ≡ true → uses_rd wide ≡ true → IsDecoded (form.shift narrow wide word)
unfolding form.shift
shift narrow wide word e f =
    either (field.x word) _ _
    (with_rd _ f (of32 _) (of32 _) (with_rs2 (λ w. pos (field.shcnt64 w)) word) none16 none16)
    (with_rd _ e (of32 _) (of32 _) (with_rs2 (λ w. pos (field.shcnt32 w)) word) none16 none16)

barrier : (word : ℕ) → IsDecoded (form.barrier word)
unfolding form.barrier
barrier word =
    either (field.rd word == 0) _ _
    (either (field.i word) _ _
    (without_rd _ refl none32 none32 none32 none16 (ordered16 word))
    (without_rd _ refl none32 none32 none32 none16 (ltb-true 8 16 refl)))
    (ill 0x010)

read_state : (word : ℕ) → IsDecoded (form.read_state word)
unfolding form.read_state reads_rd writes_rd
read_state word =
    either (field.rs1 word == 0) _ _ (to_rd op.RdY word refl) (either (field.rs1 word == 2) _ _ (to_rd op.RdCcr word refl)
    (either (field.rs1 word == 5) _ _ (to_rd op.RdPc word refl) (either (field.rs1 word == 15) _ _ (barrier word) (ill 0x010))))

write_state : (word : ℕ) → IsDecoded (form.write_state word)
unfolding form.write_state
write_state word =
    either (field.rd word == 0) _ _ (from_two op.WrY word) (either (field.rd word == 2) _ _ (from_two op.WrCcr word) (ill 0x010))

movcc : (word : ℕ) → IsDecoded (form.movcc word)
unfolding form.movcc reads_rd writes_rd
movcc word =
    either (not (field.cc2 word)) _ _ (ill 0x020) (either (field.low_cc word == 0 || field.low_cc word == 2) _ _
    (with_rd _ refl (of32 _) none32 (with_rs2 field.simm11 word) (of16 _) none16)
    (ill 0x010))

movr : (word : ℕ) → IsDecoded (form.movr word)
unfolding form.movr reads_rd writes_rd
movr word =
    either (field.move_rcond word == 0 || field.move_rcond word == 4) _ _ (ill 0x010)
    (with_rd _ refl (of32 _) (of32 _) (with_rs2 field.simm10 word) (of8 _) none16)

popc : (word : ℕ) → IsDecoded (form.popc word)
unfolding form.popc reads_rd writes_rd
popc word =
    either (field.rs1 word == 0) _ _ (with_rd _ refl (of32 _) none32 (with_rs2 field.simm13 word) none16 none16) (ill 0x010)

tcc : (word : ℕ) → IsDecoded (form.tcc word)
unfolding form.tcc
tcc word =
    either (field.low_cc word == 0 || field.low_cc word == 2) _ _
    (without_rd _ refl none32 (of32 _) (with_rs2 field.simm13 word) (of16 _) none16)
    (ill 0x010)

prefetch : (word : ℕ) → IsDecoded (form.prefetch word)
unfolding form.prefetch
prefetch word = either (nat_le 5 (field.rd word) && nat_le (field.rd word) 15) _ _ (ill 0x010) (plain op.Prefetch)

compare_and_swap : (o : Op) (word : ℕ) → uses_rd o ≡ true → IsDecoded (form.compare_and_swap o word)
unfolding form.compare_and_swap
compare_and_swap o word e =
    either (not (field.i word) && field.imm_asi word == 0x80) _ _
    (with_rd _ e (of32 _) (of32 _) (of32 _) none16 none16)
    (ill 0x010)

-- ---- opcode maps

-- a fact for each row, one after the other
infixr 1 ◌also◌
◌also◌ : {A B : Type 0} → A → B → A × B
a also b = (a, b)

-- what the instructions of all rows are, the one that a table gives is
by_rows : (rows : List Row) (key word : ℕ) → AllByRecursion (λ (row : Row). IsDecoded (row.1 word)) rows → IsDecoded (by_row rows key word)
by_rows [] key word h = ill 0x010
by_rows (row ∷ rows) key word h = either (row.0 == key) _ _ h.0 (by_rows rows key word h.1)

branch_decoded : (word : ℕ) → IsDecoded (branch word)
unfolding branch
branch_decoded word = by_rows branch_rows (field.op2 word) word (
    ill 0x010 also bpcc word also bicc word also bpr word also sethi word also ill 0x020 also ill 0x020 also tt)

arithmetic_decoded : (word : ℕ) → IsDecoded (arithmetic word)
unfolding arithmetic reads_rd writes_rd
arithmetic_decoded word = by_rows arithmetic_rows (field.op3 word) word (
    three op.Add word refl also three op.And word refl also three op.Or word refl also three op.Xor word refl
    also three op.Sub word refl also three op.Andn word refl also three op.Orn word refl
    also three op.Xnor word refl also three op.Addc word refl also three op.Mulx word refl
    also three op.Umul word refl also three op.Smul word refl also three op.Subc word refl
    also three op.Udivx word refl also three op.AddCc word refl also three op.AndCc word refl
    also three op.OrCc word refl also three op.XorCc word refl also three op.SubCc word refl
    also three op.AndnCc word refl also three op.OrnCc word refl also three op.XnorCc word refl
    also three op.AddcCc word refl also three op.UmulCc word refl also three op.SmulCc word refl
    also three op.SubcCc word refl also shift op.Sll op.Sllx word refl refl
    also shift op.Srl op.Srlx word refl refl also shift op.Sra op.Srax word refl refl also read_state word
    also ill 0x011 also plain op.Flushw also movcc word also three op.Sdivx word refl also popc word
    also movr word also write_state word also ill 0x011 also ill 0x011 also ill 0x020 also ill 0x020
    also three op.Jmpl word refl also from_two op.Return word also tcc word also plain op.Flush
    also three op.Save word refl also three op.Restore word refl also ill 0x011 also tt)

memory_decoded : (word : ℕ) → IsDecoded (memory word)
unfolding memory reads_rd writes_rd
memory_decoded word = by_rows memory_rows (field.op3 word) word (
    three op.Lduw word refl also three op.Ldub word refl also three op.Lduh word refl
    also three op.Stw word refl also three op.Stb word refl also three op.Sth word refl
    also three op.Ldsw word refl also three op.Ldsb word refl also three op.Ldsh word refl
    also three op.Ldx word refl also three op.Ldstub word refl also three op.Stx word refl
    also three op.Swap word refl also ill 0x020 also ill 0x020 also ill 0x020 also ill 0x020 also ill 0x020
    also ill 0x020 also ill 0x020 also ill 0x020 also prefetch word also ill 0x020 also ill 0x020
    also ill 0x020 also ill 0x020 also ill 0x020 also ill 0x020 also compare_and_swap op.Casa word refl
    also compare_and_swap op.Casxa word refl also tt)

decoded : (word : ℕ) → IsDecoded (instr word)
unfolding instr
decoded word =
    by_rows ((0, branch) ∷ (1, form.call) ∷ (2, arithmetic) ∷ (3, memory) ∷ []) (field.op word) word
    (branch_decoded word also call word also arithmetic_decoded word also memory_decoded word also tt)

-- ---- facts

pub branch_in_range : (word : ℕ) → IsInRange (branch word)
branch_in_range word = (branch_decoded word).in_range

pub call_in_range : (word : ℕ) → IsInRange (form.call word)
call_in_range word = (call word).in_range

pub arithmetic_in_range : (word : ℕ) → IsInRange (arithmetic word)
arithmetic_in_range word = (arithmetic_decoded word).in_range

pub memory_in_range : (word : ℕ) → IsInRange (memory word)
memory_in_range word = (memory_decoded word).in_range

pub in_range : InRange
in_range word = (decoded word).in_range

pub unused_rd : UnusedRd
unused_rd word = (decoded word).unused_rd
