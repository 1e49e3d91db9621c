-- Words that agree on the fields of their form are the same instruction.
use Rattle.std.specs.Prelude.{◌≡◌, ◌<◌, ℕ, Bool, true, false, ◌==◌, ◌&&◌, not, nat_le, nat_lt, drop, List, [], ◌∷◌, if◌then◌else◌}
use Rattle.std.specs.List.{AllByRecursion}
use Rattle.std.proofs.Common.{arith, refl, ◌∙◌, ap, sym}
use Rattle.std.proofs.lemmas.Bool.{eqb-true}
use Rattle.std.proofs.lemmas.Bool.Decides.{nat_tests}
use Rattle.sparc_decode.specs.declared.instr.Instr.{Instr}
use Rattle.sparc_decode.specs.declared.instr.Op.{Op}
use Rattle.sparc_decode.specs.declared.instr.Op.TheVariants as op
use Rattle.sparc_decode.specs.Fields as field
use Rattle.sparc_decode.specs.Forms as form
use Rattle.sparc_decode.specs.Instr.{Row, by_row, branch_rows, arithmetic_rows, memory_rows, branch, arithmetic, memory, instr}
use Rattle.sparc_decode.proofs.Tables.{◌also◌, and_first, and_second}

-- the table of an op

pub instr_branch : (word : ℕ) → field.op word ≡ 0 → instr word ≡ branch word
unfolding instr
instr_branch word e = rw e refl

pub instr_arithmetic : (word : ℕ) → field.op word ≡ 2 → instr word ≡ arithmetic word
unfolding instr
instr_arithmetic word e = rw e refl

pub instr_memory : (word : ℕ) → field.op word ≡ 3 → instr word ≡ memory word
unfolding instr
instr_memory word e = rw e refl

pub branch_row : (word k : ℕ) → field.op2 word ≡ k → branch word ≡ by_row branch_rows k word
unfolding branch
branch_row word k e = ap (λ key. by_row branch_rows key word) e

pub arithmetic_row : (word k : ℕ) → field.op3 word ≡ k → arithmetic word ≡ by_row arithmetic_rows k word
unfolding arithmetic
arithmetic_row word k e = ap (λ key. by_row arithmetic_rows key word) e

pub memory_row : (word k : ℕ) → field.op3 word ≡ k → memory word ≡ by_row memory_rows k word
unfolding memory
memory_row word k e = ap (λ key. by_row memory_rows key word) e

-- two words agree in a table where they agree in the row of its key

chosen : (b : Bool) (x x' y y' : Instr) → (b ≡ true → x ≡ x') → y ≡ y' → (if b then x else y) ≡ (if b then x' else y')
chosen true x x' y y' here there = here refl
chosen false x x' y y' here there = there

pub rows_agree : (rows : List Row) (key v w : ℕ) → AllByRecursion (λ (row : Row). row.0 ≡ key → row.1 v ≡ row.1 w) rows
    → by_row rows key v ≡ by_row rows key w
rows_agree [] key v w agree = refl
rows_agree (row ∷ rows) key v w agree =
    chosen (row.0 == key) _ _ _ _ (λ t. agree.0 (eqb-true row.0 key t)) (rows_agree rows key v w agree.1)

-- the fields of a form with rd, rs1 and a register as operand 2
pub record SameRegisters (v w : ℕ) : Type 0 where
  pub rd : field.rd v ≡ field.rd w
  pub rs1 : field.rs1 v ≡ field.rs1 w
  pub rs2 : field.rs2 v ≡ field.rs2 w
  pub old_i : field.i v ≡ false
  pub new_i : field.i w ≡ false

pub three_same : (o : Op) (v w : ℕ) → SameRegisters v w → form.three_operands o v ≡ form.three_operands o w
unfolding form.three_operands
three_same o v w h = rw (h.old_i, h.new_i, h.rd, h.rs1, h.rs2) refl

-- rows from a bound on are not the row of a key below it
abbrev pub starts_at : ℕ → List Row → Bool
starts_at bound [] = true
starts_at bound (row ∷ rows) = nat_le bound row.0 && starts_at bound rows

past : (bound k key : ℕ) (x y : Instr) → nat_le bound k ≡ true → key < bound → k ≡ key → x ≡ y
past bound k key x y above low e = absurd (grind (arith, nat_tests))

late : (rows : List Row) (bound key v w : ℕ) → starts_at bound rows ≡ true → key < bound
    → AllByRecursion (λ (row : Row). row.0 ≡ key → row.1 v ≡ row.1 w) rows
late [] bound key v w starts low = tt
late (row ∷ rows) bound key v w starts low =
    (λ e. past bound row.0 key _ _ (and_first _ _ starts) low e, late rows bound key v w (and_second (nat_le bound row.0) _ starts) low)

pub arithmetic_agree : (key v w : ℕ) → key < 0x20 → SameRegisters v w → by_row arithmetic_rows key v ≡ by_row arithmetic_rows key w
arithmetic_agree key v w low h =
    let row = λ (o : Op) (k : ℕ) (e : k ≡ key). three_same o v w h in
    rows_agree arithmetic_rows key v w (
    row op.Add _ also row op.And _ also row op.Or _ also row op.Xor _ also row op.Sub _
    also row op.Andn _ also row op.Orn _ also row op.Xnor _ also row op.Addc _ also row op.Mulx _
    also row op.Umul _ also row op.Smul _ also row op.Subc _ also row op.Udivx _
    also row op.AddCc _ also row op.AndCc _ also row op.OrCc _ also row op.XorCc _
    also row op.SubCc _ also row op.AndnCc _ also row op.OrnCc _ also row op.XnorCc _
    also row op.AddcCc _ also row op.UmulCc _ also row op.SmulCc _ also row op.SubcCc _
    also late (drop 26 arithmetic_rows) 0x20 key v w refl low)

pub addresses_agree : (key v w : ℕ) → key < 0x10 → SameRegisters v w → by_row memory_rows key v ≡ by_row memory_rows key w
addresses_agree key v w low h =
    let row = λ (o : Op) (k : ℕ) (e : k ≡ key). three_same o v w h in
    rows_agree memory_rows key v w (
    row op.Lduw _ also row op.Ldub _ also row op.Lduh _ also row op.Stw _ also row op.Stb _
    also row op.Sth _ also row op.Ldsw _ also row op.Ldsb _ also row op.Ldsh _ also row op.Ldx _
    also row op.Ldstub _ also row op.Stx _ also row op.Swap _
    also late (drop 13 memory_rows) 0x10 key v w refl low)

-- the parts of a test

pub both : (a b : Bool) → a && b ≡ true → (a ≡ true) × (b ≡ true)
both a b e = (and_first a b e, and_second a b e)

pub is_below : (k n : ℕ) → nat_lt k n ≡ true → k < n
is_below k n e = grind (arith, nat_tests)

pub is_false : (b : Bool) → not b ≡ true → b ≡ false
is_false true e = cc
is_false false e = refl

-- two words with one place in the opcode map of op 2, or of op 3

pub arithmetic_same : (v w k : ℕ) → field.op v ≡ 2 → field.op v ≡ field.op w → field.op3 v ≡ k → field.op3 w ≡ k
    → by_row arithmetic_rows k v ≡ by_row arithmetic_rows k w → instr v ≡ instr w
arithmetic_same v w k code codes old new agree =
    instr_arithmetic v code ∙ arithmetic_row v k old ∙ agree ∙ sym (arithmetic_row w k new)
    ∙ sym (instr_arithmetic w (sym codes ∙ code))

pub memory_same : (v w k : ℕ) → field.op v ≡ 3 → field.op v ≡ field.op w → field.op3 v ≡ k → field.op3 w ≡ k
    → by_row memory_rows k v ≡ by_row memory_rows k w → instr v ≡ instr w
memory_same v w k code codes old new agree =
    instr_memory v code ∙ memory_row v k old ∙ agree ∙ sym (memory_row w k new)
    ∙ sym (instr_memory w (sym codes ∙ code))

-- the forms that the laws name one by one, at their rows

pub shift_same : (narrow wide : Op) (v w : ℕ) → SameRegisters v w → field.bits 12 12 v ≡ field.bits 12 12 w
    → form.shift narrow wide v ≡ form.shift narrow wide w
unfolding form.shift
shift_same narrow wide v w h x = rw (h.old_i, h.new_i, h.rd, h.rs1, h.rs2, x) refl

from_two_same : (o : Op) (v w : ℕ) → SameRegisters v w → form.from_two o v ≡ form.from_two o w
unfolding form.from_two
from_two_same o v w h = rw (h.old_i, h.new_i, h.rs1, h.rs2) refl

pub popc_same : (v w : ℕ) → SameRegisters v w → form.popc v ≡ form.popc w
unfolding form.popc
popc_same v w h = rw (h.old_i, h.new_i, h.rd, h.rs1, h.rs2) refl

pub write_state_same : (v w : ℕ) → SameRegisters v w → form.write_state v ≡ form.write_state w
unfolding form.write_state
write_state_same v w h = rw (h.rd, from_two_same op.WrY v w h, from_two_same op.WrCcr v w h) refl

pub return_same : (v w : ℕ) → field.bits 18 14 v ≡ field.bits 18 14 w → field.bits 13 13 v ≡ field.bits 13 13 w
    → field.bits 12 0 v ≡ field.bits 12 0 w → field.bits 4 0 v ≡ field.bits 4 0 w → form.from_two op.Return v ≡ form.from_two op.Return w
unfolding form.from_two
return_same v w rs1 i simm rs2 = rw (rs1, i, simm, rs2) refl

pub return_on_registers_same : (v w : ℕ) → field.bits 18 14 v ≡ field.bits 18 14 w → field.i v ≡ false → field.i w ≡ false
    → field.bits 4 0 v ≡ field.bits 4 0 w → form.from_two op.Return v ≡ form.from_two op.Return w
unfolding form.from_two
return_on_registers_same v w rs1 old_i new_i rs2 = rw (old_i, new_i, rs1, rs2) refl

pub movcc_same : (v w : ℕ) → field.bits 29 25 v ≡ field.bits 29 25 w → field.bits 18 18 v ≡ field.bits 18 18 w
    → field.bits 17 14 v ≡ field.bits 17 14 w → field.i v ≡ false → field.i w ≡ false
    → field.bits 12 11 v ≡ field.bits 12 11 w → field.bits 4 0 v ≡ field.bits 4 0 w → form.movcc v ≡ form.movcc w
unfolding form.movcc
movcc_same v w rd cc2 cond old_i new_i cc rs2 = rw (old_i, new_i, rd, cc2, cond, cc, rs2) refl

pub movr_same : (v w : ℕ) → SameRegisters v w → field.bits 12 10 v ≡ field.bits 12 10 w → form.movr v ≡ form.movr w
unfolding form.movr
movr_same v w h rcond = rw (h.old_i, h.new_i, h.rd, h.rs1, rcond, h.rs2) refl

pub shift_by_count_same : (narrow wide : Op) (v w : ℕ) → field.bits 29 25 v ≡ field.bits 29 25 w → field.bits 18 14 v ≡ field.bits 18 14 w
    → field.bits 13 13 v ≡ field.bits 13 13 w → field.bits 12 12 v ≡ field.bits 12 12 w → field.bits 5 0 v ≡ field.bits 5 0 w
    → field.bits 4 0 v ≡ field.bits 4 0 w → form.shift narrow wide v ≡ form.shift narrow wide w
unfolding form.shift
shift_by_count_same narrow wide v w rd rs1 i x wide_count narrow_count = rw (rd, rs1, i, x, wide_count, narrow_count) refl

pub narrow_shift_same : (narrow wide : Op) (v w : ℕ) → field.bits 29 25 v ≡ field.bits 29 25 w → field.bits 18 14 v ≡ field.bits 18 14 w
    → field.bits 13 13 v ≡ field.bits 13 13 w → field.x v ≡ false → field.x w ≡ false → field.bits 4 0 v ≡ field.bits 4 0 w
    → form.shift narrow wide v ≡ form.shift narrow wide w
unfolding form.shift
narrow_shift_same narrow wide v w rd rs1 i old_x new_x count = rw (old_x, new_x, rd, rs1, i, count) refl

pub tcc_on_registers_same : (v w : ℕ) → field.bits 28 25 v ≡ field.bits 28 25 w → field.bits 18 14 v ≡ field.bits 18 14 w
    → field.i v ≡ false → field.i w ≡ false → field.bits 12 11 v ≡ field.bits 12 11 w
    → field.bits 4 0 v ≡ field.bits 4 0 w → form.tcc v ≡ form.tcc w
unfolding form.tcc
tcc_on_registers_same v w cond rs1 old_i new_i cc rs2 = rw (old_i, new_i, cond, rs1, cc, rs2) refl

pub tcc_same : (v w : ℕ) → field.bits 28 25 v ≡ field.bits 28 25 w → field.bits 18 14 v ≡ field.bits 18 14 w
    → field.bits 13 13 v ≡ field.bits 13 13 w → field.bits 12 11 v ≡ field.bits 12 11 w
    → field.bits 12 0 v ≡ field.bits 12 0 w → field.bits 4 0 v ≡ field.bits 4 0 w → form.tcc v ≡ form.tcc w
unfolding form.tcc
tcc_same v w cond rs1 i cc simm rs2 = rw (cond, rs1, i, cc, simm, rs2) refl

barrier_same : (v w : ℕ) → field.bits 29 25 v ≡ field.bits 29 25 w → field.bits 13 13 v ≡ field.bits 13 13 w
    → field.bits 6 4 v ≡ field.bits 6 4 w → field.bits 3 0 v ≡ field.bits 3 0 w → form.barrier v ≡ form.barrier w
unfolding form.barrier
barrier_same v w rd i cmask mmask = rw (rd, i, cmask, mmask) refl

to_rd_same : (o : Op) (v w : ℕ) → field.bits 29 25 v ≡ field.bits 29 25 w → form.to_rd o v ≡ form.to_rd o w
unfolding form.to_rd
to_rd_same o v w rd = rw rd refl

read_state_with : (v w : ℕ) → field.bits 29 25 v ≡ field.bits 29 25 w → field.bits 18 14 v ≡ field.bits 18 14 w
    → form.barrier v ≡ form.barrier w → form.read_state v ≡ form.read_state w
unfolding form.read_state
read_state_with v w rd rs1 barrier =
    rw (rs1, to_rd_same op.RdY v w rd, to_rd_same op.RdCcr v w rd, to_rd_same op.RdPc v w rd, barrier) refl

pub read_state_same : (v w : ℕ) → field.bits 29 25 v ≡ field.bits 29 25 w → field.bits 18 14 v ≡ field.bits 18 14 w
    → field.bits 13 13 v ≡ field.bits 13 13 w → field.bits 6 4 v ≡ field.bits 6 4 w
    → field.bits 3 0 v ≡ field.bits 3 0 w → form.read_state v ≡ form.read_state w
read_state_same v w rd rs1 i cmask mmask = read_state_with v w rd rs1 (barrier_same v w rd i cmask mmask)

pub register_read_same : (v w : ℕ) → field.bits 29 25 v ≡ field.bits 29 25 w → field.bits 18 14 v ≡ field.bits 18 14 w
    → (field.rs1 w == 15) ≡ false → form.read_state v ≡ form.read_state w
unfolding form.read_state
register_read_same v w rd rs1 other =
    rw (rs1, to_rd_same op.RdY v w rd, to_rd_same op.RdCcr v w rd, to_rd_same op.RdPc v w rd, other) refl

store_barrier_same : (v w : ℕ) → field.bits 29 25 v ≡ field.bits 29 25 w → field.i v ≡ false → field.i w ≡ false → form.barrier v ≡ form.barrier w
unfolding form.barrier
store_barrier_same v w rd old_i new_i = rw (rd, old_i, new_i) refl

pub read_state_without_i_same : (v w : ℕ) → field.bits 29 25 v ≡ field.bits 29 25 w → field.bits 18 14 v ≡ field.bits 18 14 w
    → field.i v ≡ false → field.i w ≡ false → form.read_state v ≡ form.read_state w
read_state_without_i_same v w rd rs1 old_i new_i = read_state_with v w rd rs1 (store_barrier_same v w rd old_i new_i)

pub prefetch_same : (v w : ℕ) → field.bits 29 25 v ≡ field.bits 29 25 w → form.prefetch v ≡ form.prefetch w
unfolding form.prefetch
prefetch_same v w rd = rw rd refl
