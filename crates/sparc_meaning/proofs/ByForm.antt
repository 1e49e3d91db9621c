-- What the forms of each kind read and write, form by form.
use Rattle.std.proofs.Common.{◌≡◌, ◌==◌, ◌&&◌, ℕ, Bool, true, false, not, if◌then◌else◌, Some, None, refl, ap}
use Rattle.std.proofs.lemmas.Bool.{eqb-true}
use Rattle.sparc_decode.specs.declared.instr.Instr.{Instr}
use Rattle.sparc_decode.specs.declared.instr.Op.{Op}
use Rattle.sparc_decode.specs.declared.instr.Op.TheVariants as op
use Rattle.sparc_decode.specs.Effects.{reads_rs1, reads_src2, reads_rd, reads_cc, reads_y, writes_rd, writes_cc, writes_y, looks_at_codes, third_of_form, written_by_form}
use Rattle.sparc_decode.specs.declared.kinds.FormKind.{FormKind}
use Rattle.sparc_decode.specs.declared.kinds.FormKind.TheVariants as kinds
use Rattle.sparc_decode.specs.Kinds.{kind}
use Rattle.sparc_alu.specs.Conditions.{holds, holds_of_register, codes_for, taken_by_form}
use Rattle.sparc_alu.specs.Results as alu

-- the kinds whose forms read both operands
unfoldable pub totals : FormKind → Bool
totals kinds.TrapsIfTaken = true
totals kinds.Jumps = true
totals kinds.Returns = true
totals kinds.Saves = true
totals kinds.Restores = true
totals (kinds.Loads n) = true
totals (kinds.Stores n) = true
totals kinds.LoadsAndStoresByte = true
totals kinds.Swaps = true
totals (kinds.ComparesAndSwaps n) = true
totals _ = false

-- those whose forms read rd
unfoldable pub thirds : FormKind → Bool
thirds kinds.Moves = true
thirds (kinds.Stores n) = true
thirds kinds.Swaps = true
thirds (kinds.ComparesAndSwaps n) = true
thirds _ = false

-- those whose forms write rd, if any register
unfoldable pub puts_rd : FormKind → Bool
puts_rd kinds.Jumps = true
puts_rd kinds.Moves = true
puts_rd kinds.SetsHigh = true
puts_rd kinds.ReadsPc = true
puts_rd kinds.Saves = true
puts_rd kinds.Restores = true
puts_rd (kinds.Loads n) = true
puts_rd kinds.LoadsAndStoresByte = true
puts_rd kinds.Swaps = true
puts_rd (kinds.ComparesAndSwaps n) = true
puts_rd kinds.Computes = true
puts_rd _ = false

-- the form reads both operands
pub record ReadsBoth (o : Op) : Type 0 where
  pub first : reads_rs1 o ≡ true
  pub second : reads_src2 o ≡ true

-- the forms of those kinds do
pub total_reads : (o : Op) → totals (kind o) ≡ true → ReadsBoth o
unfolding totals kind reads_rs1 reads_src2
total_reads op.Trap e = record { first = cc; second = cc }
total_reads _ e = record { first = cc; second = cc }

-- so do those that set the codes, or Y
pub codes_read : (o : Op) → writes_cc o ≡ true → ReadsBoth o
unfolding writes_cc reads_rs1 reads_src2
codes_read op.Trap e = record { first = cc; second = cc }
codes_read _ e = record { first = cc; second = cc }

-- and those that set Y
pub y_reads : (o : Op) → writes_y o ≡ true → ReadsBoth o
unfolding writes_y reads_rs1 reads_src2
y_reads op.Trap e = record { first = cc; second = cc }
y_reads _ e = record { first = cc; second = cc }

-- moves read operand 2
pub move_reads : (o : Op) → kind o ≡ kinds.Moves → reads_src2 o ≡ true
unfolding kind reads_src2
move_reads op.Trap e = cc
move_reads _ e = cc

-- and so do divisions
pub divides_reads : (o : Op) → alu.divides o ≡ true → reads_src2 o ≡ true
unfolding alu.divides reads_src2
divides_reads op.Trap e = cc
divides_reads _ e = cc

-- the forms of those kinds read rd
pub third_reads : (o : Op) → thirds (kind o) ≡ true → reads_rd o ≡ true
unfolding thirds kind reads_rd
third_reads op.Trap e = cc
third_reads _ e = cc

-- and is then the third source
pub third_is : (o : Op) (rd : ℕ) → reads_rd o ≡ true → third_of_form o rd ≡ Some rd
unfolding third_of_form reads_rd
third_is op.Trap rd e = cc
third_is _ rd e = cc

-- which is register 8 where the form asks for a service
pub third_asks : (o : Op) (rd : ℕ) → kind o ≡ kinds.TrapsIfTaken → third_of_form o rd ≡ Some 8
unfolding third_of_form kind
third_asks op.Trap rd e = cc
third_asks _ rd e = cc

-- ---- the destination

-- CALL writes register 15
pub call_puts : (o : Op) (rd : ℕ) → kind o ≡ kinds.Calls → written_by_form o rd ≡ Some 15
unfolding kind written_by_form
call_puts op.Trap rd e = cc
call_puts _ rd e = cc

-- the others write rd, where they write a register
pub written_is : (o : Op) (rd : ℕ) → puts_rd (kind o) ≡ true → written_by_form o rd ≡ (if writes_rd o && not (rd == 0) then Some rd else None)
unfolding kind puts_rd written_by_form
written_is op.Trap rd e = cc
written_is _ rd e = cc

-- those of them that write no register read none in rd
pub unread : (o : Op) → puts_rd (kind o) ≡ true → writes_rd o ≡ false → reads_rd o ≡ false
unfolding kind puts_rd writes_rd reads_rd
unread op.Trap e f = cc
unread _ e f = cc

-- kinds whose forms write no register
unfoldable pub puts_none : FormKind → Bool
puts_none kinds.Traps = true
puts_none kinds.BranchesOnCodes = true
puts_none kinds.BranchesOnRegister = true
puts_none kinds.Returns = true
puts_none kinds.TrapsIfTaken = true
puts_none kinds.Fences = true
puts_none kinds.DoesNothing = true
puts_none (kinds.Stores n) = true
puts_none _ = false

pub none_is : (o : Op) (rd : ℕ) → puts_none (kind o) ≡ true → written_by_form o rd ≡ None
unfolding kind puts_none written_by_form writes_rd
none_is op.Trap rd e = refl
none_is _ rd e = cc

-- the kind of arithmetic
unfoldable pub calculates : FormKind → Bool
calculates kinds.Computes = true
calculates _ = false

-- the other kinds set no codes
pub codes_unset : (o : Op) → calculates (kind o) ≡ false → writes_cc o ≡ false
unfolding kind calculates writes_cc
codes_unset op.Trap e = cc
codes_unset _ e = cc

-- nor Y
pub y_unset : (o : Op) → calculates (kind o) ≡ false → writes_y o ≡ false
unfolding kind calculates writes_y
y_unset op.Trap e = cc
y_unset _ e = cc

-- a condition holds of codes alike, or of any where it does not look at them
pub holds_by : (never always : Bool) (cond x y : ℕ) → (cond == 0) ≡ never → (cond == 8) ≡ always → (looks_at_codes cond ≡ true → x ≡ y) → holds cond x ≡ holds cond y
holds_by true always cond x y e f same = let is : cond ≡ 0 = eqb-true cond 0 e in rw is refl
holds_by false true cond x y e f same = let is : cond ≡ 8 = eqb-true cond 8 f in rw is refl
holds_by false false cond x y e f same = ap (holds cond) (same (rw (e, f) refl))

-- so an instruction's condition holds of codes that agree where it looks at them
pub holds_same : (i : Instr) (x y : ℕ) → (looks_at_codes i.cond ≡ true → x ≡ y) → holds i.cond (codes_for i x) ≡ holds i.cond (codes_for i y)
holds_same i x y same = holds_by (i.cond == 0) (i.cond == 8) i.cond (codes_for i x) (codes_for i y) refl refl (λ e. ap (codes_for i) (same e))

-- whether an instruction is taken goes by what its form reads
pub taken_same : (o : Op) (i : Instr) (c c' a a' : ℕ) → (reads_cc o i.cond ≡ true → c' ≡ c) → (reads_rs1 o ≡ true → a' ≡ a) → taken_by_form o i c' a' ≡ taken_by_form o i c a
unfolding taken_by_form reads_cc reads_rs1
taken_same op.Bicc i c c' a a' codes first = holds_same i c' c codes
taken_same op.BPcc i c c' a a' codes first = holds_same i c' c codes
taken_same op.Movcc i c c' a a' codes first = holds_same i c' c codes
taken_same op.Tcc i c c' a a' codes first = holds_same i c' c codes
taken_same op.BPr i c c' a a' codes first = ap (holds_of_register i.cond) (first refl)
taken_same op.Movr i c c' a a' codes first = ap (holds_of_register i.cond) (first refl)
taken_same _ i c c' a a' codes first = refl

-- operand 1 does not matter to the value where the form does not read it
pub value_a : (o : Op) (a a' b c y : ℕ) → reads_rs1 o ≡ false → alu.value o a' b c y ≡ alu.value o a b c y
unfolding reads_rs1 alu.value
value_a op.Trap a a' b c y e = cc
value_a _ a a' b c y e = cc

-- the same of operand 2
pub value_b : (o : Op) (a b b' c y : ℕ) → kind o ≡ kinds.Computes → reads_src2 o ≡ false → alu.value o a b' c y ≡ alu.value o a b c y
unfolding kind reads_src2 alu.value
value_b op.Trap a b b' c y e f = cc
value_b _ a b b' c y e f = cc

-- of the codes
pub value_cc : (o : Op) (cond a b c c' y : ℕ) → reads_cc o cond ≡ false → alu.value o a b c' y ≡ alu.value o a b c y
unfolding reads_cc alu.value
value_cc op.Trap cond a b c c' y e = cc
value_cc _ cond a b c c' y e = cc

-- and of Y
pub value_y : (o : Op) (a b c y y' : ℕ) → reads_y o ≡ false → alu.value o a b c y' ≡ alu.value o a b c y
unfolding reads_y alu.value
value_y op.Trap a b c y y' e = cc
value_y _ a b c y y' e = cc

-- codes that are set by a form that does not read them do not go by those before
pub codes_cc : (o : Op) (cond a b c c' : ℕ) → writes_cc o ≡ true → reads_cc o cond ≡ false → alu.codes o a b c' ≡ alu.codes o a b c
unfolding writes_cc reads_cc alu.codes
codes_cc op.Trap cond a b c c' e f = cc
codes_cc _ cond a b c c' e f = cc

-- codes that are not set are those before
pub codes_kept : (o : Op) (a b c : ℕ) → writes_cc o ≡ false → alu.codes o a b c ≡ c
unfolding writes_cc alu.codes
codes_kept op.Trap a b c e = cc
codes_kept _ a b c e = cc

-- Y does not go by what it was, where it is set
pub y_written : (o : Op) (a b y y' : ℕ) → writes_y o ≡ true → alu.y_register o a b y' ≡ alu.y_register o a b y
unfolding writes_y alu.y_register
y_written op.Trap a b y y' e = cc
y_written _ a b y y' e = cc

-- where it is not set it is as before
pub y_kept : (o : Op) (a b y : ℕ) → writes_y o ≡ false → alu.y_register o a b y ≡ y
unfolding writes_y alu.y_register
y_kept op.Trap a b y e = cc
y_kept _ a b y e = cc

-- a function of what is read, or of what does not matter
pub by_read : (b : Bool) (f : ℕ → ℕ) (x x' : ℕ) → (b ≡ true → x' ≡ x) → (b ≡ false → f x' ≡ f x) → f x' ≡ f x
by_read true f x x' same ignored = ap f (same refl)
by_read false f x x' same ignored = ignored refl
