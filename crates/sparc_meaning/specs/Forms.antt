-- What the instructions of each form do (SPARC V9, appendix A): what they read and write, the next pair, and
-- the act.
use Rattle.std.specs.Prelude.{ℕ, ◌%◌, ◌==◌, Bool, false, ◌&&◌, if◌then◌else◌, Result, Ok, Err}
use Rattle.rsim_base.specs.Bytes.{count_of, low_bytes}
use Rattle.rsim_base.specs.declared.memory.Size.{Size}
use Rattle.rsim_base.specs.declared.memory.Size.TheVariants.{B1, B4}
use Rattle.elf64_load.specs.Image.{ImageView, is_readable, is_writable}
use Rattle.sparc_decode.specs.declared.instr.Instr.{Instr}
use Rattle.sparc_decode.specs.declared.instr.Src2.{Src2}
use Rattle.sparc_decode.specs.declared.instr.Src2.TheVariants.{Reg, Imm}
use Rattle.sparc_decode.specs.declared.kinds.FormKind.{FormKind}
use Rattle.sparc_decode.specs.declared.kinds.FormKind.TheVariants.{Traps, BranchesOnCodes, BranchesOnRegister, Calls, Jumps, Returns, Moves, TrapsIfTaken, SetsHigh, ReadsPc, Fences, DoesNothing, Saves, Restores, Loads, Stores, LoadsAndStoresByte, Swaps, ComparesAndSwaps, Computes}
use Rattle.sparc_alu.specs.declared.arithmetic.AluOut.{AluOut}
use Rattle.sparc_alu.specs.declared.arithmetic.DivisionByZero.{DivisionByZero}
use Rattle.sparc_alu.specs.Accesses.{effective, extended, swapped}
use Rattle.sparc_alu.specs.Conditions.{taken}
use Rattle.sparc_alu.specs.Numbers.{twos_complement}
use Rattle.sparc_alu.specs.Results.{computed}
use Rattle.sparc_meaning.specs.declared.acts.Act.TheVariants.{Nothing, Load, Store, Atomic, Fence}
use Rattle.sparc_meaning.specs.declared.arch.Arch.{Arch}
use Rattle.sparc_meaning.specs.Arch.{register, with_register}
use Rattle.sparc_meaning.specs.Stepped.{Stepped, pair_of, at, then_to, branched, goes_on, trapped, service, accessed}
use Rattle.sparc_meaning.specs.Windows.{saved, restored}

-- ---- operands

abbrev pub first : Instr → Arch → ℕ
first i s = register s i.rs1

abbrev pub operand : Src2 → Arch → ℕ
operand (Reg r) s = register s r
operand (Imm z) s = twos_complement z

abbrev pub second : Instr → Arch → ℕ
second i s = operand i.src2 s

-- their sum: an address, a target, or what SAVE and RESTORE give
abbrev pub total : Instr → Arch → ℕ
total i s = effective (first i s) (second i s)

-- the instruction's condition is true
abbrev pub is_taken : Instr → Arch → Bool
is_taken i s = taken i s.cc (first i s)

-- ---- what each does

-- A branch (A.3, A.6, A.7). `always` is that it has no condition.
abbrev pub branch : Bool → Instr → Arch → Stepped
branch always i s = record {
  state = at (branched always (is_taken i s) i.annul (effective s.pc (twos_complement i.disp)) (pair_of s)) s;
  act = Nothing;
}

-- CALL (A.8): register 15 gets its own address
abbrev pub call : Instr → Arch → Stepped
call i s = record {
  state = then_to (effective s.pc (twos_complement i.disp)) (with_register 15 s.pc s);
  act = Nothing;
}

-- to a target, which must be a multiple of 4, else trap 0x034
abbrev pub jump : ℕ → Arch → Arch → Stepped
jump target after s = if target % 4 == 0 then record { state = then_to target after; act = Nothing } else trapped 0x034 s

-- MOVcc and MOVr (A.35, A.36)
abbrev pub move_if_taken : Instr → Arch → Stepped
move_if_taken i s = goes_on Nothing (if is_taken i s then with_register i.rd (second i s) s else s)

-- Tcc (A.61): its number has 7 bits
abbrev pub trap_if_taken : Instr → Arch → Stepped
trap_if_taken i s = if is_taken i s then service (total i s % 128) s else goes_on Nothing s

-- what arithmetic gives; a division by 0 is trap 0x028
abbrev pub written : Result AluOut DivisionByZero → Instr → Arch → Stepped
written (Ok out) i s = goes_on Nothing (with_register i.rd out.value (record s { cc = out.cc; y = out.y }))
written (Err fault) i s = trapped 0x028 s

-- a load (A.27): the register gets what memory has, extended
abbrev pub load : Size → ImageView → Instr → Arch → ℕ → Stepped
load n image i s value =
    let addr = total i s in
    accessed n addr (is_readable image addr (count_of n))
    (goes_on (Load (record { 0 = addr }) n value) (with_register i.rd (extended i.op value) s)) s

-- a store (A.54): the low bytes of the register
abbrev pub store : Size → ImageView → Instr → Arch → Stepped
store n image i s =
    let addr = total i s in
    accessed n addr (is_writable image addr (count_of n))
    (goes_on (Store (record { 0 = addr }) n (low_bytes n (register s i.rd))) s) s

-- an atomic load and store at an address: the register gets what memory had
abbrev pub exchange : Size → ℕ → ℕ → ImageView → Instr → Arch → ℕ → Stepped
exchange n addr stored image i s value =
    accessed n addr (is_readable image addr (count_of n) && is_writable image addr (count_of n))
    (goes_on (Atomic (record { 0 = addr }) n value stored) (with_register i.rd (extended i.op value) s)) s

-- what a compare-and-swap of this size stores (A.9): rd where memory has rs2, else what memory has
abbrev pub kept_or_swapped : Size → Instr → Arch → ℕ → ℕ
kept_or_swapped n i s value = swapped value (second i s) (low_bytes n (register s i.rd)) n

unfoldable pub executed : FormKind → ImageView → Instr → Arch → ℕ → Stepped
executed Traps image i s value = trapped i.trap s
executed BranchesOnCodes image i s value = branch (i.cond == 8) i s
executed BranchesOnRegister image i s value = branch false i s
executed Calls image i s value = call i s
-- JMPL (A.24): the register gets its own address
executed Jumps image i s value = jump (total i s) (with_register i.rd s.pc s) s
-- RETURN (A.45): the target is of the old window
executed Returns image i s value = jump (total i s) (restored s) s
executed Moves image i s value = move_if_taken i s
executed TrapsIfTaken image i s value = trap_if_taken i s
-- SETHI (A.48)
executed SetsHigh image i s value = goes_on Nothing (with_register i.rd (twos_complement i.disp) s)
-- RDPC (A.44)
executed ReadsPc image i s value = goes_on Nothing (with_register i.rd s.pc s)
-- MEMBAR and STBAR (A.32, A.51)
executed Fences image i s value = goes_on (Fence i.mask) s
-- FLUSH, FLUSHW with nothing left to spill, PREFETCH (A.20, A.21, A.42)
executed DoesNothing image i s value = goes_on Nothing s
-- SAVE and RESTORE (A.46): the sum is of the old window, and is written in the new one
executed Saves image i s value = goes_on Nothing (with_register i.rd (total i s) (saved s))
executed Restores image i s value = goes_on Nothing (with_register i.rd (total i s) (restored s))
executed (Loads n) image i s value = load n image i s value
executed (Stores n) image i s value = store n image i s
-- LDSTUB (A.29) stores ones, SWAP (A.57) the low word of the register
executed LoadsAndStoresByte image i s value = exchange B1 (total i s) 0xFF image i s value
executed Swaps image i s value = exchange B4 (total i s) (low_bytes B4 (register s i.rd)) image i s value
-- CASA and CASXA (A.9) have their address in one register
executed (ComparesAndSwaps n) image i s value = exchange n (first i s) (kept_or_swapped n i s value) image i s value
executed Computes image i s value = written (computed i.op (first i s) (second i s) s.cc s.y) i s
