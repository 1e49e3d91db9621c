-- What a step gives, as a function of what it runs and of its operands alone (SPARC V9, appendix A). What it loads is
-- no part of it.
use Rattle.std.specs.Prelude.{ℕ, ◌+◌, ◌%◌, ◌==◌, Bool, false, not, ◌&&◌, if◌then◌else◌, Some, None, Result, Ok, Err}
use Rattle.rsim_base.specs.Bytes.{count_of}
use Rattle.rsim_base.specs.declared.memory.Size.{Size}
use Rattle.rsim_base.specs.declared.memory.Size.TheVariants.{B1, B4, B8}
use Rattle.elf64_load.specs.Image.{ImageView, is_readable, is_writable}
use Rattle.sparc_decode.specs.declared.instr.Src2.{Src2}
use Rattle.sparc_decode.specs.declared.instr.Src2.TheVariants.{Reg, Imm}
use Rattle.sparc_decode.specs.declared.kinds.FormKind.{FormKind}
use Rattle.sparc_decode.specs.declared.kinds.FormKind.TheVariants.{Traps, BranchesOnCodes, BranchesOnRegister, Calls, Jumps, Returns, Moves, TrapsIfTaken, SetsHigh, ReadsPc, Fences, DoesNothing, Saves, Restores, Loads, Stores, LoadsAndStoresByte, Swaps, ComparesAndSwaps, Computes}
use Rattle.sparc_decode.specs.Kinds.{kind}
use Rattle.sparc_alu.specs.declared.arithmetic.AluOut.{AluOut}
use Rattle.sparc_alu.specs.declared.arithmetic.DivisionByZero.{DivisionByZero}
use Rattle.sparc_alu.specs.Accesses.{effective}
use Rattle.sparc_alu.specs.Conditions as condition
use Rattle.sparc_alu.specs.Numbers.{twos_complement}
use Rattle.sparc_alu.specs.Results as alu
use Rattle.sparc_meaning.specs.declared.acts.Spoken.{Spoken}
use Rattle.sparc_meaning.specs.declared.acts.Spoken.TheVariants.{Byte, Number}
use Rattle.sparc_meaning.specs.declared.arch.ArchPhase.{ArchPhase}
use Rattle.sparc_meaning.specs.declared.arch.ArchPhase.TheVariants.{Run, Spill, Fill}
use Rattle.sparc_meaning.specs.declared.arch.End.{End}
use Rattle.sparc_meaning.specs.declared.arch.End.TheVariants.{Running, Exit, Trapped}
use Rattle.sparc_meaning.specs.declared.fetched.Computed.{Computed}
use Rattle.sparc_meaning.specs.declared.fetched.Fetched.{Fetched}
use Rattle.sparc_meaning.specs.declared.fetched.Operands.{Operands}
use Rattle.sparc_meaning.specs.Stepped.{straight, by_slot_to, branched}
use Rattle.sparc_meaning.specs.Windows.{slot_at}

-- ---- operands

abbrev pub second : Src2 → Operands → ℕ
second (Reg r) x = x.b
second (Imm z) x = twos_complement z

abbrev pub total : Fetched → Operands → ℕ
total f x = effective x.a (second f.instr.src2 x)

abbrev pub is_taken : Fetched → Operands → Bool
is_taken f x = condition.taken f.instr x.cc x.a

-- ---- what is given

-- to the next instruction, and nothing else
abbrev pub plain : Fetched → Computed
plain f = record { end = Running; addr = 0; next = straight f.pair; taken = false; out = None; value = 0; cc = 0; y = 0 }

abbrev pub gives : ℕ → Fetched → Computed
gives value f = record (plain f) { value = value }

-- a trap that ends the processor, at the instruction's address
abbrev pub traps_by : ℕ → Fetched → Computed
traps_by number f = record (plain f) { end = Trapped number f.pair.pc }

-- a branch; `always` is that it has no condition
abbrev pub branch : Bool → Fetched → Operands → Computed
branch always f x =
    let goes = is_taken f x in
    record (plain f) {
      next = branched always goes f.instr.annul (effective f.pair.pc (twos_complement f.instr.disp)) f.pair;
      taken = goes;
    }

-- to a target, giving its own address
abbrev pub links_to : ℕ → Fetched → Computed
links_to target f = record (plain f) { next = by_slot_to target f.pair; value = f.pair.pc }

-- to a target that must be a multiple of 4, else trap 0x034
abbrev pub jump : ℕ → Fetched → Computed
jump target f = if target % 4 == 0 then links_to target f else traps_by 0x034 f

-- a move that is not made gives what is there
abbrev pub move : Fetched → Operands → Computed
move f x = gives (if is_taken f x then second f.instr.src2 x else x.c) f

abbrev pub speaks : Spoken → Fetched → Computed
speaks words f = record (plain f) { out = Some words }

-- a trap instruction of this number: an exit, a byte, a number, or a trap
abbrev pub served : ℕ → Fetched → Operands → Computed
served number f x =
    if number == 16 then record (plain f) { end = Exit x.c }
    else if number == 17 then speaks (Byte (x.c % 256)) f
    else if number == 18 then speaks (Number x.c) f
    else traps_by (0x100 + number) f

abbrev pub served_if_taken : Fetched → Operands → Computed
served_if_taken f x = if is_taken f x then served (total f x % 128) f x else plain f

-- whether an access traps: its address is no multiple of its size, or its bytes may not be accessed
abbrev pub fault : Size → ℕ → Bool → ℕ → End
fault n addr allowed pc =
    if not (addr % count_of n == 0) then Trapped 0x034 pc
    else if not allowed then Trapped 0x030 pc
    else Running

abbrev pub accessed : Size → ℕ → Bool → Fetched → Computed
accessed n addr allowed f = record (plain f) { end = fault n addr allowed f.pair.pc; addr = addr }

abbrev pub load : Size → ℕ → ImageView → Fetched → Computed
load n addr image f = accessed n addr (is_readable image addr (count_of n)) f

abbrev pub store : Size → ℕ → ImageView → Fetched → Computed
store n addr image f = accessed n addr (is_writable image addr (count_of n)) f

abbrev pub exchange : Size → ℕ → ImageView → Fetched → Computed
exchange n addr image f = accessed n addr (is_readable image addr (count_of n) && is_writable image addr (count_of n)) f

-- what arithmetic gives; a division by 0 is trap 0x028
abbrev pub written : Result AluOut DivisionByZero → Fetched → Computed
written (Ok out) f = record (plain f) { value = out.value; cc = out.cc; y = out.y }
written (Err fault) f = traps_by 0x028 f

abbrev pub calculated : Fetched → Operands → Computed
calculated f x = written (alu.computed f.instr.op x.a (second f.instr.src2 x) x.cc x.y) f

-- ---- what each kind of form gives

unfoldable pub computed_by : FormKind → ImageView → Fetched → Operands → Computed
computed_by Traps image f x = traps_by f.instr.trap f
computed_by BranchesOnCodes image f x = branch (f.instr.cond == 8) f x
computed_by BranchesOnRegister image f x = branch false f x
computed_by Calls image f x = links_to (effective f.pair.pc (twos_complement f.instr.disp)) f
computed_by Jumps image f x = jump (total f x) f
computed_by Returns image f x = jump (total f x) f
computed_by Moves image f x = move f x
computed_by TrapsIfTaken image f x = served_if_taken f x
computed_by SetsHigh image f x = gives (twos_complement f.instr.disp) f
computed_by ReadsPc image f x = gives f.pair.pc f
computed_by Fences image f x = plain f
computed_by DoesNothing image f x = plain f
computed_by Saves image f x = gives (total f x) f
computed_by Restores image f x = gives (total f x) f
computed_by (Loads n) image f x = load n (total f x) image f
computed_by (Stores n) image f x = store n (total f x) image f
computed_by LoadsAndStoresByte image f x = exchange B1 (total f x) image f
computed_by Swaps image f x = exchange B4 (total f x) image f
computed_by (ComparesAndSwaps n) image f x = exchange n x.a image f
computed_by Computes image f x = calculated f x

-- The pair stays during a spill or fill.
abbrev pub computed_in : ArchPhase → ImageView → Fetched → Operands → Computed
computed_in Run image f x = computed_by (kind f.instr.op) image f x
computed_in (Spill k) image f x = record (store B8 (slot_at x.a k) image f) { next = f.pair }
computed_in (Fill k) image f x = record (load B8 (slot_at x.a k) image f) { next = f.pair }

abbrev pub computed : ImageView → Fetched → Operands → Computed
computed image f x = computed_in f.part image f x
