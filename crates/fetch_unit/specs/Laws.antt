-- A guess that is right leads on.
use Rattle.std.specs.Prelude.{◌≡◌, Bool, true, false, if◌then◌else◌, Some}
use Rattle.elf64_load.specs.Image.{ImageView}
use Rattle.sparc_decode.specs.declared.kinds.FormKind.{FormKind}
use Rattle.sparc_decode.specs.declared.kinds.FormKind.TheVariants.{BranchesOnCodes, BranchesOnRegister, Calls, Jumps, Returns}
use Rattle.sparc_decode.specs.Kinds.{kind}
use Rattle.sparc_meaning.specs.declared.arch.ArchPhase.TheVariants.{Run}
use Rattle.sparc_meaning.specs.declared.fetched.Computed.{Computed}
use Rattle.sparc_meaning.specs.declared.fetched.Fetched.{Fetched}
use Rattle.sparc_meaning.specs.declared.fetched.Operands.{Operands}
use Rattle.sparc_meaning.specs.Computed.{computed}
use Rattle.branch_predict.specs.Guesses.{PredictorView, guessed}
use Rattle.branch_predict.specs.declared.predictor.Guess.{Guess}
use Rattle.branch_predict.specs.declared.predictor.Guess.TheVariants.{Taken, NotTaken, Target}
use Rattle.fetch_unit.specs.Path.{led_by}

-- The guess that is right, by what an instruction of this kind has computed: CALL goes to its displacement, JMPL and RETURN
-- to the target that they name, and others where they are branches that are taken.
abbrev pub way : FormKind → Computed → Guess
way Calls c = Taken
way Jumps c = Target c.next.npc
way Returns c = Target c.next.npc
way _ c = if c.taken then Taken else NotTaken

-- the pair that it leads to is the next one
abbrev pub LeadOn : Type 0
LeadOn = (image : ImageView) (f : Fetched) (x : Operands) → f.part ≡ Run →
    let c = computed image f x in led_by (way (kind f.instr.op) c) f.instr f.pair ≡ Some c.next

-- a branch, JMPL or RETURN: what is guessed of it may be wrong
abbrev pub may_turn : FormKind → Bool
may_turn BranchesOnCodes = true
may_turn BranchesOnRegister = true
may_turn Jumps = true
may_turn Returns = true
may_turn _ = false

-- the guess of another is right
abbrev pub StraightOnes : Type 0
StraightOnes = (image : ImageView) (f : Fetched) (x : Operands) (p : PredictorView) → f.part ≡ Run → may_turn (kind f.instr.op) ≡ false
    → (guessed f.pair.pc f.instr p).guess ≡ way (kind f.instr.op) (computed image f x)
