-- What a step leads to: the next state, and what it does beside (SPARC V9, 6.3 and section 7).
use Rattle.std.specs.Prelude.{ℕ, ◌+◌, ◌%◌, ◌^◌, ◌==◌, Bool, not, ◌&&◌, if◌then◌else◌}
use Rattle.rsim_base.specs.Bytes.{count_of}
use Rattle.rsim_base.specs.declared.memory.Size.{Size}
use Rattle.rsim_base.specs.declared.processor.Pair.{Pair}
use Rattle.sparc_meaning.specs.declared.acts.Act.{Act}
use Rattle.sparc_meaning.specs.declared.acts.Act.TheVariants.{Out, End as Ended}
use Rattle.sparc_meaning.specs.declared.acts.Spoken.TheVariants.{Byte, Number}
use Rattle.sparc_meaning.specs.declared.arch.Arch.{Arch}
use Rattle.sparc_meaning.specs.declared.arch.End.{End}
use Rattle.sparc_meaning.specs.declared.arch.End.TheVariants.{Exit, Trapped}
use Rattle.sparc_meaning.specs.Arch.{register}

pub record Stepped : Type 0 where
  pub state : Arch
  pub act : Act

-- ---- the next pair of pc and npc

abbrev pub pair_of : Arch → Pair
pair_of s = record { pc = s.pc; npc = s.npc }

abbrev pub at : Pair → Arch → Arch
at pair s = record s { pc = pair.pc; npc = pair.npc }

-- to the next instruction
abbrev pub straight : Pair → Pair
straight pair = record { pc = pair.npc; npc = (pair.npc + 4) % 2 ^ 64 }

-- to the delay slot, and from there to a target
abbrev pub by_slot_to : ℕ → Pair → Pair
by_slot_to target pair = record { pc = pair.npc; npc = target }

-- past the delay slot, which is annulled
abbrev pub past_slot : Pair → Pair
past_slot pair = record { pc = (pair.npc + 4) % 2 ^ 64; npc = (pair.npc + 8) % 2 ^ 64 }

-- to a target at once: the delay slot is annulled
abbrev pub at_once_to : ℕ → Pair
at_once_to target = record { pc = target; npc = (target + 4) % 2 ^ 64 }

-- Where a branch leads (6.3.4). Without its annul bit it runs its slot. With it, it runs the slot exactly where
-- it is taken and conditional.
abbrev pub branched : Bool → Bool → Bool → ℕ → Pair → Pair
branched always goes annul target pair =
    if goes then (if always && annul then at_once_to target else by_slot_to target pair)
    else (if annul then past_slot pair else straight pair)

abbrev pub next : Arch → Arch
next s = at (straight (pair_of s)) s

abbrev pub then_to : ℕ → Arch → Arch
then_to target s = at (by_slot_to target (pair_of s)) s

-- ---- steps that go on, and steps that end the processor

-- to the next instruction, with this done beside
abbrev pub goes_on : Act → Arch → Stepped
goes_on act s = record { state = next s; act = act }

-- a step that ends the processor changes nothing else
abbrev pub ends : End → Arch → Stepped
ends how s = record { state = record s { end = how }; act = Ended }

-- a trap that ends the processor, at the instruction's address
abbrev pub trapped : ℕ → Arch → Stepped
trapped number s = ends (Trapped number s.pc) s

-- %o0, which a service takes its argument from
abbrev pub argument : Arch → ℕ
argument s = register s 8

-- A trap instruction of this number: 16 exits with the status in %o0, 17 puts its low byte, 18 puts it as a
-- decimal number and a line feed. Every other number is a trap that ends the processor.
abbrev pub service : ℕ → Arch → Stepped
service number s =
    if number == 16 then ends (Exit (argument s)) s
    else if number == 17 then goes_on (Out (Byte (argument s % 256))) s
    else if number == 18 then goes_on (Out (Number (argument s))) s
    else trapped (0x100 + number) s

-- An access: an address that is no multiple of the size is trap 0x034, mem_address_not_aligned; then bytes that
-- may not be accessed are trap 0x030, data_access_exception.
abbrev pub accessed : Size → ℕ → Bool → Stepped → Arch → Stepped
accessed n addr allowed done s =
    if not (addr % count_of n == 0) then trapped 0x034 s
    else if not allowed then trapped 0x030 s
    else done
