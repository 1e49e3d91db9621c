-- What registers' numbers tell of a step.
use Rattle.std.specs.Prelude.{◌≡◌, ◌≢◌, ℕ, ◌<◌, true, All, IfSome, map, option_map, slice_index}
use Rattle.rsim_base.specs.Limits.{arch_registers}
use Rattle.elf64_load.specs.Image.{ImageView}
use Rattle.sparc_meaning.specs.declared.arch.Arch.{Arch}
use Rattle.sparc_meaning.specs.declared.fetched.Computed.{Computed}
use Rattle.sparc_meaning.specs.declared.fetched.Fetched.{Fetched}
use Rattle.sparc_meaning.specs.declared.fetched.Operands.{Operands}
use Rattle.sparc_meaning.specs.Applied.{applied}
use Rattle.sparc_meaning.specs.Arch.{is_running, register_of}
use Rattle.sparc_meaning.specs.Fetched.{AreWindows, IsFetched, operands, windows_by, phase_after}
use Rattle.sparc_meaning.specs.Registers.{HasRegisters, number, operands_from, passed, reads, value_of, writes}
use Rattle.sparc_meaning.specs.Stepped.{pair_of}
use Rattle.sparc_meaning.specs.Windows.{windows_of}

-- Each number names a register.
abbrev pub NumbersAreBelow : Type 0
NumbersAreBelow = (f : Fetched) → IsFetched f → All (λ n. IfSome n (λ r. r < arch_registers)) (reads f) × All (λ n. n < arch_registers) (writes f)

-- A register of a window is the one of its number.
abbrev pub NumbersName : Type 0
NumbersName = (s : Arch) (w r : ℕ) → w < 8 → r < 32 → slice_index s.globals 0 ≡ 0 → value_of s (number w r) ≡ register_of w s r

-- The operands of a step are the values of the registers that it reads.
abbrev pub OperandsAreRead : Type 0
OperandsAreRead = (f : Fetched) (s : Arch) → IsFetched f → slice_index s.globals 0 ≡ 0 → operands f s ≡ operands_from (map (option_map (value_of s)) (reads f))

-- Behind a step that goes on, a register that it writes has its result, and every other one the value that it had.
abbrev pub DestinationsPass : Type 0
DestinationsPass =
    (f : Fetched) (x : Operands) (c : Computed) (loaded n : ℕ) (s : Arch) → HasRegisters s → IsFetched f → n < arch_registers → is_running c.end ≡ true
    → value_of (applied f x c loaded s).state n ≡ passed f c loaded (value_of s) n

-- Register 0 is never written, and stays 0.
abbrev pub GlobalZeroStays : Type 0
GlobalZeroStays =
    (f : Fetched) (x : Operands) (c : Computed) (loaded : ℕ) (s : Arch) → slice_index s.globals 0 ≡ 0
    → All (λ n. n ≢ 0) (writes f) × (slice_index (applied f x c loaded s).state.globals 0 ≡ 0)

-- A state keeps the number of its registers.
abbrev pub RegistersStay : Type 0
RegistersStay = (f : Fetched) (x : Operands) (c : Computed) (loaded : ℕ) (s : Arch) → HasRegisters s → HasRegisters (applied f x c loaded s).state

-- A step that goes on leads to the next pair, in the windows and the phase after it.
abbrev pub StepsLeadOn : Type 0
StepsLeadOn =
    (f : Fetched) (x : Operands) (c : Computed) (loaded : ℕ) (s : Arch) → is_running c.end ≡ true → let t = (applied f x c loaded s).state in
    (pair_of t ≡ c.next) × (windows_of t ≡ windows_by f.part f.instr f.window) × (t.phase ≡ phase_after f.part) × (t.end ≡ s.end)

-- The windows after a step are sound.
abbrev pub WindowsStay : Type 0
WindowsStay = (f : Fetched) → IsFetched f → AreWindows (windows_by f.part f.instr f.window)
