-- What windows are for: what a window held before its spill it holds again after its fill.
use Rattle.std.specs.Prelude.{◌≡◌, ◌≢◌, ℕ, zero, suc, ◌+◌, ◌%◌, ◌<◌, ◌≤◌, ◌==◌, true, length, Some}
use Rattle.rsim_base.specs.declared.memory.Size.TheVariants.{B8}
use Rattle.elf64_load.specs.Image.{ImageView, fetched, is_readable, is_writable}
use Rattle.sparc_decode.specs.declared.instr.Op.TheVariants.{Restore}
use Rattle.sparc_decode.specs.Instr.{instr}
use Rattle.sparc_meaning.specs.declared.acts.Act.{Act}
use Rattle.sparc_meaning.specs.declared.acts.Act.TheVariants.{Load, Store}
use Rattle.sparc_meaning.specs.declared.arch.Arch.{Arch}
use Rattle.sparc_meaning.specs.declared.arch.ArchPhase.TheVariants.{Run}
use Rattle.sparc_meaning.specs.Arch.{above, register, register_of}
use Rattle.sparc_meaning.specs.Step.{step}
use Rattle.sparc_meaning.specs.Windows.{spills_first, spilled, filled, slot}

-- the outs of a window are the ins of the next
abbrev pub OutsAreIns : Type 0
OutsAreIns = (w r : ℕ) (s : Arch) → w < 8 → 8 ≤ r → r < 16 → register_of w s r ≡ register_of (above w) s (r + 16)

-- the state after k steps that find these values, and what the next step does
abbrev pub steps : ℕ → ImageView → (ℕ → ℕ) → Arch → Arch
steps zero image values s = s
steps (suc k) image values s = (step image (steps k image values s) (values k)).state

abbrev pub act_after : ℕ → ImageView → (ℕ → ℕ) → Arch → Act
act_after k image values s = (step image (steps k image values s) (values k)).act

-- the instruction that is next must spill a window first: a SAVE, or FLUSHW
pub record MustSpill (image : ImageView) (s : Arch) : Type 0 where
  pub runs : s.phase ≡ Run
  pub word : ℕ
  pub stands : fetched image s.pc ≡ Some word
  pub due : spills_first (instr word).op s ≡ true

-- the instruction that is next is a RESTORE, and must fill a window first
pub record MustFill (image : ImageView) (t : Arch) : Type 0 where
  pub runs : t.phase ≡ Run
  pub word : ℕ
  pub stands : fetched image t.pc ≡ Some word
  pub restores : (instr word).op ≡ Restore
  pub due : t.canrestore ≡ 0

-- a window's save area can be written and read, eight bytes at a time
abbrev pub CanBeKept : ImageView → ℕ → Arch → Type 0
CanBeKept image w s = (k : ℕ) → k < 16
    → ((slot w s k % 8 == 0) ≡ true) × (is_writable image (slot w s k) 8 ≡ true) × (is_readable image (slot w s k) 8 ≡ true)

-- The sixteen steps of the spill of s store the locals and ins of w, and those of the fill of t load them from the
-- same places. Then the RESTORE runs, and w is the current window with the locals and ins that it had in s, but for
-- the register that the RESTORE writes. Until then every other window, and the globals, are as in t.
pub record IsGivenBack (image : ImageView) (s t : Arch) (w rd : ℕ) (values : ℕ → ℕ) : Type 0 where
  pub stores : (k : ℕ) → k < 16 → act_after k image values s ≡ Store (record { 0 = slot w s k }) B8 (values k)
  pub loads : (k : ℕ) → k < 16 → act_after k image values t ≡ Load (record { 0 = slot w s k }) B8 (values k)
  pub others : (v r : ℕ) → v < 8 → v ≢ w → 16 ≤ r → r < 32 → register_of v (steps 16 image values t) r ≡ register_of v t r
  pub globals : (steps 16 image values t).globals ≡ t.globals
  pub current : (steps 17 image values t).cwp ≡ w
  pub given_back : (r : ℕ) → 16 ≤ r → r < 32 → r ≢ rd → register (steps 17 image values t) r ≡ register_of w s r

-- A window w is spilled from a state s on, and filled from a later state t on, in which its stack pointer is the same.
-- Between them its registers may have been written, and its save area may not: each step of the fill finds what
-- that step of the spill has stored.
abbrev pub WindowsAreKept : Type 0
WindowsAreKept = (image : ImageView) (s t : Arch) (w : ℕ) → MustSpill image s → (must : MustFill image t) → length t.windowed ≡ 128
    → w ≡ spilled s → w ≡ filled t → register_of w t 14 ≡ register_of w s 14 → CanBeKept image w s
    → IsGivenBack image s t w (instr must.word).rd (λ k. register_of w s (16 + k))
