-- The state of a processor between two steps (SPARC V9, section 5), and how a processor starts.
-- Registers hold numbers below 2^64, and window numbers go round at 8.
use Rattle.std.specs.Prelude.{◌≡◌, ℕ, ◌+◌, ◌-◌, ◌*◌, ◌%◌, ◌^◌, ◌<◌, ◌≤◌, ◌==◌, Bool, true, false, nat_lt, if◌then◌else◌, replicate, slice_index, slice_set, ⊤}
use Rattle.rsim_base.specs.Limits.{stacks_start, stack_bytes}
use Rattle.elf64_load.specs.Image.{ImageView}
use Rattle.sparc_meaning.specs.declared.arch.Arch.{Arch}
use Rattle.sparc_meaning.specs.declared.arch.ArchPhase.{ArchPhase}
use Rattle.sparc_meaning.specs.declared.arch.ArchPhase.TheVariants.{Run, Spill, Fill}
use Rattle.sparc_meaning.specs.declared.arch.End.{End}
use Rattle.sparc_meaning.specs.declared.arch.End.TheVariants.{Running, Exit, Trapped}

-- ---- registers

-- the windows next to a window: SAVE goes above, RESTORE below
abbrev pub above : ℕ → ℕ
above w = (w + 1) % 8

abbrev pub below : ℕ → ℕ
below w = (w + 7) % 8

-- Where register r of window w stands among the windowed registers, for r from 8 on. Each window has 8 ins
-- and 8 locals there; its outs are the ins of the window above (5.1.1).
abbrev pub place : ℕ → ℕ → ℕ
place w r =
    if nat_lt r 16 then 16 * above w + (r - 8)  -- outs, 8 to 15
    else if nat_lt r 24 then 16 * w + 8 + (r - 16)  -- locals, 16 to 23
    else 16 * w + (r - 24)  -- ins, 24 to 31

-- register r of window w: 0 to 7 are the globals, and register 0 reads 0
abbrev pub register_of : ℕ → Arch → ℕ → ℕ
register_of w s r =
    if r == 0 then 0
    else if nat_lt r 8 then slice_index s.globals r
    else slice_index s.windowed (place w r)

-- the state with this value in register r of window w; register 0 is never written
abbrev pub with_register_of : ℕ → ℕ → ℕ → Arch → Arch
with_register_of w r value s =
    if r == 0 then s
    else if nat_lt r 8 then record s { globals = slice_set s.globals r value }
    else record s { windowed = slice_set s.windowed (place w r) value }

-- a register of the current window
abbrev pub register : Arch → ℕ → ℕ
register s r = register_of s.cwp s r

abbrev pub with_register : ℕ → ℕ → Arch → Arch
with_register r value s = with_register_of s.cwp r value s

-- ---- states

-- A spill or fill that has begun, at its step 1 to 15. A spill has a window to store, of those that can be restored
-- from, and a fill one to load, of those that can be saved to.
abbrev pub IsPhase : ArchPhase → ℕ → ℕ → Type 0
IsPhase Run cansave canrestore = ⊤
IsPhase (Spill k) cansave canrestore = (1 ≤ k) × (k ≤ 15) × (1 ≤ canrestore)
IsPhase (Fill k) cansave canrestore = (1 ≤ k) × (k ≤ 15) × (1 ≤ cansave)

-- a state that a processor can be in, as far as its windows go: of the eight, one is current, its outs are in
-- the next one, and the other six can be saved to or restored from
pub record IsSound (s : Arch) : Type 0 where
  pub current : s.cwp < 8
  pub others : s.cansave + s.canrestore ≡ 6
  pub phase : IsPhase s.phase s.cansave s.canrestore

abbrev pub is_running : End → Bool
is_running Running = true
is_running (Exit status) = false
is_running (Trapped trap pc) = false

-- ---- the start

-- Processor p of n starts at the entry, in window 0 with six windows to save to. It has %o0 = p, %o1 = n, and in
-- %o6 the end of stack p less the bias of 2,047 and a frame of 256 bytes. Every other register is 0.
abbrev pub boot : ImageView → ℕ → ℕ → Arch
boot image p n = record {
  globals = replicate 8 0;
  windowed = slice_set (slice_set (slice_set (replicate 128 0)
      (place 0 8) p) (place 0 9) n) (place 0 14) (stacks_start + (p + 1) * stack_bytes - 2303);
  cc = 0;
  y = 0;
  pc = image.entry;
  npc = (image.entry + 4) % 2 ^ 64;
  cwp = 0;
  cansave = 6;
  canrestore = 0;
  phase = Run;
  end = Running;
}
