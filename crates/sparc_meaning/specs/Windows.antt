-- Register windows (SPARC V9, 5.1.1, 6.3.6 and 6.4): SAVE and RESTORE, and the spills and fills that make room for
-- them. The manual leaves spills and fills to a trap handler; here the processor makes them, as sixteen steps
-- of one access each.
use Rattle.std.specs.Prelude.{ℕ, ◌+◌, ◌-◌, ◌*◌, ◌%◌, ◌^◌, ◌==◌, Bool, false, not, if◌then◌else◌}
use Rattle.rsim_base.specs.declared.memory.Size.TheVariants.{B8}
use Rattle.rsim_base.specs.declared.processor.Window.{Window}
use Rattle.elf64_load.specs.Image.{ImageView, is_readable, is_writable}
use Rattle.sparc_decode.specs.declared.instr.Op.{Op}
use Rattle.sparc_decode.specs.declared.instr.Op.TheVariants as op
use Rattle.sparc_meaning.specs.declared.acts.Act.TheVariants.{Load, Store}
use Rattle.sparc_meaning.specs.declared.arch.Arch.{Arch}
use Rattle.sparc_meaning.specs.declared.arch.ArchPhase.TheVariants.{Run, Spill, Fill}
use Rattle.sparc_meaning.specs.Arch.{above, below, register_of, with_register_of}
use Rattle.sparc_meaning.specs.Stepped.{Stepped, accessed}

abbrev pub windows_of : Arch → Window
windows_of s = record { cwp = s.cwp; cansave = s.cansave; canrestore = s.canrestore }

abbrev pub with_windows : Window → Arch → Arch
with_windows w s = record s { cwp = w.cwp; cansave = w.cansave; canrestore = w.canrestore }

-- to the window above: one less to save to, one more to restore from
abbrev pub window_above : Window → Window
window_above w = record { cwp = above w.cwp; cansave = w.cansave - 1; canrestore = w.canrestore + 1 }

-- and back to the window below
abbrev pub window_below : Window → Window
window_below w = record { cwp = below w.cwp; cansave = w.cansave + 1; canrestore = w.canrestore - 1 }

abbrev pub saved : Arch → Arch
saved s = with_windows (window_above (windows_of s)) s

abbrev pub restored : Arch → Arch
restored s = with_windows (window_below (windows_of s)) s

-- SAVE needs a window to save to, and FLUSHW wants all of them: each spills where it has not
unfoldable pub spills_first : Op → Arch → Bool
spills_first op.Save s = s.cansave == 0
spills_first op.Flushw s = not (s.cansave == 6)
spills_first _ s = false

-- RESTORE and RETURN need a window to restore from
unfoldable pub fills_first : Op → Arch → Bool
fills_first op.Restore s = s.canrestore == 0
fills_first op.Return s = s.canrestore == 0
fills_first _ s = false

-- the window that is spilled: the oldest that can be restored from; and the one that is filled
abbrev pub oldest : Window → ℕ
oldest w = (w.cwp + w.cansave + 2) % 8

abbrev pub spilled : Arch → ℕ
spilled s = oldest (windows_of s)

abbrev pub filled : Arch → ℕ
filled s = below s.cwp

-- A window is kept at its stack pointer, %o6, behind the bias of 2,047: its locals and then its ins, registers 16
-- to 31, eight bytes each.
abbrev pub slot_at : ℕ → ℕ → ℕ
slot_at pointer k = (pointer + 2047 + 8 * k) % 2 ^ 64

abbrev pub slot : ℕ → Arch → ℕ → ℕ
slot w s k = slot_at (register_of w s 14) k

abbrev pub slot_register : ℕ → ℕ
slot_register k = 16 + k

-- the last step of a spill makes a window to save to of one to restore from
abbrev pub one_less_kept : Window → Window
one_less_kept w = record w { cansave = w.cansave + 1; canrestore = w.canrestore - 1 }

-- and that of a fill one to restore from of one to save to
abbrev pub one_more_kept : Window → Window
one_more_kept w = record w { cansave = w.cansave - 1; canrestore = w.canrestore + 1 }

-- the state after step k of a spill
abbrev pub after_spill : ℕ → Arch → Arch
after_spill k s =
    if k == 15 then with_windows (one_less_kept (windows_of s)) (record s { phase = Run })
    else record s { phase = Spill (k + 1) }

-- and of a fill
abbrev pub after_fill : ℕ → Arch → Arch
after_fill k s =
    if k == 15 then with_windows (one_more_kept (windows_of s)) (record s { phase = Run })
    else record s { phase = Fill (k + 1) }

-- step k of a spill stores a register, and that of a fill loads it. The pair of pc and npc stays.
abbrev pub spill : ℕ → ImageView → Arch → Stepped
spill k image s =
    let w = spilled s in
    let addr = slot w s k in
    accessed B8 addr (is_writable image addr 8) (record {
      state = after_spill k s;
      act = Store (record { 0 = addr }) B8 (register_of w s (slot_register k));
    }) s

abbrev pub fill : ℕ → ImageView → Arch → ℕ → Stepped
fill k image s value =
    let w = filled s in
    let addr = slot w s k in
    accessed B8 addr (is_readable image addr 8) (record {
      state = after_fill k (with_register_of w (slot_register k) value s);
      act = Load (record { 0 = addr }) B8 value;
    }) s
