-- What registers' numbers tell of a step.
use Rattle.std.proofs.Common.{◌≡◌, ◌≢◌, ◌+◌, ◌-◌, ◌%◌, ◌<◌, ◌≤◌, ◌==◌, ◌&&◌, ◌||◌, ℕ, Bool, true, false, not, nat_lt, if◌then◌else◌, List, [], ◌∷◌, length, map, All, Option, Some, None, IfSome, option_map, unwrap_or, ◌⊎◌, inl, inr, ⊎_elim, refl, sym, ap, ◌∙◌, arith, lit<, subst, slice_set, slice_index, slice_index_or, get_or-set_other, get_or-set_same, length-set}
use Rattle.std.proofs.lemmas.Bool.{cases_eq, cases_lt, eq-eqb, eqb-true, eqb-false, ltb-true, ltb-false, ne_eqb}
use Rattle.std.proofs.Math.Bool.{or-false}
use Rattle.std.proofs.lemmas.Bool.Decides.{nat_tests}
use Rattle.std.proofs.lemmas.List.Elements.{All-nil, All-cons, All-head, All-tail}
use Rattle.std.specs.List.{filter_map, list_any}
use Rattle.rsim_base.specs.Limits.{arch_registers}
use Rattle.rsim_base.specs.declared.processor.Window.{Window}
use Rattle.sparc_decode.specs.declared.instr.Instr.{Instr}
use Rattle.sparc_decode.specs.declared.instr.Op.{Op}
use Rattle.sparc_decode.specs.declared.instr.Op.TheVariants as op
use Rattle.sparc_decode.specs.declared.instr.Src2.{Src2}
use Rattle.sparc_decode.specs.declared.instr.Src2.TheVariants.{Reg, Imm}
use Rattle.sparc_decode.specs.declared.operands.Dest.{Dest}
use Rattle.sparc_decode.specs.declared.operands.Sources.{Sources}
use Rattle.sparc_decode.specs.declared.operands.WindowEffect.{WindowEffect}
use Rattle.sparc_decode.specs.declared.operands.WindowEffect.TheVariants as effect
use Rattle.sparc_decode.specs.Effects.{register_of as src2_register, reads_rs1, reads_src2, third_of_form, window_effect_of, window_effect_of_form, written_by_form, writes_rd}
use Rattle.sparc_decode.specs.Ranges.{IsInRange, IsOperand}
use Rattle.sparc_meaning.specs.declared.arch.Arch.{Arch}
use Rattle.sparc_meaning.specs.declared.arch.ArchPhase.{ArchPhase}
use Rattle.sparc_meaning.specs.declared.arch.ArchPhase.TheVariants.{Run, Spill, Fill}
use Rattle.sparc_meaning.specs.declared.arch.End.{End}
use Rattle.sparc_meaning.specs.declared.arch.End.TheVariants.{Running, Exit, Trapped}
use Rattle.sparc_meaning.specs.declared.fetched.Computed.{Computed}
use Rattle.sparc_meaning.specs.declared.fetched.Fetched.{Fetched}
use Rattle.sparc_meaning.specs.declared.fetched.Operands.{Operands}
use Rattle.sparc_meaning.specs.Applied.{advanced, applied, result_in, with_destination}
use Rattle.sparc_meaning.specs.Arch.{above, below, is_running, place, register_of, with_register_of}
use Rattle.sparc_meaning.specs.Fetched.{AreWindows, IsFetched, IsPart, dest_by, fills_by, moved, operands, phase_after, read, read_in, sources_by, spills_by, value_at, windows_by, written_in}
use Rattle.sparc_meaning.specs.RegisterLaws.{DestinationsPass, GlobalZeroStays, NumbersAreBelow, NumbersName, OperandsAreRead, RegistersStay, StepsLeadOn, WindowsStay}
use Rattle.sparc_meaning.specs.Registers.{HasRegisters, codes, destinations, is_among, number, number_if, numbers_read, numbers_written, operands_from, passed, reads, result_at, value_of, writes, y_register}
use Rattle.sparc_meaning.specs.Windows.{one_less_kept, one_more_kept, oldest, slot_register, window_above, window_below}
use Rattle.sparc_meaning.proofs.Parts.{if_named, third_in_range, written_in_range}

-- ---- numbers

place_below : (w r : ℕ) → w < 8 → 8 ≤ r → r < 32 → place w r < 128
place_below w r window windowed register = grind (arith, nat_tests)

number_below : (w r : ℕ) → w < 8 → r < 32 → number w r < 136
number_below w r window register =
    ⊎_elim
    (λ (h : r < 8). grind (arith, nat_tests))
    (λ (h : 8 ≤ r). let p = place_below w r window h register in grind (arith, nat_tests))
    (cases_lt r 8)

-- the value of a number, where these are the tests of it
value_by : (global windowed : Bool) (n : ℕ) (s : Arch) → nat_lt n 8 ≡ global → nat_lt n 136 ≡ windowed
    → value_of s n ≡ (if global then slice_index s.globals n else if windowed then slice_index s.windowed (n - 8) else if n == 136 then s.cc else s.y)
unfolding value_of
value_by global windowed n s e f = rw (e, f) refl

lt-true : (a b : ℕ) → a < b → nat_lt a b ≡ true
lt-true a b h = grind (arith, nat_tests)

lt-false : (a b : ℕ) → b ≤ a → nat_lt a b ≡ false
lt-false a b h = grind (arith, nat_tests)

of_global : (n : ℕ) (s : Arch) → n < 8 → value_of s n ≡ slice_index s.globals n
of_global n s h = value_by true true n s (lt-true n 8 h) (lt-true n 136 (omega arith))

of_windowed : (k : ℕ) (s : Arch) → k < 128 → value_of s (8 + k) ≡ slice_index s.windowed k
of_windowed k s h = let e : (8 + k) - 8 ≡ k = omega arith in value_by false true (8 + k) s (lt-false (8 + k) 8 (omega arith)) (lt-true (8 + k) 136 (omega arith)) ∙ ap (slice_index s.windowed) e

named_by : (zero global : Bool) (w r : ℕ) (s : Arch) → w < 8 → r < 32 → slice_index s.globals 0 ≡ 0 → (r == 0) ≡ zero → nat_lt r 8 ≡ global
    → value_of s (if global then r else 8 + place w r) ≡ (if zero then 0 else if global then slice_index s.globals r else slice_index s.windowed (place w r))
named_by true true w r s window register is_zero e f = let z = eqb-true r 0 e in of_global r s (omega arith) ∙ (ap (slice_index s.globals) z ∙ is_zero)
named_by true false w r s window register is_zero e f = absurd (let z = eqb-true r 0 e in let t : nat_lt r 8 ≡ true = lt-true r 8 (omega arith) in cc)
named_by false true w r s window register is_zero e f = of_global r s (grind (arith, nat_tests))
named_by false false w r s window register is_zero e f = of_windowed (place w r) s (place_below w r window (grind (arith, nat_tests)) register)

pub numbers_name : NumbersName
numbers_name s w r window register is_zero = named_by (r == 0) (nat_lt r 8) w r s window register is_zero refl refl

-- ---- each names a register

if_below : (w : ℕ) (named : Option ℕ) → w < 8 → IfSome named (λ r. r < 32) → IfSome (option_map (number w) named) (λ n. n < arch_registers)
if_below w None window register = tt
if_below w (Some r) window register = let b = number_below w r window register in omega arith

if_set : (b : Bool) (n : ℕ) → n < arch_registers → IfSome (number_if b n) (λ m. m < arch_registers)
if_set true n low = low
if_set false n low = tt

second_in_range : (b : Bool) (src : Src2) → IsOperand src → IfSome (if b then src2_register src else None) (λ r. r < 32)
second_in_range false src h = tt
second_in_range true (Reg r) h = h
second_in_range true (Imm z) h = tt

record AreInWindow (named : Sources) : Type 0 where
  a : IfSome named.a (λ r. r < 32)
  b : IfSome named.b (λ r. r < 32)
  c : IfSome named.c (λ r. r < 32)

sources_in_window : (part : ArchPhase) (i : Instr) (w : Window) → IsInRange i → IsPart part (window_effect_of i) w → AreInWindow (sources_by part i)
sources_in_window Run i w h p = record {
  a = if_named (reads_rs1 i.op) i.rs1 h.rs1;
  b = second_in_range (reads_src2 i.op) i.src2 h.src2;
  c = third_in_range i.op i.rd h.rd;
}
sources_in_window (Spill k) i w h p = record { a = lit< tt; b = tt; c = omega arith }
sources_in_window (Fill k) i w h p = record { a = lit< tt; b = tt; c = tt }

dest_in_window : (part : ArchPhase) (i : Instr) (w : Window) → IsInRange i → IsPart part (window_effect_of i) w → IfSome (dest_by part i).reg (λ r. r < 32)
dest_in_window Run i w h p = written_in_range i.op i.rd h.rd
dest_in_window (Spill k) i w h p = tt
dest_in_window (Fill k) i w h p = omega arith

read_below : (part : ArchPhase) (w : Window) → AreWindows w → read_in part w < 8
read_below Run w h = h.current
read_below (Spill k) w h = omega arith
read_below (Fill k) w h = omega arith

moved_below : (e : WindowEffect) (w : Window) → AreWindows w → (moved e w).cwp < 8
moved_below effect.Same w h = h.current
moved_below effect.Flush w h = h.current
moved_below effect.Save w h = omega arith
moved_below effect.Restore w h = omega arith

written_below : (part : ArchPhase) (i : Instr) (w : Window) → AreWindows w → written_in part i w < 8
written_below Run i w h = moved_below (window_effect_of i) w h
written_below (Spill k) i w h = omega arith
written_below (Fill k) i w h = omega arith

-- what holds of each number that there is, holds of those
All_there : (P : ℕ → Type 0) (xs : List (Option ℕ)) → All (λ n. IfSome n P) xs → All P (filter_map (λ (n : Option ℕ). n) xs)
All_there P [] h = All-nil P
All_there P (None ∷ xs) h = let Q : Option ℕ → Type 0 = λ n. IfSome n P in All_there P xs (All-tail Q None xs h)
All_there P (Some n ∷ xs) h = let Q : Option ℕ → Type 0 = λ m. IfSome m P in All-cons P n (filter_map (λ (m : Option ℕ). m) xs) (All-head Q (Some n) xs h) (All_there P xs (All-tail Q (Some n) xs h))

All_three : {X : Type 0} (P : X → Type 0) (a b c : X) → P a → P b → P c → All P (a ∷ b ∷ c ∷ [])
All_three P a b c p q r = All-cons P a (b ∷ c ∷ []) p (All-cons P b (c ∷ []) q (All-cons P c [] r (All-nil P)))

read_numbers : (named : Sources) (w : ℕ) → w < 8 → AreInWindow named → All (λ n. IfSome n (λ r. r < arch_registers)) (numbers_read named w)
read_numbers named w window h =
    let P : Option ℕ → Type 0 = λ n. IfSome n (λ r. r < arch_registers) in
    let last = number_if named.cc codes ∷ number_if named.y y_register ∷ [] in
    All-cons P (option_map (number w) named.a) (option_map (number w) named.b ∷ option_map (number w) named.c ∷ last) (if_below w named.a window h.a)
    (All-cons P (option_map (number w) named.b) (option_map (number w) named.c ∷ last) (if_below w named.b window h.b)
    (All_three P (option_map (number w) named.c) (number_if named.cc codes) (number_if named.y y_register) (if_below w named.c window h.c) (if_set named.cc codes (lit< tt)) (if_set named.y y_register (lit< tt))))

written_numbers : (named : Dest) (w : ℕ) → w < 8 → IfSome named.reg (λ r. r < 32) → All (λ n. IfSome n (λ r. r < arch_registers)) (numbers_written named w)
written_numbers named w window h =
    let P : Option ℕ → Type 0 = λ n. IfSome n (λ r. r < arch_registers) in
    All_three P (option_map (number w) named.reg) (number_if named.cc codes) (number_if named.y y_register) (if_below w named.reg window h) (if_set named.cc codes (lit< tt)) (if_set named.y y_register (lit< tt))

pub numbers_are_below : NumbersAreBelow
unfolding reads destinations
numbers_are_below f h = (
  read_numbers (sources_by f.part f.instr) (read_in f.part f.window) (read_below f.part f.window h.windows) (sources_in_window f.part f.instr f.window h.instr h.part),
  All_there (λ n. n < arch_registers) (destinations f)
      (written_numbers (dest_by f.part f.instr) (written_in f.part f.instr f.window) (written_below f.part f.instr f.window h.windows) (dest_in_window f.part f.instr f.window h.instr h.part)),
)

-- ---- what is read

-- a value, or 0 of none
abbrev found : Arch → Option ℕ → ℕ
found s n = unwrap_or (option_map (value_of s) n) 0

value_read : (named : Option ℕ) (w : ℕ) (s : Arch) → w < 8 → IfSome named (λ r. r < 32) → slice_index s.globals 0 ≡ 0 → value_at named w s ≡ found s (option_map (number w) named)
value_read None w s window h is_zero = refl
value_read (Some r) w s window h is_zero = sym (numbers_name s w r window h is_zero)

codes_read_at : (b : Bool) (s : Arch) → (if b then s.cc else 0) ≡ found s (number_if b codes)
unfolding value_of
codes_read_at true s = refl
codes_read_at false s = refl

y_read_at : (b : Bool) (s : Arch) → (if b then s.y else 0) ≡ found s (number_if b y_register)
unfolding value_of
y_read_at true s = refl
y_read_at false s = refl

read_is : (named : Sources) (w : ℕ) (s : Arch) → w < 8 → AreInWindow named → slice_index s.globals 0 ≡ 0 → read named w s ≡ operands_from (map (option_map (value_of s)) (numbers_read named w))
read_is named w s window h is_zero =
    let a = value_read named.a w s window h.a is_zero in
    let b = value_read named.b w s window h.b is_zero in
    let c = value_read named.c w s window h.c is_zero in
    let cc_is = codes_read_at named.cc s in
    let y_is = y_read_at named.y s in
    λ i. record { a = a i; b = b i; c = c i; cc = cc_is i; y = y_is i }

pub operands_are_read : OperandsAreRead
unfolding reads
operands_are_read f s h is_zero =
    read_is (sources_by f.part f.instr) (read_in f.part f.window) s (read_below f.part f.window h.windows) (sources_in_window f.part f.instr f.window h.instr h.part) is_zero

-- ---- what is written

pick_same : (a b x y : ℕ) → a ≡ b → (if a == b then x else y) ≡ x
pick_same a b x y e = rw (eq-eqb a b e) refl

pick_other : (a b x y : ℕ) → a ≢ b → (if a == b then x else y) ≡ y
pick_other a b x y d = rw (ne_eqb a b d) refl

at_windowed : (n : ℕ) (s : Arch) → 8 ≤ n → n < 136 → value_of s n ≡ slice_index s.windowed (n - 8)
at_windowed n s high low = value_by false true n s (lt-false n 8 high) (lt-true n 136 low)

-- a state's values go by its registers
values_same : (n : ℕ) (s t : Arch) → n < 136 → s.globals ≡ t.globals → s.windowed ≡ t.windowed → value_of s n ≡ value_of t n
values_same n s t low e f =
    ⊎_elim
    (λ (h : n < 8). of_global n s h ∙ (ap (λ (xs : List ℕ). slice_index xs n) e ∙ sym (of_global n t h)))
    (λ (h : 8 ≤ n). at_windowed n s h low ∙ (ap (λ (xs : List ℕ). slice_index xs (n - 8)) f ∙ sym (at_windowed n t h low)))
    (cases_lt n 8)

-- a global is written
global_passes : (r value n : ℕ) (s : Arch) → length s.globals ≡ 8 → r < 8 → n < 136 → value_of (record s { globals = slice_set s.globals r value }) n ≡ (if r == n then value else value_of s n)
global_passes r value n s count is_global low =
    let t = record s { globals = slice_set s.globals r value } in
    ⊎_elim
    (λ (e : r ≡ n). of_global n t (omega arith) ∙ (ap (slice_index t.globals) (sym e) ∙ (get_or-set_same s.globals r value 0 (omega arith) ∙ sym (pick_same r n value (value_of s n) e))))
    (λ (d : r ≡ n → ⊥).
    ⊎_elim
    (λ (h : n < 8). of_global n t h ∙ (get_or-set_other s.globals r n value 0 (λ e. d (sym e)) ∙ (sym (of_global n s h) ∙ sym (pick_other r n value (value_of s n) d))))
    (λ (h : 8 ≤ n). at_windowed n t h low ∙ (sym (at_windowed n s h low) ∙ sym (pick_other r n value (value_of s n) d)))
    (cases_lt n 8))
    (cases_eq r n)

-- a windowed register is written
windowed_passes : (k value n : ℕ) (s : Arch) → length s.windowed ≡ 128 → k < 128 → n < 136 → value_of (record s { windowed = slice_set s.windowed k value }) n ≡ (if 8 + k == n then value else value_of s n)
windowed_passes k value n s count is_place low =
    let t = record s { windowed = slice_set s.windowed k value } in
    ⊎_elim
    (λ (e : 8 + k ≡ n).
    let back : n - 8 ≡ k = omega arith in
    at_windowed n t (omega arith) low ∙ (ap (slice_index t.windowed) back ∙ (get_or-set_same s.windowed k value 0 (omega arith) ∙ sym (pick_same (8 + k) n value (value_of s n) e))))
    (λ (d : 8 + k ≡ n → ⊥).
    ⊎_elim
    (λ (h : n < 8). of_global n t h ∙ (sym (of_global n s h) ∙ sym (pick_other (8 + k) n value (value_of s n) d)))
    (λ (h : 8 ≤ n).
    let other : n - 8 ≢ k = λ e. d (omega arith) in
    at_windowed n t h low ∙ (get_or-set_other s.windowed k (n - 8) value 0 other ∙ (sym (at_windowed n s h low) ∙ sym (pick_other (8 + k) n value (value_of s n) d))))
    (cases_lt n 8))
    (cases_eq (8 + k) n)

register_passes : (global : Bool) (w r value n : ℕ) (s : Arch) → HasRegisters s → w < 8 → r < 32 → (r == 0) ≡ false → nat_lt r 8 ≡ global → n < 136
    → value_of (with_register_of w r value s) n ≡ (if number w r == n then value else value_of s n)
register_passes true w r value n s h window register some e low = rw (some, e) (global_passes r value n s h.globals (ltb-true r 8 e) low)
register_passes false w r value n s h window register some e low =
    rw (some, e) (windowed_passes (place w r) value n s h.windowed (place_below w r window (ltb-false r 8 e) register) low)

-- this register is that number
abbrev names : Option ℕ → ℕ → ℕ → Bool
names None w n = false
names (Some r) w n = number w r == n

dest_passes : (reg : Option ℕ) (w value n : ℕ) (s : Arch) → HasRegisters s → w < 8 → IfSome reg (λ r. r < 32) → IfSome reg (λ r. (r == 0) ≡ false) → n < 136
    → value_of (with_destination reg w value s) n ≡ (if names reg w n then value else value_of s n)
dest_passes None w value n s h window register some low = refl
dest_passes (Some r) w value n s h window register some low = register_passes (nat_lt r 8) w r value n s h window register some refl low

abbrev among : Option ℕ → Bool → Bool → ℕ → ℕ → Bool
among reg a b w n = is_among n (filter_map (λ (m : Option ℕ). m) (numbers_written (record { reg = reg; cc = a; y = b }) w))

among_low : (reg : Option ℕ) (a b : Bool) (w n : ℕ) → (136 == n) ≡ false → (137 == n) ≡ false → among reg a b w n ≡ names reg w n
among_low None true true w n e f = rw (e, f) refl
among_low None true false w n e f = rw e refl
among_low None false true w n e f = rw f refl
among_low None false false w n e f = refl
among_low (Some r) true true w n e f = rw (e, f) (or-false (number w r == n))
among_low (Some r) true false w n e f = rw e (or-false (number w r == n))
among_low (Some r) false true w n e f = rw f (or-false (number w r == n))
among_low (Some r) false false w n e f = or-false (number w r == n)

-- the state behind a step, by what it writes; u has the rest of it
abbrev behind : Option ℕ → Bool → Bool → ℕ → ℕ → ℕ → ℕ → Arch → Arch → Arch
behind reg a b w value codes y s u = record u {
  globals = (with_destination reg w value s).globals;
  windowed = (with_destination reg w value s).windowed;
  cc = if a then codes else s.cc;
  y = if b then y else s.y;
}

abbrev left_at : ℕ → ℕ → ℕ → ℕ → ℕ
left_at codes y value n = if n == 136 then codes else if n == 137 then y else value

low_passes : (reg : Option ℕ) (a b : Bool) (w value codes y n : ℕ) (s u : Arch) → HasRegisters s → w < 8 → IfSome reg (λ r. r < 32) → IfSome reg (λ r. (r == 0) ≡ false) → n < 136
    → value_of (behind reg a b w value codes y s u) n ≡ (if among reg a b w n then left_at codes y value n else value_of s n)
low_passes reg a b w value codes y n s u h window register some low =
    let put = with_destination reg w value s in
    let is : among reg a b w n ≡ names reg w n = among_low reg a b w n (ne_eqb 136 n (λ e. omega arith)) (ne_eqb 137 n (λ e. omega arith)) in
    let left : left_at codes y value n ≡ value = pick_other n 136 codes (if n == 137 then y else value) (λ e. omega arith) ∙ pick_other n 137 y value (λ e. omega arith) in
    values_same n (behind reg a b w value codes y s u) put low refl refl
    ∙ (dest_passes reg w value n s h window register some low
    ∙ (ap (λ t. if t then value else value_of s n) (sym is)
    ∙ ap (λ m. if among reg a b w n then m else value_of s n) (sym left)))

codes_pass : (reg : Option ℕ) (a b : Bool) (w value codes y : ℕ) (s u : Arch) → w < 8 → IfSome reg (λ r. r < 32)
    → value_of (behind reg a b w value codes y s u) 136 ≡ (if among reg a b w 136 then left_at codes y value 136 else value_of s 136)
unfolding value_of
codes_pass None true b w value codes y s u window register = refl
codes_pass None false true w value codes y s u window register = refl
codes_pass None false false w value codes y s u window register = refl
codes_pass (Some r) true b w value codes y s u window register = let below = number_below w r window register in rw (ne_eqb (number w r) 136 (λ e. omega arith)) refl
codes_pass (Some r) false true w value codes y s u window register = let below = number_below w r window register in rw (ne_eqb (number w r) 136 (λ e. omega arith)) refl
codes_pass (Some r) false false w value codes y s u window register = let below = number_below w r window register in rw (ne_eqb (number w r) 136 (λ e. omega arith)) refl

y_passes : (reg : Option ℕ) (a b : Bool) (w value codes y : ℕ) (s u : Arch) → w < 8 → IfSome reg (λ r. r < 32)
    → value_of (behind reg a b w value codes y s u) 137 ≡ (if among reg a b w 137 then left_at codes y value 137 else value_of s 137)
unfolding value_of
y_passes None true true w value codes y s u window register = refl
y_passes None true false w value codes y s u window register = refl
y_passes None false true w value codes y s u window register = refl
y_passes None false false w value codes y s u window register = refl
y_passes (Some r) true true w value codes y s u window register = let below = number_below w r window register in rw (ne_eqb (number w r) 137 (λ e. omega arith)) refl
y_passes (Some r) true false w value codes y s u window register = let below = number_below w r window register in rw (ne_eqb (number w r) 137 (λ e. omega arith)) refl
y_passes (Some r) false true w value codes y s u window register = let below = number_below w r window register in rw (ne_eqb (number w r) 137 (λ e. omega arith)) refl
y_passes (Some r) false false w value codes y s u window register = let below = number_below w r window register in rw (ne_eqb (number w r) 137 (λ e. omega arith)) refl

passes : (reg : Option ℕ) (a b : Bool) (w value codes y n : ℕ) (s u : Arch) → HasRegisters s → w < 8 → IfSome reg (λ r. r < 32) → IfSome reg (λ r. (r == 0) ≡ false) → n < 138
    → value_of (behind reg a b w value codes y s u) n ≡ (if among reg a b w n then left_at codes y value n else value_of s n)
passes reg a b w value codes y n s u h window register some low =
    let P : ℕ → Type 0 = λ m. value_of (behind reg a b w value codes y s u) m ≡ (if among reg a b w m then left_at codes y value m else value_of s m) in
    ⊎_elim
    (λ (is_low : n < 136). low_passes reg a b w value codes y n s u h window register some is_low)
    (λ (high : 136 ≤ n).
    ⊎_elim
    (λ (e : n ≡ 136). subst P (sym e) (codes_pass reg a b w value codes y s u window register))
    (λ (d : n ≡ 136 → ⊥). let e : 137 ≡ n = omega arith in subst P e (y_passes reg a b w value codes y s u window register))
    (cases_eq n 136))
    (cases_lt n 136)

-- register 0 is no destination
if_some : (b : Bool) (rd : ℕ) (zero : Bool) → (rd == 0) ≡ zero → IfSome (if b && not (rd == 0) then Some rd else None) (λ r. (r == 0) ≡ false)
if_some false rd zero e = tt
if_some true rd true e = rw e tt
if_some true rd false e = rw e e

never_zero : (o : Op) (rd : ℕ) → IfSome (written_by_form o rd) (λ r. (r == 0) ≡ false)
unfolding written_by_form
never_zero op.Call rd = refl
never_zero _ rd = if_some _ rd (rd == 0) refl

dest_some : (part : ArchPhase) (i : Instr) → IfSome (dest_by part i).reg (λ r. (r == 0) ≡ false)
dest_some Run i = never_zero i.op i.rd
dest_some (Spill k) i = tt
dest_some (Fill k) i = ne_eqb (16 + k) 0 (λ e. omega arith)

-- the rest of the state after a step
abbrev led : Fetched → Computed → Arch → Arch
led f c s = let w = windows_by f.part f.instr f.window in record s { pc = c.next.pc; npc = c.next.npc; cwp = w.cwp; cansave = w.cansave; canrestore = w.canrestore; phase = phase_after f.part }

pub destinations_pass : DestinationsPass
unfolding destinations
destinations_pass f x c loaded n s h is low runs =
    let d = dest_by f.part f.instr in
    rw runs (passes d.reg d.cc d.y (written_in f.part f.instr f.window) (result_in f.part f.instr c loaded) c.cc c.y n s (led f c s) h
    (written_below f.part f.instr f.window is.windows) (dest_in_window f.part f.instr f.window is.instr is.part) (dest_some f.part f.instr) low)

-- ---- register 0, and the number of registers

number_some : (w r : ℕ) → (r == 0) ≡ false → number w r ≢ 0
number_some w r some = let d = eqb-false r 0 some in grind (arith, nat_tests)

if_not_zero : (w : ℕ) (named : Option ℕ) → IfSome named (λ r. (r == 0) ≡ false) → IfSome (option_map (number w) named) (λ n. n ≢ 0)
if_not_zero w None h = tt
if_not_zero w (Some r) h = number_some w r h

if_other : (b : Bool) (n : ℕ) → n ≢ 0 → IfSome (number_if b n) (λ m. m ≢ 0)
if_other true n h = h
if_other false n h = tt

none_zero : (named : Dest) (w : ℕ) → IfSome named.reg (λ r. (r == 0) ≡ false) → All (λ n. n ≢ 0) (filter_map (λ (n : Option ℕ). n) (numbers_written named w))
none_zero named w h =
    let P : Option ℕ → Type 0 = λ n. IfSome n (λ m. m ≢ 0) in
    All_there (λ n. n ≢ 0) (numbers_written named w)
    (All_three P (option_map (number w) named.reg) (number_if named.cc codes) (number_if named.y y_register) (if_not_zero w named.reg h) (if_other named.cc codes (λ e. omega arith)) (if_other named.y y_register (λ e. omega arith)))

register_zero : (global : Bool) (w r value : ℕ) (s : Arch) → (r == 0) ≡ false → nat_lt r 8 ≡ global → slice_index (with_register_of w r value s).globals 0 ≡ slice_index s.globals 0
register_zero true w r value s some e = let d = eqb-false r 0 some in rw (some, e) (get_or-set_other s.globals r 0 value 0 (λ z. d (sym z)))
register_zero false w r value s some e = rw (some, e) refl

dest_zero : (reg : Option ℕ) (w value : ℕ) (s : Arch) → IfSome reg (λ r. (r == 0) ≡ false) → slice_index (with_destination reg w value s).globals 0 ≡ slice_index s.globals 0
dest_zero None w value s h = refl
dest_zero (Some r) w value s h = register_zero (nat_lt r 8) w r value s h refl

zero_by : (b : Bool) (f : Fetched) (x : Operands) (c : Computed) (loaded : ℕ) (s : Arch) → is_running c.end ≡ b → slice_index (applied f x c loaded s).state.globals 0 ≡ slice_index s.globals 0
zero_by true f x c loaded s e = rw e (dest_zero (dest_by f.part f.instr).reg (written_in f.part f.instr f.window) (result_in f.part f.instr c loaded) s (dest_some f.part f.instr))
zero_by false f x c loaded s e = rw e refl

pub global_zero_stays : GlobalZeroStays
unfolding destinations
global_zero_stays f x c loaded s is_zero = (
  none_zero (dest_by f.part f.instr) (written_in f.part f.instr f.window) (dest_some f.part f.instr),
  zero_by (is_running c.end) f x c loaded s refl ∙ is_zero,
)

record SameCounts (s t : Arch) : Type 0 where
  globals : length t.globals ≡ length s.globals
  windowed : length t.windowed ≡ length s.windowed

register_counts : (zero global : Bool) (w r value : ℕ) (s : Arch) → (r == 0) ≡ zero → nat_lt r 8 ≡ global → SameCounts s (with_register_of w r value s)
register_counts true global w r value s z e = rw z (record { globals = refl; windowed = refl })
register_counts false true w r value s z e = rw (z, e) (record { globals = length-set s.globals r value; windowed = refl })
register_counts false false w r value s z e = rw (z, e) (record { globals = refl; windowed = length-set s.windowed (place w r) value })

dest_counts : (reg : Option ℕ) (w value : ℕ) (s : Arch) → SameCounts s (with_destination reg w value s)
dest_counts None w value s = record { globals = refl; windowed = refl }
dest_counts (Some r) w value s = register_counts (r == 0) (nat_lt r 8) w r value s refl refl

counts_by : (b : Bool) (f : Fetched) (x : Operands) (c : Computed) (loaded : ℕ) (s : Arch) → is_running c.end ≡ b → HasRegisters s → HasRegisters (applied f x c loaded s).state
counts_by true f x c loaded s e h =
    let k = dest_counts (dest_by f.part f.instr).reg (written_in f.part f.instr f.window) (result_in f.part f.instr c loaded) s in
    rw e (record { globals = k.globals ∙ h.globals; windowed = k.windowed ∙ h.windowed })
counts_by false f x c loaded s e h = rw e (record { globals = h.globals; windowed = h.windowed })

pub registers_stay : RegistersStay
registers_stay f x c loaded s h = counts_by (is_running c.end) f x c loaded s refl h

-- ---- where a step leads

pub steps_lead : StepsLeadOn
steps_lead f x c loaded s runs = rw runs (refl, refl, refl, refl)

kept_if : (b : Bool) (v w : Window) → AreWindows v → AreWindows w → AreWindows (if b then v else w)
kept_if true v w g h = g
kept_if false v w g h = h

moved_sound : (e : WindowEffect) (w : Window) → AreWindows w → IsPart Run e w → AreWindows (moved e w)
moved_sound effect.Same w h p = h
moved_sound effect.Flush w h p = h
moved_sound effect.Save w h p = let d = eqb-false w.cansave 0 p.0 in record { current = omega arith; others = omega arith }
moved_sound effect.Restore w h p = let d = eqb-false w.canrestore 0 p.1 in record { current = omega arith; others = omega arith }

windows_sound : (part : ArchPhase) (i : Instr) (w : Window) → AreWindows w → IsPart part (window_effect_of i) w → AreWindows (windows_by part i w)
windows_sound Run i w h p = moved_sound (window_effect_of i) w h p
windows_sound (Spill k) i w h p = kept_if (k == 15) (one_less_kept w) w (record { current = h.current; others = omega arith }) h
windows_sound (Fill k) i w h p = kept_if (k == 15) (one_more_kept w) w (record { current = h.current; others = omega arith }) h

pub windows_stay : WindowsStay
windows_stay f h = windows_sound f.part f.instr f.window h.windows h.part
