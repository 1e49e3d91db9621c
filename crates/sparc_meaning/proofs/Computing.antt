-- A step is what its operands compute, applied to the state.
use Rattle.std.proofs.Common.{◌≡◌, ◌+◌, ◌%◌, ◌==◌, ◌&&◌, ℕ, Bool, true, false, not, nat_lt, if◌then◌else◌, Option, Some, None, Result, Ok, Err, refl, sym, ap, ◌∙◌, slice_set, slice_index}
use Rattle.std.proofs.lemmas.List.{set-get_or}
use Rattle.rsim_base.specs.Bytes.{count_of, low_bytes}
use Rattle.rsim_base.specs.declared.memory.Size.{Size}
use Rattle.rsim_base.specs.declared.memory.Size.TheVariants.{B1, B4, B8}
use Rattle.rsim_base.specs.declared.processor.Window.{Window}
use Rattle.elf64_load.specs.Image.{ImageView, fetched, is_readable, is_writable}
use Rattle.sparc_decode.specs.declared.instr.Instr.{Instr}
use Rattle.sparc_decode.specs.declared.instr.Op.{Op}
use Rattle.sparc_decode.specs.declared.instr.Op.TheVariants as op
use Rattle.sparc_decode.specs.declared.instr.Src2.{Src2}
use Rattle.sparc_decode.specs.declared.instr.Src2.TheVariants.{Reg, Imm}
use Rattle.sparc_decode.specs.Effects.{reads_rs1, reads_src2, reads_rd, reads_cc, reads_y, writes_rd, writes_cc, writes_y, written_by_form, written_of, window_effect_of_form, window_effect_of}
use Rattle.sparc_decode.specs.Facts.{unused_rd}
use Rattle.sparc_decode.specs.declared.kinds.FormKind.{FormKind}
use Rattle.sparc_decode.specs.declared.kinds.FormKind.TheVariants as kinds
use Rattle.sparc_decode.specs.Kinds.{kind}
use Rattle.sparc_alu.specs.declared.arithmetic.AluOut.{AluOut}
use Rattle.sparc_alu.specs.declared.arithmetic.DivisionByZero.{DivisionByZero}
use Rattle.sparc_alu.specs.Accesses.{effective, extended, swapped}
use Rattle.sparc_alu.specs.Numbers.{twos_complement}
use Rattle.sparc_alu.specs.Results as alu
use Rattle.sparc_meaning.specs.declared.acts.Act.TheVariants.{Nothing, Out, Load, Store, Atomic}
use Rattle.sparc_meaning.specs.declared.acts.Spoken.{Spoken}
use Rattle.sparc_meaning.specs.declared.acts.Spoken.TheVariants.{Byte, Number}
use Rattle.sparc_meaning.specs.declared.arch.Arch.{Arch}
use Rattle.sparc_meaning.specs.declared.arch.ArchPhase.{ArchPhase}
use Rattle.sparc_meaning.specs.declared.arch.ArchPhase.TheVariants.{Run, Spill, Fill}
use Rattle.sparc_meaning.specs.declared.arch.End.TheVariants.{Running, Exit, Trapped}
use Rattle.sparc_meaning.specs.declared.fetched.Computed.{Computed}
use Rattle.sparc_meaning.specs.declared.fetched.Fetched.{Fetched}
use Rattle.sparc_meaning.specs.declared.fetched.Operands.{Operands}
use Rattle.sparc_meaning.specs.Applied.{applied, act_by, result_by, with_destination}
use Rattle.sparc_meaning.specs.Arch.{place, register, register_of, with_register_of}
use Rattle.sparc_meaning.specs.Computed as by
use Rattle.sparc_meaning.specs.Computed.{computed, computed_by}
use Rattle.sparc_meaning.specs.Fetched.{part_of, part_at, operands, moved}
use Rattle.sparc_meaning.specs.Forms as form
use Rattle.sparc_meaning.specs.Forms.{executed}
use Rattle.sparc_meaning.specs.Laws.{StepIsComputed}
use Rattle.sparc_meaning.specs.Step.{step, in_phase, instr_of, instr_at}
use Rattle.sparc_meaning.specs.Stepped.{Stepped, accessed, argument, branched, by_slot_to, then_to, at, pair_of, ends, next, goes_on, trapped}
use Rattle.sparc_meaning.specs.Windows.{windows_of, with_windows, window_above, window_below, one_less_kept, one_more_kept, spills_first, fills_first, spill, fill, spilled, filled, slot, slot_register, after_fill}
use Rattle.sparc_meaning.proofs.ByForm.{totals, thirds, puts_rd, puts_none, calculates, total_reads, codes_read, y_reads, move_reads, divides_reads, third_reads, third_is, third_asks, call_puts, written_is, unread, none_is, codes_unset, y_unset, taken_same, value_a, value_b, value_cc, value_y, codes_cc, codes_kept, y_written, y_kept, by_read}

-- ---- an instruction's operands are what its form reads

-- the instruction itself, where the processor stands
abbrev running : Instr → Arch → Fetched
running i s = part_at Run i s

record Reads (i : Instr) (s : Arch) (x : Operands) : Type 0 where
  first : reads_rs1 i.op ≡ true → x.a ≡ form.first i s
  second : reads_src2 i.op ≡ true → by.second i.src2 x ≡ form.second i s
  third : reads_rd i.op ≡ true → x.c ≡ register s i.rd
  argument : kind i.op ≡ kinds.TrapsIfTaken → x.c ≡ argument s
  codes : reads_cc i.op i.cond ≡ true → x.cc ≡ s.cc
  y : reads_y i.op ≡ true → x.y ≡ s.y

-- operand 2 is a register that is read, or a number
second_reads : (src : Src2) (i : Instr) (s : Arch) → i.src2 ≡ src → reads_src2 i.op ≡ true → by.second src (operands (running i s) s) ≡ form.operand src s
second_reads (Reg r) i s is e = rw (e, is) refl
second_reads (Imm z) i s is e = refl

operands_read : (i : Instr) (s : Arch) → Reads i s (operands (running i s) s)
operands_read i s = record {
  first = λ e. rw e refl;
  second = λ e. second_reads i.src2 i s refl e;
  third = λ e. rw (third_is i.op i.rd e) refl;
  argument = λ e. rw (third_asks i.op i.rd e) refl;
  codes = λ e. rw e refl;
  y = λ e. rw e refl;
}

-- ---- registers

-- `put_at`, where these are the tests of the register and its place
put_by : (zero global : Bool) (place r value : ℕ) (s v : Arch) →
    (if zero then record v { globals = s.globals; windowed = s.windowed }
    else if global then record v { globals = slice_set s.globals r value; windowed = s.windowed }
    else record v { globals = s.globals; windowed = slice_set s.windowed place value })
    ≡ record v {
      globals = (if zero then s else if global then record s { globals = slice_set s.globals r value } else record s { windowed = slice_set s.windowed place value }).globals;
      windowed = (if zero then s else if global then record s { globals = slice_set s.globals r value } else record s { windowed = slice_set s.windowed place value }).windowed;
    }
put_by true global place r value s v = refl
put_by false true place r value s v = refl
put_by false false place r value s v = refl

-- v with the registers of s, after a register of s is written
abbrev put : ℕ → ℕ → ℕ → Arch → Arch → Arch
put w r value s v = record v { globals = (with_register_of w r value s).globals; windowed = (with_register_of w r value s).windowed }

-- writing a register keeps the rest
put_at : (w r value : ℕ) (s v : Arch) → with_register_of w r value (record v { globals = s.globals; windowed = s.windowed }) ≡ put w r value s v
put_at w r value s v = put_by (r == 0) (nat_lt r 8) (place w r) r value s v

-- a register of its own value is as it was
own_by : (zero global : Bool) (place r : ℕ) (s : Arch) →
    (if zero then s else if global then record s { globals = slice_set s.globals r (if zero then 0 else if global then slice_index s.globals r else slice_index s.windowed place) }
    else record s { windowed = slice_set s.windowed place (if zero then 0 else if global then slice_index s.globals r else slice_index s.windowed place) }) ≡ s
own_by true global place r s = refl
own_by false true place r s = rw set-get_or refl
own_by false false place r s = rw set-get_or refl

own : (w r : ℕ) (s : Arch) → with_register_of w r (register_of w s r) s ≡ s
own w r s = own_by (r == 0) (nat_lt r 8) (place w r) r s

-- register 0 is never written
put_if : (zero : Bool) (w rd value : ℕ) (s : Arch) → (rd == 0) ≡ zero → with_destination (if not (rd == 0) then Some rd else None) w value s ≡ with_register_of w rd value s
put_if true w rd value s e = rw e refl
put_if false w rd value s e = rw (e, e) refl

-- so a value for the destination is a value for rd
put_rd : (writes : Bool) (o : Op) (w rd value : ℕ) (s : Arch) → writes_rd o ≡ writes → puts_rd (kind o) ≡ true → (reads_rd o ≡ false → writes_rd o ≡ false → rd ≡ 0)
    → with_destination (written_by_form o rd) w value s ≡ with_register_of w rd value s
put_rd true o w rd value s f e none = rw (written_is o rd e, f) (put_if (rd == 0) w rd value s refl)
put_rd false o w rd value s f e none = rw (written_is o rd e, f, none (unread o e f) f) refl

-- ---- what is known of a kind

-- the windows that a kind goes to
unfoldable moved_by : FormKind → Window → Window
moved_by kinds.Saves w = window_above w
moved_by kinds.Restores w = window_below w
moved_by kinds.Returns w = window_below w
moved_by _ w = w

moved_is : (o : Op) (w : Window) → moved (window_effect_of_form o) w ≡ moved_by (kind o) w
unfolding kind moved_by window_effect_of_form
moved_is op.Save w = refl
moved_is op.Restore w = refl
moved_is op.Return w = refl
moved_is op.Flushw w = refl
moved_is _ w = refl

record Parts (k : FormKind) (i : Instr) (s : Arch) (x : Operands) : Type 0 where
  is : kind i.op ≡ k
  runs : s.phase ≡ Run
  first : totals k ≡ true → x.a ≡ form.first i s
  second : totals k ≡ true → by.second i.src2 x ≡ form.second i s
  total : totals k ≡ true → by.total (running i s) x ≡ form.total i s
  third : thirds k ≡ true → x.c ≡ register s i.rd
  taken : by.is_taken (running i s) x ≡ form.is_taken i s
  windows : moved (window_effect_of i) (windows_of s) ≡ moved_by k (windows_of s)
  none : puts_none k ≡ true → written_of i ≡ None
  puts : puts_rd k ≡ true → (w value : ℕ) → with_destination (written_of i) w value s ≡ with_register_of w i.rd value s
  no_codes : calculates k ≡ false → writes_cc i.op ≡ false
  no_y : calculates k ≡ false → writes_y i.op ≡ false

-- the sum of the same operands is the same
effective_same : (a a' b b' : ℕ) → a' ≡ a → b' ≡ b → effective a' b' ≡ effective a b
effective_same a a' b b' e f = cc

parts : (k : FormKind) (i : Instr) (s : Arch) (x : Operands) → kind i.op ≡ k → s.phase ≡ Run → (reads_rd i.op ≡ false → writes_rd i.op ≡ false → i.rd ≡ 0) → Reads i s x → Parts k i s x
parts k i s x is runs unused reads = record {
  is = is;
  runs = runs;
  first = λ e. reads.first (total_reads i.op (rw is e)).first;
  second = λ e. reads.second (total_reads i.op (rw is e)).second;
  total = λ e. effective_same (form.first i s) _ (form.second i s) _ (reads.first (total_reads i.op (rw is e)).first) (reads.second (total_reads i.op (rw is e)).second);
  third = λ e. reads.third (third_reads i.op (rw is e));
  taken = taken_same i.op i s.cc x.cc (form.first i s) x.a reads.codes reads.first;
  windows = moved_is i.op (windows_of s) ∙ ap (λ (n : FormKind). moved_by n (windows_of s)) is;
  none = λ e. none_is i.op i.rd (rw is e);
  puts = λ e w value. put_rd (writes_rd i.op) i.op w i.rd value s refl (rw is e) unused;
  no_codes = λ e. codes_unset i.op (rw is e);
  no_y = λ e. y_unset i.op (rw is e);
}

-- ---- where a step ends up

-- one that writes no register
bare : (k : FormKind) (i : Instr) (s : Arch) (x : Operands) (c : Computed) (w : Window) (loaded : ℕ) → Parts k i s x → moved_by k (windows_of s) ≡ w
    → c.end ≡ Running → puts_none k ≡ true → calculates k ≡ false
    → record { state = at c.next (with_windows w s); act = act_by k (running i s) x c loaded } ≡ applied (running i s) x c loaded s
bare k i s x c w loaded p moves runs none unset = rw (p.is, runs, p.none none, p.no_codes unset, p.no_y unset, p.windows, moves, p.runs) refl

-- one that writes register r, and the codes and Y where its form sets them
lands : (k : FormKind) (i : Instr) (s : Arch) (x : Operands) (c : Computed) (w : Window) (r loaded : ℕ) → Parts k i s x → moved_by k (windows_of s) ≡ w
    → with_destination (written_of i) w.cwp (result_by k i (record c { end = Running }) loaded) s ≡ with_register_of w.cwp r (result_by k i (record c { end = Running }) loaded) s
    → record {
      state = at c.next (record (put w.cwp r (result_by k i (record c { end = Running }) loaded) s (with_windows w s)) {
        cc = if writes_cc i.op then c.cc else s.cc;
        y = if writes_y i.op then c.y else s.y;
      });
      act = act_by k (running i s) x (record c { end = Running }) loaded;
    } ≡ applied (running i s) x (record c { end = Running }) loaded s
unfolding result_by act_by written_by_form writes_cc writes_y window_effect_of_form
lands k i s x c w r loaded p moves puts = rw (p.is, p.windows, moves, puts, p.runs) refl

-- one that writes register r alone
wrote : (k : FormKind) (i : Instr) (s : Arch) (x : Operands) (c : Computed) (w : Window) (r loaded : ℕ) → Parts k i s x → moved_by k (windows_of s) ≡ w
    → with_destination (written_of i) w.cwp (result_by k i (record c { end = Running }) loaded) s ≡ with_register_of w.cwp r (result_by k i (record c { end = Running }) loaded) s
    → calculates k ≡ false
    → record {
      state = at c.next (put w.cwp r (result_by k i (record c { end = Running }) loaded) s (with_windows w s));
      act = act_by k (running i s) x (record c { end = Running }) loaded;
    } ≡ applied (running i s) x (record c { end = Running }) loaded s
unfolding result_by act_by written_by_form writes_cc writes_y window_effect_of_form
wrote k i s x c w r loaded p moves puts unset = rw (p.is, p.windows, moves, puts, p.no_codes unset, p.no_y unset, p.runs) refl

-- one that writes it and goes on to a pair
wrote_on : (k : FormKind) (i : Instr) (s : Arch) (x : Operands) (c : Computed) (w : Window) (r loaded : ℕ) (go : Arch → Arch) → Parts k i s x → moved_by k (windows_of s) ≡ w
    → with_destination (written_of i) w.cwp (result_by k i (record c { end = Running }) loaded) s ≡ with_register_of w.cwp r (result_by k i (record c { end = Running }) loaded) s
    → calculates k ≡ false
    → go (put w.cwp r (result_by k i (record c { end = Running }) loaded) s (with_windows w s)) ≡ at c.next (put w.cwp r (result_by k i (record c { end = Running }) loaded) s (with_windows w s))
    → record {
      state = go (with_register_of w.cwp r (result_by k i (record c { end = Running }) loaded) (with_windows w s));
      act = act_by k (running i s) x (record c { end = Running }) loaded;
    } ≡ applied (running i s) x (record c { end = Running }) loaded s
wrote_on k i s x c w r loaded go p moves puts unset goes =
    let does : Arch → Stepped = λ t. record { state = t; act = act_by k (running i s) x (record c { end = Running }) loaded } in
    ap (λ t. does (go t)) (put_at w.cwp r (result_by k i (record c { end = Running }) loaded) s (with_windows w s))
    ∙ (ap does goes ∙ wrote k i s x c w r loaded p moves puts unset)

-- whichever way a test goes
either : (b : Bool) (f : Fetched) (x : Operands) (loaded : ℕ) (s : Arch) (a a' : Stepped) (c c' : Computed)
    → a ≡ applied f x c loaded s → a' ≡ applied f x c' loaded s → (if b then a else a') ≡ applied f x (if b then c else c') loaded s
either true f x loaded s a a' c c' p q = p
either false f x loaded s a a' c c' p q = q

-- the two traps of an access, and else what it does
faults : (misplaced denied : Bool) (f : Fetched) (x : Operands) (c : Computed) (loaded : ℕ) (s : Arch) (done : Stepped) → done ≡ applied f x (record c { end = Running }) loaded s
    → (if misplaced then trapped 0x034 s else if denied then trapped 0x030 s else done)
    ≡ applied f x (record c { end = if misplaced then Trapped 0x034 s.pc else if denied then Trapped 0x030 s.pc else Running }) loaded s
faults true denied f x c loaded s done p = refl
faults false true f x c loaded s done p = refl
faults false false f x c loaded s done p = p

-- ---- arithmetic

-- so the values are the same
value_same : (i : Instr) (s : Arch) (x : Operands) → kind i.op ≡ kinds.Computes → Reads i s x
    → alu.value i.op x.a (by.second i.src2 x) x.cc x.y ≡ alu.value i.op (form.first i s) (form.second i s) s.cc s.y
value_same i s x is reads =
    let o = i.op in
    by_read (reads_rs1 o) (λ n. alu.value o n (by.second i.src2 x) x.cc x.y) (form.first i s) x.a reads.first (value_a o (form.first i s) x.a (by.second i.src2 x) x.cc x.y)
    ∙ (by_read (reads_src2 o) (λ n. alu.value o (form.first i s) n x.cc x.y) (form.second i s) (by.second i.src2 x) reads.second (value_b o (form.first i s) (form.second i s) (by.second i.src2 x) x.cc x.y is)
    ∙ (by_read (reads_cc o i.cond) (λ n. alu.value o (form.first i s) (form.second i s) n x.y) s.cc x.cc reads.codes (value_cc o i.cond (form.first i s) (form.second i s) s.cc x.cc x.y)
    ∙ by_read (reads_y o) (λ n. alu.value o (form.first i s) (form.second i s) s.cc n) s.y x.y reads.y (value_y o (form.first i s) (form.second i s) s.cc s.y x.y)))

-- so are the codes, where they are set
codes_same : (o : Op) (cond a a' b b' c c' : ℕ) → a' ≡ a → b' ≡ b → (reads_cc o cond ≡ true → c' ≡ c) → writes_cc o ≡ true → alu.codes o a' b' c' ≡ alu.codes o a b c
codes_same o cond a a' b b' c c' e f same sets = rw (e, f) (by_read (reads_cc o cond) (λ n. alu.codes o a b n) c c' same (codes_cc o cond a b c c' sets))

-- and so is Y
y_same : (o : Op) (a a' b b' y y' : ℕ) → a' ≡ a → b' ≡ b → writes_y o ≡ true → alu.y_register o a' b' y' ≡ alu.y_register o a b y
y_same o a a' b b' y y' e f sets = rw (e, f) (y_written o a b y y' sets)

-- so is whether it is a division by 0
fault_same : (divides : Bool) (b b' : ℕ) → (divides ≡ true → b' ≡ b) → (divides && b' == 0) ≡ (divides && b == 0)
fault_same true b b' same = rw (same refl) refl
fault_same false b b' same = refl

-- codes, or Y: those of the result where the form sets them, else as they were
set_or_kept : (writes : Bool) (c c' kept : ℕ) → (writes ≡ true → c' ≡ c) → (writes ≡ false → c ≡ kept) → c ≡ (if writes then c' else kept)
set_or_kept true c c' kept p q = sym (p refl)
set_or_kept false c c' kept p q = q refl

-- what arithmetic gives, where this is its value and these are its codes and Y
abbrev result : Bool → ℕ → ℕ → ℕ → Result AluOut DivisionByZero
result fault value c y = if fault then Err (record {}) else Ok (record { value = value; cc = c; y = y })

written_same : (fault fault' : Bool) (value value' c c' y y' : ℕ) (i : Instr) (s : Arch) (x : Operands) (loaded : ℕ) → Parts kinds.Computes i s x → fault' ≡ fault → value' ≡ value
    → c ≡ (if writes_cc i.op then c' else s.cc) → y ≡ (if writes_y i.op then y' else s.y)
    → form.written (result fault value c y) i s ≡ applied (running i s) x (by.written (result fault' value' c' y') (running i s)) loaded s
unfolding moved_by act_by result_by puts_rd
written_same true fault' value value' c c' y y' i s x loaded p same is e h = rw same refl
written_same false fault' value value' c c' y y' i s x loaded p same is e h =
    let out = by.written (Ok (record { value = value; cc = c'; y = y' })) (running i s) in
    rw (same, is) (
    ap (goes_on Nothing) (put_at s.cwp i.rd value s (record s { cc = c; y = y }))
    ∙ rw (e, h) (lands kinds.Computes i s x out (windows_of s) i.rd loaded p refl (p.puts refl s.cwp value)))

-- ---- the kinds

-- `service`, where this is its argument
abbrev serves : ℕ → ℕ → Arch → Stepped
serves number a s =
    if number == 16 then ends (Exit a) s
    else if number == 17 then goes_on (Out (Byte (a % 256))) s
    else if number == 18 then goes_on (Out (Number a)) s
    else trapped (0x100 + number) s

-- trap instructions by their number
served_is : (number : ℕ) (i : Instr) (s : Arch) (x : Operands) (loaded : ℕ) → Parts kinds.TrapsIfTaken i s x
    → serves number x.c s ≡ applied (running i s) x (by.served number (running i s) x) loaded s
unfolding moved_by act_by puts_none calculates
served_is number i s x loaded p =
    let f = running i s in
    let speaks = λ (words : Spoken). bare kinds.TrapsIfTaken i s x (record (by.plain f) { out = Some words }) (windows_of s) loaded p refl refl refl refl in
    either (number == 16) f x loaded s (ends (Exit x.c) s) _ (record (by.plain f) { end = Exit x.c }) _ refl
    (either (number == 17) f x loaded s _ _ _ _ (speaks (Byte (x.c % 256)))
    (either (number == 18) f x loaded s _ (trapped (0x100 + number) s) _ (by.traps_by (0x100 + number) f) (speaks (Number x.c)) refl))

-- a value put into rd, and on to the next instruction
puts_rd_is : (k : FormKind) (i : Instr) (s : Arch) (x : Operands) (w : Window) (value loaded : ℕ) → Parts k i s x → moved_by k (windows_of s) ≡ w → puts_rd k ≡ true → calculates k ≡ false
    → result_by k i (by.gives value (running i s)) loaded ≡ value → act_by k (running i s) x (by.gives value (running i s)) loaded ≡ Nothing
    → goes_on Nothing (with_register_of w.cwp i.rd value (with_windows w s)) ≡ applied (running i s) x (by.gives value (running i s)) loaded s
puts_rd_is k i s x w value loaded p moves writes unset is quiet =
    let c = by.gives value (running i s) in
    ap (λ act. let y : Stepped = record { state = next (with_register_of w.cwp i.rd value (with_windows w s)); act = act } in y) (sym quiet)
    ∙ (ap (λ n. let y : Stepped = record { state = next (with_register_of w.cwp i.rd n (with_windows w s)); act = act_by k (running i s) x c loaded } in y) (sym is)
    ∙ wrote_on k i s x c w i.rd loaded next p moves (p.puts writes w.cwp (result_by k i c loaded)) unset refl)

-- a move that is made, or not
moved_if : (b : Bool) (value kept : ℕ) (i : Instr) (s : Arch) (x : Operands) (loaded : ℕ) → Parts kinds.Moves i s x → kept ≡ register s i.rd
    → goes_on Nothing (if b then with_register_of s.cwp i.rd value s else s) ≡ applied (running i s) x (by.gives (if b then value else kept) (running i s)) loaded s
unfolding moved_by act_by result_by puts_rd calculates
moved_if true value kept i s x loaded p e = puts_rd_is kinds.Moves i s x (windows_of s) value loaded p refl refl refl refl refl
moved_if false value kept i s x loaded p e =
    ap (goes_on Nothing) (sym (own s.cwp i.rd s)) ∙ (ap (λ n. goes_on Nothing (with_register_of s.cwp i.rd n s)) (sym e)
    ∙ puts_rd_is kinds.Moves i s x (windows_of s) kept loaded p refl refl refl refl refl)

-- an atomic access
exchanged : (k : FormKind) (n : Size) (addr stored : ℕ) (image : ImageView) (i : Instr) (s : Arch) (x : Operands) (loaded : ℕ) → Parts k i s x → moved_by k (windows_of s) ≡ windows_of s
    → puts_rd k ≡ true → calculates k ≡ false → ((c : Computed) → result_by k i c loaded ≡ extended i.op loaded)
    → ((c : Computed) → act_by k (running i s) x c loaded ≡ Atomic (record { 0 = c.addr }) n loaded stored)
    → form.exchange n addr stored image i s loaded ≡ applied (running i s) x (by.exchange n addr image (running i s)) loaded s
exchanged k n addr stored image i s x loaded p moves writes unset result act =
    let c = record (by.plain (running i s)) { addr = addr } in
    faults (not (addr % count_of n == 0)) (not (is_readable image addr (count_of n) && is_writable image addr (count_of n))) (running i s) x c loaded s _ (
    ap (λ m. let y : Stepped = record { state = next (with_register_of s.cwp i.rd m s); act = Atomic (record { 0 = addr }) n loaded stored } in y) (sym (result c))
    ∙ (ap (λ m. let y : Stepped = record { state = next (with_register_of s.cwp i.rd (result_by k i c loaded) s); act = m } in y) (sym (act c))
    ∙ wrote_on k i s x c (windows_of s) i.rd loaded next p moves (p.puts writes s.cwp (result_by k i c loaded)) unset refl))

executed_is : (k : FormKind) (image : ImageView) (i : Instr) (s : Arch) (x : Operands) (loaded : ℕ) → Reads i s x → Parts k i s x
    → executed k image i s loaded ≡ applied (running i s) x (computed_by k image (running i s) x) loaded s
unfolding executed computed_by totals thirds puts_rd puts_none calculates moved_by act_by result_by
executed_is kinds.Traps image i s x loaded reads p = refl
executed_is kinds.BranchesOnCodes image i s x loaded reads p =
    rw p.taken (bare kinds.BranchesOnCodes i s x (record (by.plain (running i s)) {
      next = branched (i.cond == 8) (form.is_taken i s) i.annul (effective s.pc (twos_complement i.disp)) (pair_of s);
      taken = form.is_taken i s;
    }) (windows_of s) loaded p refl refl refl refl)
executed_is kinds.BranchesOnRegister image i s x loaded reads p =
    rw p.taken (bare kinds.BranchesOnRegister i s x (record (by.plain (running i s)) {
      next = branched false (form.is_taken i s) i.annul (effective s.pc (twos_complement i.disp)) (pair_of s);
      taken = form.is_taken i s;
    }) (windows_of s) loaded p refl refl refl refl)
executed_is kinds.Calls image i s x loaded reads p =
    let target = effective s.pc (twos_complement i.disp) in
    wrote_on kinds.Calls i s x (record (by.plain (running i s)) { next = by_slot_to target (pair_of s); value = s.pc }) (windows_of s) 15 loaded (then_to target) p refl
    (rw (call_puts i.op i.rd p.is) refl) refl refl
executed_is kinds.Jumps image i s x loaded reads p =
    let target = form.total i s in
    let c = record (by.plain (running i s)) { next = by_slot_to target (pair_of s); value = s.pc } in
    rw (p.total refl) (either (target % 4 == 0) (running i s) x loaded s _ (trapped 0x034 s) c (by.traps_by 0x034 (running i s))
    (wrote_on kinds.Jumps i s x c (windows_of s) i.rd loaded (then_to target) p refl (p.puts refl s.cwp s.pc) refl refl) refl)
executed_is kinds.Returns image i s x loaded reads p =
    let target = form.total i s in
    let c = record (by.plain (running i s)) { next = by_slot_to target (pair_of s); value = s.pc } in
    rw (p.total refl) (either (target % 4 == 0) (running i s) x loaded s _ (trapped 0x034 s) c (by.traps_by 0x034 (running i s))
    (bare kinds.Returns i s x c (window_below (windows_of s)) loaded p refl refl refl refl) refl)
executed_is kinds.Moves image i s x loaded reads p =
    rw (p.taken, reads.second (move_reads i.op p.is)) (moved_if (form.is_taken i s) (form.second i s) x.c i s x loaded p (p.third refl))
executed_is kinds.TrapsIfTaken image i s x loaded reads p =
    let f = running i s in
    rw (p.taken, p.total refl) (
    ap (λ a. let y : Stepped = if form.is_taken i s then serves (form.total i s % 128) a s else goes_on Nothing s in y) (sym (reads.argument p.is))
    ∙ either (form.is_taken i s) f x loaded s _ _ _ _ (served_is (form.total i s % 128) i s x loaded p)
    (bare kinds.TrapsIfTaken i s x (by.plain f) (windows_of s) loaded p refl refl refl refl))
executed_is kinds.SetsHigh image i s x loaded reads p = puts_rd_is kinds.SetsHigh i s x (windows_of s) (twos_complement i.disp) loaded p refl refl refl refl refl
executed_is kinds.ReadsPc image i s x loaded reads p = puts_rd_is kinds.ReadsPc i s x (windows_of s) s.pc loaded p refl refl refl refl refl
executed_is kinds.Fences image i s x loaded reads p = bare kinds.Fences i s x (by.plain (running i s)) (windows_of s) loaded p refl refl refl refl
executed_is kinds.DoesNothing image i s x loaded reads p = bare kinds.DoesNothing i s x (by.plain (running i s)) (windows_of s) loaded p refl refl refl refl
executed_is kinds.Saves image i s x loaded reads p =
    rw (p.total refl) (puts_rd_is kinds.Saves i s x (window_above (windows_of s)) (form.total i s) loaded p refl refl refl refl refl)
executed_is kinds.Restores image i s x loaded reads p =
    rw (p.total refl) (puts_rd_is kinds.Restores i s x (window_below (windows_of s)) (form.total i s) loaded p refl refl refl refl refl)
executed_is (kinds.Loads n) image i s x loaded reads p =
    let addr = form.total i s in
    let c = record (by.plain (running i s)) { addr = addr } in
    rw (p.total refl) (faults (not (addr % count_of n == 0)) (not (is_readable image addr (count_of n))) (running i s) x c loaded s _
    (wrote_on (kinds.Loads n) i s x c (windows_of s) i.rd loaded next p refl (p.puts refl s.cwp _) refl refl))
executed_is (kinds.Stores n) image i s x loaded reads p =
    let addr = form.total i s in
    let c = record (by.plain (running i s)) { addr = addr } in
    rw (p.total refl) (
    ap (λ m. accessed n addr (is_writable image addr (count_of n)) (goes_on (Store (record { 0 = addr }) n (low_bytes n m)) s) s) (sym (p.third refl))
    ∙ faults (not (addr % count_of n == 0)) (not (is_writable image addr (count_of n))) (running i s) x c loaded s _
    (bare (kinds.Stores n) i s x c (windows_of s) loaded p refl refl refl refl))
executed_is kinds.LoadsAndStoresByte image i s x loaded reads p =
    rw (p.total refl) (exchanged kinds.LoadsAndStoresByte B1 (form.total i s) 0xFF image i s x loaded p refl refl refl (λ c. refl) (λ c. refl))
executed_is kinds.Swaps image i s x loaded reads p =
    rw (p.total refl) (
    ap (λ m. form.exchange B4 (form.total i s) (low_bytes B4 m) image i s loaded) (sym (p.third refl))
    ∙ exchanged kinds.Swaps B4 (form.total i s) (low_bytes B4 x.c) image i s x loaded p refl refl refl (λ c. refl) (λ c. refl))
executed_is (kinds.ComparesAndSwaps n) image i s x loaded reads p =
    ap (λ a. form.exchange n a (form.kept_or_swapped n i s loaded) image i s loaded) (sym (p.first refl))
    ∙ (ap (λ b. form.exchange n x.a (swapped loaded b (low_bytes n (register s i.rd)) n) image i s loaded) (sym (p.second refl))
    ∙ (ap (λ m. form.exchange n x.a (swapped loaded (by.second i.src2 x) (low_bytes n m) n) image i s loaded) (sym (p.third refl))
    ∙ exchanged (kinds.ComparesAndSwaps n) n x.a (swapped loaded (by.second i.src2 x) (low_bytes n x.c) n) image i s x loaded p refl refl refl (λ c. refl) (λ c. refl)))
executed_is kinds.Computes image i s x loaded reads p =
    let o = i.op in
    let a = form.first i s in
    let b = form.second i s in
    let b' = by.second i.src2 x in
    written_same (alu.divides o && b == 0) (alu.divides o && b' == 0) (alu.value o a b s.cc s.y) (alu.value o x.a b' x.cc x.y)
    (alu.codes o a b s.cc) (alu.codes o x.a b' x.cc) (alu.y_register o a b s.y) (alu.y_register o x.a b' x.y) i s x loaded p
    (fault_same (alu.divides o) b b' (λ e. reads.second (divides_reads o e)))
    (value_same i s x p.is reads)
    (set_or_kept (writes_cc o) _ _ s.cc
    (λ e. codes_same o i.cond a x.a b b' s.cc x.cc (reads.first (codes_read o e).first) (reads.second (codes_read o e).second) reads.codes e) (codes_kept o a b s.cc))
    (set_or_kept (writes_y o) _ _ s.y (λ e. y_same o a x.a b b' s.y x.y (reads.first (y_reads o e).first) (reads.second (y_reads o e).second) e) (y_kept o a b s.y))

-- ---- spills and fills

-- where a step of a spill leads
spill_lands : (last : Bool) (k : ℕ) (s : Arch)
    → (if last then with_windows (one_less_kept (windows_of s)) (record s { phase = Run }) else record s { phase = Spill (k + 1) })
    ≡ record (with_windows (if last then one_less_kept (windows_of s) else windows_of s) s) { phase = if last then Run else Spill (k + 1) }
spill_lands true k s = refl
spill_lands false k s = refl

-- of a fill
fill_lands : (last : Bool) (k : ℕ) (s : Arch)
    → (if last then with_windows (one_more_kept (windows_of s)) (record s { phase = Run }) else record s { phase = Fill (k + 1) })
    ≡ record (with_windows (if last then one_more_kept (windows_of s) else windows_of s) s) { phase = if last then Run else Fill (k + 1) }
fill_lands true k s = refl
fill_lands false k s = refl

spill_is : (k : ℕ) (image : ImageView) (i : Instr) (s : Arch) (loaded : ℕ) → let f = part_at (Spill k) i s in let x = operands f s in spill k image s ≡ applied f x (computed image f x) loaded s
spill_is k image i s loaded =
    let f = part_at (Spill k) i s in
    let addr = slot (spilled s) s k in
    let stored = register_of (spilled s) s (slot_register k) in
    faults (not (addr % 8 == 0)) (not (is_writable image addr 8)) f (operands f s) (record (by.plain f) { addr = addr; next = pair_of s }) loaded s _
    (ap (λ (t : Arch). let y : Stepped = record { state = t; act = Store (record { 0 = addr }) B8 stored } in y) (spill_lands (k == 15) k s))

fill_is : (k : ℕ) (image : ImageView) (i : Instr) (s : Arch) (loaded : ℕ) → let f = part_at (Fill k) i s in let x = operands f s in fill k image s loaded ≡ applied f x (computed image f x) loaded s
fill_is k image i s loaded =
    let f = part_at (Fill k) i s in
    let w = filled s in
    let addr = slot w s k in
    let r = slot_register k in
    faults (not (addr % 8 == 0)) (not (is_readable image addr 8)) f (operands f s) (record (by.plain f) { addr = addr; next = pair_of s }) loaded s _ (
    ap (λ (t : Arch). let y : Stepped = record { state = after_fill k t; act = Load (record { 0 = addr }) B8 loaded } in y) (put_at w r loaded s s)
    ∙ ap (λ (t : Arch). let y : Stepped = record { state = t; act = Load (record { 0 = addr }) B8 loaded } in y) (fill_lands (k == 15) k (put w r loaded s s)))

-- ---- the step

-- an instruction, or the first step of what it needs first
instr_is : (spills fills : Bool) (image : ImageView) (i : Instr) (s : Arch) (loaded : ℕ) → s.phase ≡ Run → (reads_rd i.op ≡ false → writes_rd i.op ≡ false → i.rd ≡ 0)
    → let f = part_at (if spills then Spill 0 else if fills then Fill 0 else Run) i s in let x = operands f s in
    (if spills then spill 0 image s else if fills then fill 0 image s loaded else executed (kind i.op) image i s loaded) ≡ applied f x (computed image f x) loaded s
instr_is true fills image i s loaded runs unused = spill_is 0 image i s loaded
instr_is false true image i s loaded runs unused = fill_is 0 image i s loaded
instr_is false false image i s loaded runs unused =
    let x = operands (running i s) s in
    let reads = operands_read i s in
    executed_is (kind i.op) image i s x loaded reads (parts (kind i.op) i s x refl runs unused reads)

-- where there is no word the trap has no rd
no_rd : (word : Option ℕ) → reads_rd (instr_of word).op ≡ false → writes_rd (instr_of word).op ≡ false → (instr_of word).rd ≡ 0
no_rd None = λ reads writes. refl
no_rd (Some word) = unused_rd word

phase_is : (phase : ArchPhase) (image : ImageView) (s : Arch) (loaded : ℕ) → s.phase ≡ phase
    → let i = instr_at image s.pc in let f = part_at (part_of phase i.op s) i s in let x = operands f s in in_phase phase image s loaded ≡ applied f x (computed image f x) loaded s
phase_is Run image s loaded at_phase =
    let i = instr_at image s.pc in
    instr_is (spills_first i.op s) (fills_first i.op s) image i s loaded at_phase (no_rd (fetched image s.pc))
phase_is (Spill k) image s loaded at_phase = spill_is k image (instr_at image s.pc) s loaded
phase_is (Fill k) image s loaded at_phase = fill_is k image (instr_at image s.pc) s loaded

pub step_is_computed : StepIsComputed
unfolding step
step_is_computed image s value = phase_is s.phase image s value refl
