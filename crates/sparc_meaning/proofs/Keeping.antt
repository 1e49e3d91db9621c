-- What a window held before its spill it holds again after its fill.
use Rattle.std.proofs.Common.{◌≡◌, ◌≢◌, List, ◌<◌, ◌≤◌, ◌+◌, ◌-◌, ◌*◌, ◌%◌, ◌==◌, ℕ, zero, suc, Bool, true, false, nat_lt, if◌then◌else◌, length, Some, refl, sym, subst, ap, ◌∙◌, slice_index, slice_set, arith, length-set, add-one}
use Rattle.std.proofs.lemmas.Bool.{eqb-true, eqb-false, ltb-true, ltb-false, le-ltb, ne_eqb}
use Rattle.std.proofs.lemmas.List.{get_or-set_same, get_or-set_other}
use Rattle.rsim_base.specs.declared.memory.Size.TheVariants.{B8}
use Rattle.elf64_load.specs.Image.{ImageView, fetched, is_readable, is_writable}
use Rattle.sparc_decode.specs.declared.instr.Instr.{Instr}
use Rattle.sparc_decode.specs.declared.instr.Op.{Op}
use Rattle.sparc_decode.specs.declared.instr.Op.TheVariants.{Restore}
use Rattle.sparc_decode.specs.Instr.{instr}
use Rattle.sparc_decode.specs.Facts.{in_range}
use Rattle.sparc_decode.specs.Kinds.{kind}
use Rattle.sparc_meaning.specs.declared.acts.Act.TheVariants.{Nothing, Load, Store}
use Rattle.sparc_meaning.specs.declared.arch.Arch.{Arch}
use Rattle.sparc_meaning.specs.declared.arch.ArchPhase.{ArchPhase}
use Rattle.sparc_meaning.specs.declared.arch.ArchPhase.TheVariants.{Run, Spill, Fill}
use Rattle.sparc_meaning.specs.Arch.{above, below, place, register, register_of, with_register, with_register_of}
use Rattle.sparc_meaning.specs.Forms.{executed, total}
use Rattle.sparc_meaning.specs.KeptWindows.{CanBeKept, IsGivenBack, MustFill, MustSpill, WindowsAreKept, act_after, steps}
use Rattle.sparc_meaning.specs.Step.{step, in_phase, of_instr}
use Rattle.sparc_meaning.specs.Stepped.{Stepped, accessed, goes_on, next}
use Rattle.sparc_meaning.specs.Windows.{restored, spills_first, fills_first, spilled, filled, slot, slot_register, after_spill, after_fill, spill, fill}
use Rattle.sparc_meaning.proofs.Running.{step_runs}

-- ---- places

-- `place_at`, where these are the tests of the register's number
place_by : (outs locals : Bool) (w r : ℕ) → nat_lt r 16 ≡ outs → nat_lt r 24 ≡ locals → 16 ≤ r → r < 32 →
    (if outs then 16 * above w + (r - 8) else if locals then 16 * w + 8 + (r - 16) else 16 * w + (r - 24)) ≡ 16 * w + (r + 8) % 16
place_by true locals w r e f low high = absurd (omega (arith, ltb-true r 16 e))
place_by false true w r e f low high = omega (arith, ltb-true r 24 f)
place_by false false w r e f low high = omega (arith, ltb-false r 24 f)

-- where a local or an in of a window stands
place_at : (w r : ℕ) → 16 ≤ r → r < 32 → place w r ≡ 16 * w + (r + 8) % 16
place_at w r low high = place_by (nat_lt r 16) (nat_lt r 24) w r refl refl low high

-- a local or an in is read at its place
register_at : (w r : ℕ) (s : Arch) → 16 ≤ r → register_of w s r ≡ slice_index s.windowed (place w r)
register_at w r s low =
    let e : (r == 0) ≡ false = ne_eqb r 0 (λ is. omega arith) in
    let f : nat_lt r 8 ≡ false = le-ltb r 8 (omega arith) in
    rw (e, f) refl

-- and is written there
with_register_at : (w r value : ℕ) (s : Arch) → 16 ≤ r → with_register_of w r value s ≡ record s { windowed = slice_set s.windowed (place w r) value }
with_register_at w r value s low =
    let e : (r == 0) ≡ false = ne_eqb r 0 (λ is. omega arith) in
    let f : nat_lt r 8 ≡ false = le-ltb r 8 (omega arith) in
    rw (e, f) refl

-- ---- steps whose tests pass

-- an access of eight bytes is made where its tests pass
accessed_done : (addr : ℕ) (allowed : Bool) (done : Stepped) (s : Arch) → (addr % 8 == 0) ≡ true → allowed ≡ true → accessed B8 addr allowed done s ≡ done
accessed_done addr allowed done s e f = rw (e, f) refl

-- so is a step of a spill
spill_done : (k : ℕ) (image : ImageView) (s : Arch) → (slot (spilled s) s k % 8 == 0) ≡ true → is_writable image (slot (spilled s) s k) 8 ≡ true →
    spill k image s ≡ record { state = after_spill k s; act = Store (record { 0 = slot (spilled s) s k }) B8 (register_of (spilled s) s (slot_register k)) }
spill_done k image s e f = accessed_done (slot (spilled s) s k) _ _ s e f

-- and a step of a fill
fill_done : (k : ℕ) (image : ImageView) (s : Arch) (value : ℕ) → (slot (filled s) s k % 8 == 0) ≡ true → is_readable image (slot (filled s) s k) 8 ≡ true →
    fill k image s value ≡ record { state = after_fill k (with_register_of (filled s) (slot_register k) value s); act = Load (record { 0 = slot (filled s) s k }) B8 value }
fill_done k image s value e f = accessed_done (slot (filled s) s k) _ _ s e f

-- before its last step a spill goes on
after_spill_more : (k : ℕ) (s : Arch) → k < 15 → after_spill k s ≡ record s { phase = Spill (k + 1) }
after_spill_more k s bound = let e : (k == 15) ≡ false = ne_eqb k 15 (λ is. omega arith) in rw e refl

-- and so does a fill
after_fill_more : (k : ℕ) (s : Arch) → k < 15 → after_fill k s ≡ record s { phase = Fill (k + 1) }
after_fill_more k s bound = let e : (k == 15) ≡ false = ne_eqb k 15 (λ is. omega arith) in rw e refl

-- ---- a step is one of a spill or fill

-- a spill that has begun goes on
spill_goes_on : (k : ℕ) (image : ImageView) (u : Arch) (value : ℕ) → u.phase ≡ Spill k → step image u value ≡ spill k image u
unfolding step
spill_goes_on k image u value e = ap (λ (p : ArchPhase). in_phase p image u value) e

-- and so does a fill
fill_goes_on : (k : ℕ) (image : ImageView) (u : Arch) (value : ℕ) → u.phase ≡ Fill k → step image u value ≡ fill k image u value
unfolding step
fill_goes_on k image u value e = ap (λ (p : ArchPhase). in_phase p image u value) e

-- a step that must spill first begins a spill
spill_begins : (image : ImageView) (s : Arch) (value : ℕ) → MustSpill image s → step image s value ≡ spill 0 image s
spill_begins image s value must = step_runs image must.word s value must.runs must.stands ∙ rw must.due refl

-- RESTORE spills nothing
spills_nothing : (o : Op) (t : Arch) → o ≡ Restore → spills_first o t ≡ false
unfolding spills_first
spills_nothing o t e = rw e refl

-- it fills where there is no window to restore from
fills_at : (o : Op) (t : Arch) → o ≡ Restore → fills_first o t ≡ (t.canrestore == 0)
unfolding fills_first
fills_at o t e = rw e refl

-- then it fills first
restore_fills : (i : Instr) (image : ImageView) (t : Arch) (value : ℕ) → i.op ≡ Restore → t.canrestore ≡ 0 → of_instr i image t value ≡ fill 0 image t value
restore_fills i image t value e f =
    let fills : fills_first i.op t ≡ true = fills_at i.op t e ∙ rw f refl in
    rw (spills_nothing i.op t e, fills) refl

-- a step that must fill first begins a fill
fill_begins : (image : ImageView) (t : Arch) (value : ℕ) → MustFill image t → step image t value ≡ fill 0 image t value
fill_begins image t value must =
    step_runs image must.word t value must.runs must.stands ∙ restore_fills (instr must.word) image t value must.restores must.due

-- what RESTORE does of itself
restore_executed : (o : Op) (image : ImageView) (i : Instr) (u : Arch) (value : ℕ) → o ≡ Restore
    → executed (kind o) image i u value ≡ goes_on Nothing (with_register i.rd (total i u) (restored u))
unfolding kind executed
restore_executed o image i u value e = ap (λ (o : Op). executed (kind o) image i u value) e

-- where there is a window to restore from it fills nothing
restore_goes_on : (i : Instr) (image : ImageView) (u : Arch) (value : ℕ) → i.op ≡ Restore → u.canrestore ≡ 1
    → of_instr i image u value ≡ goes_on Nothing (with_register i.rd (total i u) (restored u))
restore_goes_on i image u value e f =
    let fills : fills_first i.op u ≡ false = fills_at i.op u e ∙ rw f refl in
    let runs : of_instr i image u value ≡ executed (kind i.op) image i u value = rw (spills_nothing i.op u e, fills) refl in
    runs ∙ restore_executed i.op image i u value e

-- ---- a spill

-- u has the windows and the globals of s
record Same (s u : Arch) : Type 0 where
  windowed : u.windowed ≡ s.windowed
  globals : u.globals ≡ s.globals
  cwp : u.cwp ≡ s.cwp
  cansave : u.cansave ≡ s.cansave

-- so the same window is spilled
spilled_same : (s u : Arch) → Same s u → spilled u ≡ spilled s
spilled_same s u same = rw (same.cwp, same.cansave) refl

-- its registers are the same
register_same : (w r : ℕ) (s u : Arch) → Same s u → register_of w u r ≡ register_of w s r
register_same w r s u same = rw (same.globals, same.windowed) refl

-- and so are its slots
slot_same : (w k : ℕ) (s u : Arch) → Same s u → slot w u k ≡ slot w s k
slot_same w k s u same = rw (same.windowed) refl

-- the tests of step k, at the state after the steps before
record Passes (image : ImageView) (w k : ℕ) (s u : Arch) : Type 0 where
  at : slot w u k ≡ slot w s k
  aligned : (slot w u k % 8 == 0) ≡ true
  writable : is_writable image (slot w u k) 8 ≡ true
  readable : is_readable image (slot w u k) 8 ≡ true

-- they pass where the window can be kept
passes : (image : ImageView) (w k : ℕ) (s u : Arch) → k < 16 → slot w u k ≡ slot w s k → CanBeKept image w s → Passes image w k s u
passes image w k s u bound e can = record {
  at = e;
  aligned = rw e (can k bound).0;
  writable = rw e (can k bound).1;
  readable = rw e (can k bound).2;
}

-- where they pass, step k of a spill stores its register
spill_at : (k w : ℕ) (image : ImageView) (s u : Arch) → spilled u ≡ w → Passes image w k s u →
    spill k image u ≡ record { state = after_spill k u; act = Store (record { 0 = slot w s k }) B8 (register_of w u (16 + k)) }
spill_at k w image s u e p = spill_done k image u (rw e p.aligned) (rw e p.writable) ∙ rw (e, p.at) refl

-- and step k of a fill loads it
fill_at : (k w value : ℕ) (image : ImageView) (s u : Arch) → filled u ≡ w → Passes image w k s u →
    fill k image u value ≡ record { state = after_fill k (with_register_of w (16 + k) value u); act = Load (record { 0 = slot w s k }) B8 value }
fill_at k w value image s u e p = fill_done k image u value (rw e p.aligned) (rw e p.readable) ∙ rw (e, p.at) refl

-- what a spill of s stores is what s has
spill_more : (k w : ℕ) (image : ImageView) (s u : Arch) → k < 16 → w ≡ spilled s → Same s u → CanBeKept image w s →
    spill k image u ≡ record { state = after_spill k u; act = Store (record { 0 = slot w s k }) B8 (register_of w s (16 + k)) }
spill_more k w image s u bound is same can =
    spill_at k w image s u (spilled_same s u same ∙ sym is) (passes image w k s u bound (slot_same w k s u same) can) ∙ rw (register_same w (16 + k) s u same) refl

-- u is the state before step k of the spill of s
record Spilling (image : ImageView) (k : ℕ) (s u : Arch) : Type 0 where
  same : Same s u
  step_is : (value : ℕ) → step image u value ≡ spill k image u

-- the state after a step of a spill is the one before the next
spilling_next : (image : ImageView) (k : ℕ) (s u v : Arch) → v ≡ record u { phase = Spill (k + 1) } → Same s u → Spilling image (suc k) s v
spilling_next image k s u v e same = record {
  same = record { windowed = rw e same.windowed; globals = rw e same.globals; cwp = rw e same.cwp; cansave = rw e same.cansave };
  step_is = λ value. spill_goes_on (suc k) image v value (ap (λ (x : Arch). x.phase) e ∙ ap Spill (add-one k));
}

-- so after k steps of s its spill is before its step k
spill_spills : (k w : ℕ) (image : ImageView) (values : ℕ → ℕ) (s : Arch) → k ≤ 15 → MustSpill image s → w ≡ spilled s → CanBeKept image w s
    → Spilling image k s (steps k image values s)
spill_spills zero w image values s bound must is can =
    record { same = record { windowed = refl; globals = refl; cwp = refl; cansave = refl }; step_is = λ value. spill_begins image s value must }
spill_spills (suc k) w image values s bound must is can =
    let u = steps k image values s in
    let now = spill_spills k w image values s (omega arith) must is can in
    spilling_next image k s u (steps (suc k) image values s)
    (ap (λ (x : Stepped). x.state) (now.step_is (values k) ∙ spill_more k w image s u (omega arith) is now.same can) ∙ after_spill_more k u (omega arith)) now.same

-- and its step k stores what s has
spill_stores : (k w : ℕ) (image : ImageView) (values : ℕ → ℕ) (s : Arch) → k < 16 → MustSpill image s → w ≡ spilled s → CanBeKept image w s →
    act_after k image values s ≡ Store (record { 0 = slot w s k }) B8 (register_of w s (16 + k))
spill_stores k w image values s bound must is can =
    let u = steps k image values s in
    let now = spill_spills k w image values s (omega arith) must is can in
    ap (λ (x : Stepped). x.act) (now.step_is (values k) ∙ spill_more k w image s u bound is now.same can)

-- ---- a fill

-- q is outside the locals and ins of w
record Outside (w q : ℕ) : Type 0 where
  is : 16 * w ≤ q → 16 * w + 16 ≤ q

-- u is t with the first k registers of those that are kept of w
record Filled (w k : ℕ) (values : ℕ → ℕ) (t u : Arch) : Type 0 where
  globals : u.globals ≡ t.globals
  pc : u.pc ≡ t.pc
  cwp : u.cwp ≡ t.cwp
  canrestore : u.canrestore ≡ t.canrestore
  len : length u.windowed ≡ 128
  got : (j : ℕ) → j < k → slice_index u.windowed (place w (16 + j)) ≡ values j
  rest : (q : ℕ) → Outside w q → slice_index u.windowed q ≡ slice_index t.windowed q

-- w is filled from t on, from where it is spilled from s on
record Fills (image : ImageView) (w : ℕ) (s t : Arch) : Type 0 where
  must : MustFill image t
  low : w < 8
  is : w ≡ filled t
  pointer : register_of w t 14 ≡ register_of w s 14
  can : CanBeKept image w s
  len : length t.windowed ≡ 128

-- `set_more`'s registers, by whether one is the one that is written
set_got_by : (b : Bool) (w k j : ℕ) (values : ℕ → ℕ) (xs : List ℕ) → (j == k) ≡ b → w < 8 → k < 16 → length xs ≡ 128 → j < k + 1 →
    ((j : ℕ) → j < k → slice_index xs (place w (16 + j)) ≡ values j) →
    slice_index (slice_set xs (place w (16 + k)) (values k)) (place w (16 + j)) ≡ values j
set_got_by true w k j values xs e low bound len below got =
    let is : j ≡ k = eqb-true j k e in
    rw is (get_or-set_same xs (place w (16 + k)) (values k) 0 (omega (arith, place_at w (16 + k) (omega arith) (omega arith))))
set_got_by false w k j values xs e low bound len below got =
    let differs : j ≢ k = eqb-false j k e in
    get_or-set_other xs (place w (16 + k)) (place w (16 + j)) (values k) 0
    (λ is. differs (omega (arith, is, place_at w (16 + k) (omega arith) (omega arith), place_at w (16 + j) (omega arith) (omega arith))))
    ∙ got j (omega arith)

-- the rest stays
set_rest : (w k q : ℕ) (values : ℕ → ℕ) (t u : Arch) → k < 16 → Filled w k values t u → Outside w q →
    slice_index (slice_set u.windowed (place w (16 + k)) (values k)) q ≡ slice_index t.windowed q
set_rest w k q values t u bound f outside =
    get_or-set_other u.windowed (place w (16 + k)) q (values k) 0 (λ is. omega (arith, is, outside.is, place_at w (16 + k) (omega arith) (omega arith)))
    ∙ f.rest q outside

-- with one register more
set_more : (w k : ℕ) (values : ℕ → ℕ) (t u : Arch) → w < 8 → k < 16 → Filled w k values t u
    → Filled w (k + 1) values t (record u { windowed = slice_set u.windowed (place w (16 + k)) (values k) })
set_more w k values t u low bound f = record {
  globals = f.globals;
  pc = f.pc;
  cwp = f.cwp;
  canrestore = f.canrestore;
  len = length-set u.windowed (place w (16 + k)) (values k) ∙ f.len;
  got = λ j below. set_got_by (j == k) w k j values u.windowed refl low bound f.len below f.got;
  rest = λ q outside. set_rest w k q values t u bound f outside;
}

-- t's stack pointer of w is where the fill does not write
slot_kept : (w k j : ℕ) (values : ℕ → ℕ) (t u : Arch) → w < 8 → Filled w k values t u → slot w u j ≡ slot w t j
slot_kept w k j values t u low f = rw (f.rest (place w 14) (record { is = λ at. omega arith })) refl

-- the slots of w in t are those in s
slot_agrees : (w j : ℕ) (s t : Arch) → register_of w t 14 ≡ register_of w s 14 → slot w t j ≡ slot w s j
slot_agrees w j s t e = rw e refl

-- step k of a fill loads what it finds, from where the spill of s stores it
fill_more : (k w : ℕ) (image : ImageView) (values : ℕ → ℕ) (s t u : Arch) → k < 16 → Fills image w s t → Filled w k values t u →
    fill k image u (values k) ≡ record { state = after_fill k (with_register_of w (16 + k) (values k) u); act = Load (record { 0 = slot w s k }) B8 (values k) }
fill_more k w image values s t u bound p f =
    fill_at k w (values k) image s u (ap below f.cwp ∙ sym p.is)
    (passes image w k s u bound (slot_kept w k k values t u p.low f ∙ slot_agrees w k s t p.pointer) p.can)

-- u is the state before step k of the fill of t
record Filling (image : ImageView) (w k : ℕ) (values : ℕ → ℕ) (t u : Arch) : Type 0 where
  filled : Filled w k values t u
  step_is : (value : ℕ) → step image u value ≡ fill k image u value

-- the state after a step of a fill is the one before the next
filling_next : (image : ImageView) (w k : ℕ) (values : ℕ → ℕ) (t u v : Arch) → v ≡ record u { phase = Fill (k + 1) }
    → Filled w (suc k) values t u → Filling image w (suc k) values t v
filling_next image w k values t u v e f = record {
  filled = rw e (record { globals = f.globals; pc = f.pc; cwp = f.cwp; canrestore = f.canrestore; len = f.len; got = f.got; rest = f.rest });
  step_is = λ value. fill_goes_on (suc k) image v value (ap (λ (x : Arch). x.phase) e ∙ ap Fill (add-one k));
}

-- so after k steps of t its fill is before its step k
fill_fills : (k w : ℕ) (image : ImageView) (values : ℕ → ℕ) (s t : Arch) → k ≤ 15 → Fills image w s t → Filling image w k values t (steps k image values t)
fill_fills zero w image values s t bound p = record {
  filled = record { globals = refl; pc = refl; cwp = refl; canrestore = refl; len = p.len; got = λ j below. absurd (omega arith); rest = λ q outside. refl };
  step_is = λ value. fill_begins image t value p.must;
}
fill_fills (suc k) w image values s t bound p =
    let u = steps k image values t in
    let now = fill_fills k w image values s t (omega arith) p in
    let v = record u { windowed = slice_set u.windowed (place w (16 + k)) (values k) } in
    filling_next image w k values t v (steps (suc k) image values t)
    (ap (λ (x : Stepped). x.state) (now.step_is (values k) ∙ fill_more k w image values s t u (omega arith) p now.filled)
    ∙ ap (after_fill k) (with_register_at w (16 + k) (values k) u (omega arith)) ∙ after_fill_more k v (omega arith))
    (rw (add-one k) at (set_more w k values t u p.low (omega arith) now.filled))

-- and its step k loads
fill_loads : (k w : ℕ) (image : ImageView) (values : ℕ → ℕ) (s t : Arch) → k < 16 → Fills image w s t →
    act_after k image values t ≡ Load (record { 0 = slot w s k }) B8 (values k)
fill_loads k w image values s t bound p =
    let u = steps k image values t in
    let now = fill_fills k w image values s t (omega arith) p in
    ap (λ (x : Stepped). x.act) (now.step_is (values k) ∙ fill_more k w image values s t u bound p now.filled)

-- the state after the last step
record Done (w : ℕ) (values : ℕ → ℕ) (t u : Arch) : Type 0 where
  filled : Filled w 16 values t (record u { canrestore = t.canrestore })
  restorable : u.canrestore ≡ t.canrestore + 1
  over : u.phase ≡ Run

-- a state with all sixteen registers, in phase Run, is such a state
done_as : (w : ℕ) (values : ℕ → ℕ) (t u v : Arch) → v ≡ record u { phase = Run; cansave = u.cansave - 1; canrestore = u.canrestore + 1 }
    → Filled w 16 values t u → Done w values t v
done_as w values t u v e f = rw e (record {
  filled = record { globals = f.globals; pc = f.pc; cwp = f.cwp; canrestore = refl; len = f.len; got = f.got; rest = f.rest };
  restorable = rw f.canrestore refl;
  over = refl;
})

-- the last step of the fill leads to one
fill_done_last : (w : ℕ) (image : ImageView) (values : ℕ → ℕ) (s t u v : Arch) → Fills image w s t → v ≡ (step image u (values 15)).state
    → Filling image w 15 values t u → Done w values t v
fill_done_last w image values s t u v p at now =
    done_as w values t (record u { windowed = slice_set u.windowed (place w 31) (values 15) }) v
    (at ∙ ap (λ (x : Stepped). x.state) (now.step_is (values 15) ∙ fill_more 15 w image values s t u (omega arith) p now.filled))
    (set_more w 15 values t u p.low (omega arith) now.filled)

-- so it is the state after sixteen steps
fill_whole : (w : ℕ) (image : ImageView) (values : ℕ → ℕ) (s t : Arch) → Fills image w s t → Done w values t (steps 16 image values t)
fill_whole w image values s t p =
    fill_done_last w image values s t (steps 15 image values t) (steps 16 image values t) p refl (fill_fills 15 w image values s t (omega arith) p)

-- then w has what it had in s
filled_back : (w r : ℕ) (s t u : Arch) → Done w (λ k. register_of w s (16 + k)) t u → 16 ≤ r → r < 32 → register_of w u r ≡ register_of w s r
filled_back w r s t u d low high =
    let j = r - 16 in
    let e : 16 + j ≡ r = omega arith in
    let bound : j < 16 = omega arith in
    subst (λ (r : ℕ). register_of w u r ≡ register_of w s r) e (register_at w (16 + j) u (omega arith) ∙ d.filled.got j bound)

-- and the other windows have what they had in t
others_at : (w v r : ℕ) (values : ℕ → ℕ) (t u : Arch) → Done w values t u → v < 8 → v ≢ w → 16 ≤ r → r < 32 → register_of v u r ≡ register_of v t r
others_at w v r values t u d bound differs low high =
    register_at v r u low ∙ d.filled.rest (place v r) (record { is = λ at. omega (arith, at, place_at v r low high) }) ∙ sym (register_at v r t low)

-- ---- the RESTORE after the fill

-- a register from 8 on stands elsewhere than another that is a local or an in of the same window
place_differs : (outs : Bool) (w r rd : ℕ) → nat_lt rd 16 ≡ outs → w < 8 → 8 ≤ rd → rd < 32 → 16 ≤ r → r < 32 → r ≢ rd → place w r ≢ place w rd
place_differs true w r rd e bound from within low high differs =
    let at : place w rd ≡ 16 * above w + (rd - 8) = rw e refl in
    λ is. omega (arith, is, at, place_at w r low high, ltb-true rd 16 e)
place_differs false w r rd e bound from within low high differs =
    let from : 16 ≤ rd = ltb-false rd 16 e in
    λ is. differs (omega (arith, is, place_at w rd from within, place_at w r low high))

-- v is u with at most a register written, which is none of the locals and ins of the current window but rd
record Writes (rd : ℕ) (u v : Arch) : Type 0 where
  cwp : v.cwp ≡ u.cwp
  keeps : (r : ℕ) → 16 ≤ r → r < 32 → r ≢ rd → register_of u.cwp v r ≡ register_of u.cwp u r

-- `writes`, where these are the tests of the register's number
writes_by : (none global : Bool) (rd value : ℕ) (u : Arch) → (rd == 0) ≡ none → nat_lt rd 8 ≡ global → u.cwp < 8 → rd < 32 →
    Writes rd u (if none then u else if global then record u { globals = slice_set u.globals rd value } else record u { windowed = slice_set u.windowed (place u.cwp rd) value })
writes_by true global rd value u e f bound within = record { cwp = refl; keeps = λ r low high differs. refl }
writes_by false true rd value u e f bound within =
    let v = record u { globals = slice_set u.globals rd value } in
    record { cwp = refl; keeps = λ r low high differs. register_at u.cwp r v low ∙ sym (register_at u.cwp r u low) }
writes_by false false rd value u e f bound within =
    let v = record u { windowed = slice_set u.windowed (place u.cwp rd) value } in
    let from : 8 ≤ rd = ltb-false rd 8 f in
    record {
      cwp = refl;
      keeps = λ r low high differs. register_at u.cwp r v low
          ∙ get_or-set_other u.windowed (place u.cwp rd) (place u.cwp r) value 0 (place_differs (nat_lt rd 16) u.cwp r rd refl bound from within low high differs)
          ∙ sym (register_at u.cwp r u low);
    }

-- a register of the current window that is written leaves its other locals and ins
writes : (rd value : ℕ) (u : Arch) → u.cwp < 8 → rd < 32 → Writes rd u (with_register rd value u)
writes rd value u bound within = writes_by (rd == 0) (nat_lt rd 8) rd value u refl refl bound within

-- v is the state after the RESTORE: w is current again, and its locals and ins but rd are as in u
record Back (w rd : ℕ) (u v : Arch) : Type 0 where
  cwp : v.cwp ≡ w
  keeps : (r : ℕ) → 16 ≤ r → r < 32 → r ≢ rd → register v r ≡ register_of w u r

-- a RESTORE from the window above leads to such a state
restore_back : (w rd value : ℕ) (u v : Arch) → w ≡ below u.cwp → rd < 32 → v ≡ next (with_register rd value (restored u)) → Back w rd u v
restore_back w rd value u v is bound e =
    let written = writes rd value (restored u) (omega arith) bound in
    let at : v.cwp ≡ below u.cwp = ap (λ (x : Arch). x.cwp) e ∙ written.cwp in
    record {
      cwp = at ∙ sym is;
      keeps = λ r low high differs. ap (λ (c : ℕ). register_of c v r) at ∙ ap (λ (x : Arch). register_of (below u.cwp) x r) e
          ∙ written.keeps r low high differs ∙ ap (λ (c : ℕ). register_of c u r) (sym is);
    }

-- after the fill the step is a RESTORE
back_after : (w : ℕ) (image : ImageView) (values : ℕ → ℕ) (value : ℕ) (s t u v : Arch) (p : Fills image w s t) → Done w values t u → v ≡ (step image u value).state
    → Back w (instr p.must.word).rd u v
back_after w image values value s t u v p d at =
    let i = instr p.must.word in
    let there : fetched image u.pc ≡ Some p.must.word = rw d.filled.pc p.must.stands in
    let one : u.canrestore ≡ 1 = d.restorable ∙ rw p.must.due refl in
    restore_back w i.rd (total i u) u v (p.is ∙ ap below (sym d.filled.cwp)) (in_range p.must.word).rd
    (at ∙ ap (λ (x : Stepped). x.state) (step_runs image p.must.word u value d.over there ∙ restore_goes_on i image u value p.must.restores one))

-- ---- the law

-- what a window held before its spill it holds again after its fill and the RESTORE
kept_of : (image : ImageView) (s t : Arch) (w : ℕ) → MustSpill image s → w ≡ spilled s → (p : Fills image w s t)
    → IsGivenBack image s t w (instr p.must.word).rd (λ k. register_of w s (16 + k))
kept_of image s t w must is p =
    let values = λ (k : ℕ). register_of w s (16 + k) in
    let u = steps 16 image values t in
    let d = fill_whole w image values s t p in
    let b = back_after w image values (values 16) s t u (steps 17 image values t) p d refl in
    record {
      stores = λ k bound. spill_stores k w image values s bound must is p.can;
      loads = λ k bound. fill_loads k w image values s t bound p;
      others = λ v r bound differs from below. others_at w v r values t u d bound differs from below;
      globals = d.filled.globals;
      current = b.cwp;
      given_back = λ r from below differs. b.keeps r from below differs ∙ filled_back w r s t u d from below;
    }

-- that is so of every window, since there are eight
pub windows_are_kept : WindowsAreKept
windows_are_kept image s t w spills fills len is_spilled is_filled pointer can =
    let low : w < 8 = rw is_filled (omega arith) in
    kept_of image s t w spills is_spilled (record { must = fills; low = low; is = is_filled; pointer = pointer; can = can; len = len })
