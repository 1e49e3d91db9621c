-- Entries whose numbers lie in a range, before and after each call of a queue.
use Rattle.std.proofs.Common.{◌≡◌, ℕ, ◌+◌, ◌<◌, ◌≤◌, ◌++◌, ◌∷◌, ◌==◌, [], Bool, true, false, cond, List, map, get_or, Option, Some, None, arith, refl, sym, subst}
use Rattle.std.specs.List.{All, filter, find}
use Rattle.std.proofs.lemmas.List.Elements.{All-filter, All-map, All-push}
use Rattle.rsim_base.specs.declared.processor.PhysReg.{PhysReg}
use Rattle.rsim_base.specs.declared.processor.Unit.{Unit}
use Rattle.rsim_base.specs.declared.processor.Unit.TheVariants.{Alu, Mul, Div}
use Rattle.issue_queue.specs.Queues.{Entry, Finishes, FinishesOf, QueueView, Selects, SelectsOf, added, can_issue, cut, entry, has_place, is_finished, issued_until, takes_unit, woken, woken_entry}

-- at least base, and less than next
abbrev pub AreIn : ℕ → ℕ → List Entry → Type 0
AreIn base next entries = All (λ (e : Entry). (base ≤ e.seq) × (e.seq < next)) entries

-- the numbers lie in the range, and the rest that a caller needs is as before
pub record Stays (base next : ℕ) (old new : QueueView) : Type 0 where
  pub numbers : AreIn base next new.entries
  pub registers : new.registers ≡ old.registers
  pub now : new.now ≡ old.now

in_filter : (base next : ℕ) (test : Entry → Bool) (es : List Entry) → AreIn base next es → AreIn base next (filter test es)
in_filter base next test es all = All-filter test (λ (e : Entry). (base ≤ e.seq) × (e.seq < next)) es all

in_map : (base next : ℕ) (f : Entry → Entry) → ((e : Entry) → (f e).seq ≡ e.seq) → (es : List Entry) → AreIn base next es → AreIn base next (map f es)
in_map base next f keeps es all =
    All-map (λ (e : Entry). (base ≤ e.seq) × (e.seq < next)) f es
    (λ k d lt. let p = all k d lt in let same = keeps (get_or es k d) in (omega (arith, p.0, same), omega (arith, p.1, same)))

in_more : (base next : ℕ) (es : List Entry) → AreIn base next es → AreIn base (next + 1) es
in_more base next es all = λ k d lt. let p = all k d lt in (p.0, omega (arith, p.1))

pub stays_woken : (base next r : ℕ) (q : QueueView) → AreIn base next q.entries → Stays base next q (woken r q)
stays_woken base next r q all = record { numbers = in_map base next (woken_entry r) (λ e. refl) q.entries all; registers = refl; now = refl }

pub stays_cut : (base next seq : ℕ) (q : QueueView) → AreIn base next q.entries → Stays base next q (cut seq q)
stays_cut base next seq q all = record { numbers = in_filter base next _ q.entries all; registers = refl; now = refl }

added_if : (base next : ℕ) (b : Bool) (x : Entry) (q : QueueView) → base ≤ next → x.seq ≡ next → AreIn base next q.entries → Stays base (next + 1) q (cond b (record q { entries = q.entries ++ x ∷ [] }) q)
added_if base next true x q le is all = record {
  numbers = All-push (λ (e : Entry). (base ≤ e.seq) × (e.seq < next + 1)) q.entries x (in_more base next q.entries all) (omega (arith, le, is), omega (arith, is));
  registers = refl;
  now = refl;
}
added_if base next false x q le is all = record { numbers = in_more base next q.entries all; registers = refl; now = refl }

pub stays_added : (base next : ℕ) (unit : Unit) (needs : List (Option PhysReg)) (q : QueueView) → base ≤ next → AreIn base next q.entries → Stays base (next + 1) q (added next unit needs q)
stays_added base next unit needs q le all = added_if base next (has_place q) (entry next unit needs) q le refl all

-- ---- issuing and finishing

issued_seq : (until : ℕ) (b : Bool) (e : Entry) → (cond b (record e { until = Some until }) e).seq ≡ e.seq
issued_seq until true e = refl
issued_seq until false e = refl

stays_unit : (base next : ℕ) (u : Unit) (old q : QueueView) → Stays base next old q → Stays base next old (takes_unit u q)
stays_unit base next Alu old q s = record { numbers = s.numbers; registers = s.registers; now = s.now }
stays_unit base next Mul old q s = record { numbers = s.numbers; registers = s.registers; now = s.now }
stays_unit base next Div old q s = record { numbers = s.numbers; registers = s.registers; now = s.now }

issued_in : (base next seq until : ℕ) (q : QueueView) → AreIn base next q.entries → Stays base next q (record q { entries = map (issued_until seq until) q.entries })
issued_in base next seq until q all = record { numbers = in_map base next (issued_until seq until) (λ e. issued_seq until (e.seq == seq) e) q.entries all; registers = refl; now = refl }

selected_of : (base next : ℕ) (old : QueueView) (o : Option Entry) (result : Option ℕ) (new : QueueView) → SelectsOf old o result new → AreIn base next old.entries → Stays base next old new
selected_of base next old None result new (is, same) all =
    subst (λ (q : QueueView). Stays base next old q) (sym same) (record { numbers = all; registers = refl; now = refl })
selected_of base next old (Some x) result new (is, same) all =
    subst (λ (q : QueueView). Stays base next old q) (sym same) (stays_unit base next x.unit old _ (issued_in base next x.seq _ old all))

pub stays_selected : (base next : ℕ) (old : QueueView) (result : Option ℕ) (new : QueueView) → Selects old result new → AreIn base next old.entries → Stays base next old new
stays_selected base next old result new selects all = selected_of base next old (find (can_issue old) old.entries) result new selects all

finished_of : (base next : ℕ) (old : QueueView) (o : Option Entry) (result : Option ℕ) (new : QueueView) → FinishesOf old o result new → AreIn base next old.entries → Stays base next old new
finished_of base next old None result new (is, same) all =
    subst (λ (q : QueueView). Stays base next old q) (sym same) (record { numbers = all; registers = refl; now = refl })
finished_of base next old (Some x) result new (is, same) all =
    subst (λ (q : QueueView). Stays base next old q) (sym same) (record { numbers = in_filter base next _ old.entries all; registers = refl; now = refl })

pub stays_finished : (base next : ℕ) (old : QueueView) (result : Option ℕ) (new : QueueView) → Finishes old result new → AreIn base next old.entries → Stays base next old new
stays_finished base next old result new finishes all = finished_of base next old (find (is_finished old.now) old.entries) result new finishes all
