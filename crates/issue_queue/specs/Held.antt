-- The entries of a queue and the present tick, apart from the units.
use Rattle.std.specs.Prelude.{◌≡◌, ℕ, ◌+◌, ◌==◌, Bool, ◌&&◌, List, map, filter, find, Option, None, Some, not}
use Rattle.rsim_base.specs.declared.processor.Unit.{Unit}
use Rattle.issue_queue.specs.declared.units.ByUnit.{ByUnit}
use Rattle.issue_queue.specs.Units.{of_unit}
use Rattle.issue_queue.specs.Queues.{Entry, is_waiting, is_ready, is_finished, issued_until}

pub record Held : Type 0 where
  -- the oldest first
  pub entries : List Entry
  pub tick : ℕ
  -- registers have numbers below this
  pub registers : ℕ

-- it waits for no register, and its unit is able
abbrev pub may_issue : ByUnit Bool → Entry → Bool
may_issue able e = is_waiting e && (is_ready e && of_unit able e.unit)

abbrev pub IssuesOf : ByUnit ℕ → Held → Option Entry → Option (ℕ × Unit) → Held → Type 0
IssuesOf ticks old None result new = (result ≡ None) × (new ≡ old)
IssuesOf ticks old (Some x) result new =
    (result ≡ Some (x.seq, x.unit)) × (new ≡ record old { entries = map (issued_until x.seq (old.tick + of_unit ticks x.unit)) old.entries })

-- the oldest that may be issued is, and takes as many ticks as its unit
abbrev pub Issues : ByUnit Bool → ByUnit ℕ → Held → Option (ℕ × Unit) → Held → Type 0
Issues able ticks old result new = IssuesOf ticks old (find (may_issue able) old.entries) result new

abbrev pub EndsOf : Held → Option Entry → Option ℕ → Held → Type 0
EndsOf old None result new = (result ≡ None) × (new ≡ old)
EndsOf old (Some x) result new = (result ≡ Some x.seq) × (new ≡ record old { entries = filter (λ e. not (e.seq == x.seq)) old.entries })

-- the oldest that is finished leaves
abbrev pub Ends : Held → Option ℕ → Held → Type 0
Ends old result new = EndsOf old (find (is_finished old.tick) old.entries) result new
