-- A queue after an entry was issued, from what its table tells of it.
use Rattle.std.proofs.Common.{◌≡◌, ℕ, ◌+◌, ◌&&◌, nat_lt, Bool, map, length, Option, Some, None, refl, ap, ◌∙◌, subst}
use Rattle.std.specs.List.{find}
use Rattle.std.specs.Option.{option_map_or}
use Rattle.rsim_base.specs.declared.processor.Unit.{Unit}
use Rattle.rsim_base.specs.declared.processor.Unit.TheVariants.{Alu, Mul, Div}
use Rattle.issue_queue.specs.declared.units.ByUnit.{ByUnit}
use Rattle.issue_queue.specs.Units.{of_unit}
use Rattle.issue_queue.specs.Queues.{Entry, QueueView, Selects, SelectsOf, Settings, can_issue, free_divider, has_unit, is_ready, is_waiting, issued_until, latency, takes_unit}
use Rattle.issue_queue.specs.Held.{Held, Issues, IssuesOf, may_issue}

-- what a queue's table holds
abbrev pub held_by : QueueView → Held
held_by q = record { entries = q.entries; tick = q.now; registers = q.registers }

-- the queue with another table
abbrev pub with_held : QueueView → Held → QueueView
with_held q h = record q { entries = h.entries; now = h.tick; registers = h.registers }

module _ (q : QueueView) (able : ByUnit Bool) (ticks : ByUnit ℕ) (units : (u : Unit) → of_unit able u ≡ has_unit q u) (takes : (u : Unit) → of_unit ticks u ≡ latency q.settings u) where
  found_same : find (may_issue able) q.entries ≡ find (can_issue q) q.entries
  found_same = ap (λ (test : Entry → Bool). find test q.entries) (λ i e. is_waiting e && (is_ready e && units e.unit i))

  selects_some : (seq : ℕ) (unit : Unit) (new : Held) (o : Option Entry) → IssuesOf ticks (held_by q) o (Some (seq, unit)) new → SelectsOf q o (Some seq) (takes_unit unit (with_held q new))
  selects_some seq unit new None (is, same) = absurd cc
  selects_some seq unit new (Some x) (is, same) =
      let seq_is : seq ≡ x.seq = ap (λ (o : Option (ℕ × Unit)). option_map_or (λ p. p.0) o seq) is in
      let unit_is : unit ≡ x.unit = ap (λ (o : Option (ℕ × Unit)). option_map_or (λ p. p.1) o unit) is in (
        ap (λ (n : ℕ). Some n) seq_is,
        (λ i. takes_unit (unit_is i) (with_held q (same i)))
            ∙ ap (λ (n : ℕ). takes_unit x.unit (record q { entries = map (issued_until x.seq (q.now + n)) q.entries })) (takes x.unit),
      )

  pub selects_issued : (seq : ℕ) (unit : Unit) (new : Held) → Issues able ticks (held_by q) (Some (seq, unit)) new → Selects q (Some seq) (takes_unit unit (with_held q new))
  selects_issued seq unit new issues =
      subst (λ (o : Option Entry). SelectsOf q o (Some seq) (takes_unit unit (with_held q new))) found_same (selects_some seq unit new (find (may_issue able) q.entries) issues)

  pub issues_tick : (p : ℕ × Unit) (new : Held) (o : Option Entry) → IssuesOf ticks (held_by q) o (Some p) new → new.tick ≡ q.now
  issues_tick p new None (is, same) = absurd cc
  issues_tick p new (Some x) (is, same) = ap (λ (h : Held). h.tick) same

units_of : (q : QueueView) (divider count : ℕ) → divider ≡ free_divider q.now q.dividers → count ≡ length q.dividers → (u : Unit) → of_unit (record { alu = nat_lt 0 q.alu_left; mul = nat_lt 0 q.mul_left; div = nat_lt divider count }) u ≡ has_unit q u
units_of q divider count first all Alu = refl
units_of q divider count first all Mul = refl
units_of q divider count first all Div = λ i. nat_lt (first i) (all i)

latency_of : (s : Settings) (u : Unit) → of_unit (record { alu = s.alu_latency; mul = s.mul_latency; div = s.div_latency }) u ≡ latency s u
latency_of s Alu = refl
latency_of s Mul = refl
latency_of s Div = refl

abbrev pub ticks_by : Settings → ByUnit ℕ
ticks_by s = record { alu = s.alu_latency; mul = s.mul_latency; div = s.div_latency }

pub selects_by : (q : QueueView) (divider count seq : ℕ) (unit : Unit) (new : Held) → divider ≡ free_divider q.now q.dividers → count ≡ length q.dividers
    → Issues (record { alu = nat_lt 0 q.alu_left; mul = nat_lt 0 q.mul_left; div = nat_lt divider count }) (ticks_by q.settings) (held_by q) (Some (seq, unit)) new
    → Selects q (Some seq) (takes_unit unit (with_held q new)) × (new.tick ≡ q.now)
selects_by q divider count seq unit new first all issues =
    let able : ByUnit Bool = record { alu = nat_lt 0 q.alu_left; mul = nat_lt 0 q.mul_left; div = nat_lt divider count } in (
      selects_issued q able (ticks_by q.settings) (units_of q divider count first all) (latency_of q.settings) seq unit new issues,
      issues_tick q able (ticks_by q.settings) (units_of q divider count first all) (latency_of q.settings) (seq, unit) new (find (may_issue able) q.entries) issues,
    )
