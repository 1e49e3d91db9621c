use Rattle.std.proofs.Common.{◌≡◌, ◌≢◌, ℕ, ◌<◌, ◌≤◌, ◌^◌, false, length, get_or}
use Rattle.elf64_load.specs.Layout.{last_block, meet, MeetsAnother}
use Rattle.elf64_load.specs.declared.span.Span.{Span}
use Rattle.elf64_load.proofs.Orders.{ReachedBy}
use Rattle.elf64_load.proofs.shared.least_meeting.Given as goal

abbrev pub invariant-loop-k : goal.invariant-loop-k
invariant-loop-k l = record {
  bound : l.least ≤ l.count;
  small : l.reach ≤ 2 ^ 64;
  reached : (j : ℕ) (d : Span) → j < l.k → last_block (get_or l.order j d) < l.reach;
  reached_by : 0 < l.reach → ReachedBy l.order l.k l.reach;
  below : (k j : ℕ) (d : Span) → k < l.k → j < length l.order → j ≢ k → (get_or l.order k d).place < l.least → meet (get_or l.order k d) (get_or l.order j d) ≡ false;
  found : l.least < l.count → MeetsAnother l.order l.least;
}
