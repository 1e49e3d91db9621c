use Rattle.std.proofs.Common.{◌≡◌, ℕ, ◌/◌, ◌<◌, true, get_or}
use Rattle.elf64_load.specs.Layout.{spans}
use Rattle.elf64_load.specs.declared.span.Span.{Span}
use Rattle.memory_contracts.specs.Parts.{AreMore, has_place}
use Rattle.memory_contracts.proofs.places.add_spans.Given as goal

abbrev pub invariant-loop-span : goal.invariant-loop-span
invariant-loop-span l = record {
  more : AreMore l.image l.per_line l.fn.memory l.fn.owners l.memory l.owners;
  there : (k : ℕ) (d : Span) → k < l.span-index → (a : ℕ) → spans a (get_or l.order k d) ≡ true → has_place l.memory l.owners l.per_line (a / 8) ≡ true;
}
