use Rattle.std.proofs.Common.{◌≡◌, ℕ, ◌/◌, ◌%◌, ◌<◌, true, get_or}
use Rattle.elf64_load.specs.Layout.{spans}
use Rattle.elf64_load.specs.declared.span.Span.{Span}
use Rattle.directory.specs.Fresh.{AreMore}
use Rattle.directory.specs.HomeParts.{has_line}
use Rattle.directory.proofs.share.Share.add_spans.Given as goal

abbrev pub invariant-loop-span : goal.invariant-loop-span
invariant-loop-span l = record {
  more : AreMore l.image l.self l.fn.records l.records;
  there : (k : ℕ) (d : Span) → k < l.span-index → (a : ℕ) → spans a (get_or l.order k d) ≡ true → a / l.self.line_bytes % l.self.nodes ≡ l.self.home.0 → has_line l.records (a / l.self.line_bytes) ≡ true;
}
