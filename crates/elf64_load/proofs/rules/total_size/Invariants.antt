use Rattle.std.proofs.Common.{◌≡◌, ◌+◌, ◌≤◌, drop}
use Rattle.elf64_load.proofs.FirstFaults.{total}
use Rattle.elf64_load.proofs.rules.total_size.Given as goal

abbrev pub invariant-loop-header : goal.invariant-loop-header
invariant-loop-header l =
    (l.room ≤ 16777216) × (l.room + total l.headers ≡ 16777216 + total (drop l.header-index l.headers))
