use Rattle.std.proofs.Common.{◌≡◌, drop}
use Rattle.elf64_load.specs.Faults.{segments_fault}
use Rattle.elf64_load.proofs.rules.segments_fault.Given as goal

abbrev pub invariant-loop-i : goal.invariant-loop-i
invariant-loop-i l = segments_fault l.size 0 l.headers ≡ segments_fault l.size l.i (drop l.i l.headers)
