use Rattle.std.proofs.Common.{◌≡◌, drop}
use Rattle.elf64_load.specs.Faults.{shared}
use Rattle.elf64_load.proofs.shared.first_pair.Given as goal

abbrev pub invariant-loop-i : goal.invariant-loop-i
invariant-loop-i l = shared l.from (drop l.from l.headers) ≡ shared l.i (drop l.i l.headers)
