-- The first k registers behind the architectural ones are there.
use Rattle.std.proofs.Common.{◌≡◌}
use Rattle.rsim_base.specs.Limits.{arch_registers}
use Rattle.circular_buffer.specs.Buffer.{buffer}
use Rattle.rename.specs.Registers.{registers}
use Rattle.rename.proofs.map.registers_behind.Given as goal

abbrev pub invariant-loop-k : goal.invariant-loop-k
invariant-loop-k l = l.free ≡ buffer (registers arch_registers l.k) l.extra
