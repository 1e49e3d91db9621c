-- One more register, for which there is a place.
use Rattle.std.proofs.Common.{arith}
use Rattle.rename.proofs.Insides.{length-registers, registers_more}
use Rattle.rename.proofs.map.registers_behind.Goals as goal

pub push-requires : goal.push-requires
push-requires c = rw c.loop-k.invariant (rw length-registers (omega arith))

pub loop-k-preserved : goal.loop-k-preserved
loop-k-preserved c = rw c.push.ensures (rw c.loop-k.invariant (rw registers_more))
