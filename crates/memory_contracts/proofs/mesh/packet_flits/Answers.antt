use Rattle.std.proofs.Common.{rules}
use Rattle.memory_contracts.proofs.mesh.packet_flits.Goals as goal

pub returns : goal.returns
returns c = search rules
