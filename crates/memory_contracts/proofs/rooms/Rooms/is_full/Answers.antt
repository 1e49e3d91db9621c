use Rattle.std.proofs.Common.{rules}
use Rattle.memory_contracts.proofs.rooms.Rooms.is_full.Goals as goal

pub returns : goal.returns
returns c = search rules
