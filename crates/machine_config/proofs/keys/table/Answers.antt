use Rattle.std.proofs.Common.{refl}
use Rattle.machine_config.specs.Keys.{keys}
use Rattle.machine_config.proofs.keys.table.Goals as goal

pub returns-clause-rows : goal.returns-clause-rows
unfolding keys
returns-clause-rows c = refl
