use Rattle.machine_config.proofs.Defaults.{HasRead-none}
use Rattle.machine_config.proofs.reader.Given.new.Goals as goal

pub returns : goal.returns
returns c = HasRead-none c.defaults.result c.defaults.ensures
