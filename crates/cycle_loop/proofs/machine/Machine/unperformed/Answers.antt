use Rattle.cycle_loop.proofs.Keeping.{waiting_stores-none}
use Rattle.cycle_loop.proofs.machine.Machine.unperformed.Goals as goal

pub returns : goal.returns
returns g c = waiting_stores-none c.args.self.now.processors.items
