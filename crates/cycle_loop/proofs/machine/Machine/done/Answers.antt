use Rattle.std.proofs.Common.{not, sym, ◌∙◌}
use Rattle.sparc_meaning.specs.Arch.{is_running}
use Rattle.cycle_loop.specs.Machine.{CoreView}
use Rattle.cycle_loop.specs.Processors.{view_of}
use Rattle.cycle_loop.proofs.Keeping.{list_all-map}
use Rattle.cycle_loop.proofs.machine.Machine.done.Goals as goal

pub returns : goal.returns
returns g c = c.have_all_ended.ensures ∙ sym (list_all-map (λ (x : CoreView). not (is_running x.arch.end)) view_of c.args.self.now.processors.items)
