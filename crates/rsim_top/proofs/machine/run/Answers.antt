use Rattle.std.proofs.Common.{◌≡◌, ◌∙◌, sym, subst}
use Rattle.elf64_load.specs.Image.{ImageView}
use Rattle.cycle_loop.specs.Stands.{Closed}
use Rattle.cycle_loop.specs.Start.{IsAtStart}
use Rattle.memory_contracts.specs.Start.{IsStart}
use Rattle.rsim_top.specs.Machine.{shared_view}
use Rattle.rsim_top.specs.Run.{RunsOn}
use Rattle.rsim_top.proofs.Running.{HasRun-closed, few_cycles}
use Rattle.machine_config.specs.Sizes.{sizes_of}
use Rattle.rsim_top.proofs.machine.run.Goals as goal

pub run_cycles-requires-clause-few : goal.run_cycles-requires-clause-few
run_cycles-requires-clause-few c = few_cycles c.args.config c.args.cycles (sizes_of c.args.config c.requires.allowed) c.requires.short

pub make-requires-3-clause-serves : goal.make-requires-3-clause-serves
make-requires-3-clause-serves c =
    let start = c.in_ok-store.ensures in
    record {
      bytes = start.bytes;
      mapped = start.mapped;
      nodes = start.nodes;
      line_bytes = start.line_bytes;
      ticks = start.ticks;
    }

pub returns : goal.returns
returns c =
    let first = shared_view c.in_ok-machine.machine in
    let last = shared_view c.run_cycles.new.machine in
    let image = c.args.image in
    HasRun-closed image c.args.config c.args.cycles first last (shared_view c.close.new.self) c.close.ensures.view (record {
      made = record {
        start = subst (λ (i : ImageView). IsAtStart i first) c.in_ok-machine.ensures.image c.in_ok-machine.ensures.start;
        store = subst (IsStart image c.args.config) (sym c.in_ok-machine.ensures.store) c.in_ok-store.ensures;
        count = c.in_ok-machine.ensures.count;
      };
      runs_on = subst (λ (i : ImageView). RunsOn i c.args.cycles first last) c.in_ok-machine.ensures.image c.in_ok-run_cycles.ensures.ran;
      count = c.run_cycles.ensures.count;
      counted = c.close.ensures.counted;
      fits = λ model.
          let same : c.run_cycles.new.machine.image ≡ image = c.run_cycles.ensures.image ∙ c.in_ok-machine.ensures.image in
          subst (λ (i : ImageView). Closed i model _ (shared_view c.close.new.self)) (c.close.ensures.image ∙ same)
          (c.close.ensures.fits model _ (c.in_ok-run_cycles.ensures.stands model (c.in_ok-machine.ensures.stands model)));
    })
