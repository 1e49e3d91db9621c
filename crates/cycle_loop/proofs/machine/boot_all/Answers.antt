use Rattle.cycle_loop.proofs.Keeping.{IsBooted-more}
use Rattle.cycle_loop.proofs.machine.boot_all.Goals as goal

pub loop-p-preserved : goal.loop-p-preserved
loop-p-preserved c =
    IsBooted-more c.args.image.now c.args.count c.loop-p.processors.items c.push.new.processors.items c.loop-p.p c.boot-processor.result c.loop-p.invariant c.boot-processor.ensures.view c.boot-processor.ensures.sound c.in_ok-push.ensures
