use Rattle.issue_queue.proofs.Empty.{ticks_of}
use Rattle.issue_queue.proofs.queue.IssueQueue.make.Goals as goal

pub invariant_of-result : goal.invariant_of-result
invariant_of-result c =
    let t = ticks_of c.args.config.now c.requires in
    record { alu = t.0; mul = t.1.0; div = t.1.1 }
