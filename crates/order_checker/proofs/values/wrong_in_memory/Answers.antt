use Rattle.std.proofs.Common.{sym}
use Rattle.order_checker.proofs.ReadWhole.{right_whole}
use Rattle.order_checker.proofs.values.wrong_in_memory.Goals as goal

pub returns-then-read-line : goal.returns-then-read-line
returns-then-read-line c =
    sym (right_whole c.args.image.now c.args.order.now c.args.place c.args.line.now c.args.walk.now c.args.memory.now c.read.result c.requires.at c.requires.written c.requires.aligned c.requires.none c.read.ensures.value c.if-read-line.true)
