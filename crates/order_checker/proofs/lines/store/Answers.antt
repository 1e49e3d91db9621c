use Rattle.std.proofs.lemmas.Result.{on_ok_weaker}
use Rattle.std.proofs.Common.{sym, subst, add-one}
use Rattle.order_checker.specs.Walking.{HasWritten}
use Rattle.order_checker.proofs.Written.{HasWritten-stored}
use Rattle.order_checker.proofs.lines.store.Goals as goal

pub returns-then-stores : goal.returns-then-stores
returns-then-stores c =
    let lines = c.args.order.now.lines in
    let place = c.args.place in
    on_ok_weaker c.write.result (λ put. subst (λ j. HasWritten c.args.image.now lines j c.write.new.self) (sym (add-one place))
    (HasWritten-stored c.args.image.now lines place c.args.line.now c.args.memory.now c.write.new.self c.requires.stands (sym c.if-stores.ensures) c.requires.written put)) c.write.ensures
