use Rattle.order_log.specs.Laws.{retire_keeps, drop_keeps, pop_takes_first}
use Rattle.order_log.proofs.laws.retired_front_stays.Goals as goal

pub returns-clause-retire : goal.returns-clause-retire
returns-clause-retire c = retire_keeps

pub returns-clause-drop : goal.returns-clause-drop
returns-clause-drop c = drop_keeps

pub returns-clause-pop : goal.returns-clause-pop
returns-clause-pop c = pop_takes_first
