use Rattle.active_list.proofs.Numbers.{change_keeps_rising}
use Rattle.active_list.proofs.Rising.{none_is_after, push_keeps, retire_keeps, pops_keep}
use Rattle.active_list.proofs.laws.youngest_are_behind.Goals as goal

pub returns-clause-none : goal.returns-clause-none
returns-clause-none c = none_is_after

pub returns-clause-push : goal.returns-clause-push
returns-clause-push c = push_keeps

pub returns-clause-retire : goal.returns-clause-retire
returns-clause-retire c = retire_keeps

pub returns-clause-pops : goal.returns-clause-pops
returns-clause-pops c = pops_keep

pub returns-clause-change : goal.returns-clause-change
returns-clause-change c = change_keeps_rising
