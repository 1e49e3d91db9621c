use Rattle.std.proofs.Common.{sym, ◌∙◌}
use Rattle.elf64_load.specs.Layout.{first_of_header, size_of}
use Rattle.elf64_load.proofs.Orders.{some_in_order}
use Rattle.elf64_load.proofs.Pairs.{shared-from_least}
use Rattle.elf64_load.proofs.shared.check_blocks.Goals as goal

pub returns-in-Some : goal.returns-in-Some
returns-in-Some c =
    c.in-Some.ensures
    ∙ sym (shared-from_least c.args.headers.now c.args.order.now c.requires.order c.least_meeting-least.result c.least_meeting-least.ensures.bound c.least_meeting-least.ensures.below)

pub returns-in-None : goal.returns-in-None
returns-in-None c =
    c.in-None.ensures
    ∙ sym (shared-from_least c.args.headers.now c.args.order.now c.requires.order c.least_meeting-least.result c.least_meeting-least.ensures.bound c.least_meeting-least.ensures.below)

pub least_meeting-least-requires-clause-some : goal.least_meeting-least-requires-clause-some
least_meeting-least-requires-clause-some c =
    some_in_order first_of_header size_of c.args.headers.now c.args.order.now c.requires.order
