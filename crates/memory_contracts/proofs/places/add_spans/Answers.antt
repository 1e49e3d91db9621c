use Rattle.std.proofs.Common.{arith}
use Rattle.elf64_load.specs.Layout.{spans}
use Rattle.elf64_load.specs.declared.span.Span.{Span}
use Rattle.list_facts.specs.Tests.{any-at}
use Rattle.memory_contracts.proofs.places.add_spans.Goals as goal

-- what the index past the end reads
nowhere : Span
nowhere = record { first = 0; len = 0; place = 0 }

pub returns-clause-there : goal.returns-clause-there
returns-clause-there c = λ a any.
    let (k, below, here) = any-at (spans a) c.args.order.now any in
    c.loop-span.invariant.there k nowhere (omega arith) a (here nowhere)
