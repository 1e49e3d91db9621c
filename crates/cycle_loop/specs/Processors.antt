-- A processor as the rules see it.
use Rattle.std.specs.Prelude.{[]}
use Rattle.cycle_loop.specs.declared.processor.Processor.{Processor}
use Rattle.cycle_loop.specs.Machine.{CoreView}

-- each of its stores is performed as it is retired
abbrev pub view_of : Processor → CoreView
view_of c = record { arch = c.arch; retired = c.retired; accesses = c.accesses; output = c.output.items; waiting = [] }
