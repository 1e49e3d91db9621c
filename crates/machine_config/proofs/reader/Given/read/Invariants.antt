use Rattle.std.proofs.Common.{length, drop}
use Rattle.machine_config.specs.Text.{lines}
use Rattle.machine_config.proofs.Lines.{IsReading}
use Rattle.machine_config.proofs.reader.Given.read.Given as goal

-- the lines before the rest have been read
abbrev pub invariant-loop-line : goal.invariant-loop-line
invariant-loop-line l = IsReading l.text (drop (length l.yielded) (lines l.text)) l.given
