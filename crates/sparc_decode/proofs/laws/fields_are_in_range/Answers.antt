use Rattle.sparc_decode.specs.Facts.{in_range, unused_rd}
use Rattle.sparc_decode.proofs.laws.fields_are_in_range.Goals as goal

pub returns-clause-ranges : goal.returns-clause-ranges
returns-clause-ranges c = in_range

pub returns-clause-unused : goal.returns-clause-unused
returns-clause-unused c = unused_rd
