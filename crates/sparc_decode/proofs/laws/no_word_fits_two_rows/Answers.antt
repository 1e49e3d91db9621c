use Rattle.std.proofs.Common.{refl}
use Rattle.sparc_decode.specs.Instr.{branch_rows, arithmetic_rows, memory_rows}
use Rattle.sparc_decode.proofs.Tables.{differ_at}
use Rattle.sparc_decode.proofs.laws.no_word_fits_two_rows.Goals as goal

pub returns-clause-branches : goal.returns-clause-branches
returns-clause-branches c = differ_at branch_rows refl

pub returns-clause-arithmetic : goal.returns-clause-arithmetic
returns-clause-arithmetic c = differ_at arithmetic_rows refl

pub returns-clause-memory : goal.returns-clause-memory
returns-clause-memory c = differ_at memory_rows refl
