use Rattle.std.proofs.Common.{refl, ◌∙◌}
use Rattle.sparc_decode.specs.Instr.{branch_rows, arithmetic_rows, memory_rows}
use Rattle.sparc_decode.proofs.Tables.{found_at, none_found}
use Rattle.sparc_decode.proofs.Looks.{instr_branch, instr_arithmetic, instr_memory, branch_row, arithmetic_row, memory_row}
use Rattle.sparc_decode.proofs.laws.each_row_decides.Goals as goal

pub returns-clause-branches : goal.returns-clause-branches
returns-clause-branches c n d h word code key =
    instr_branch word code ∙ branch_row word _ key ∙ found_at branch_rows n d word refl h

pub returns-clause-arithmetic : goal.returns-clause-arithmetic
returns-clause-arithmetic c n d h word code key =
    instr_arithmetic word code ∙ arithmetic_row word _ key ∙ found_at arithmetic_rows n d word refl h

pub returns-clause-memory : goal.returns-clause-memory
returns-clause-memory c n d h word code key =
    instr_memory word code ∙ memory_row word _ key ∙ found_at memory_rows n d word refl h

pub returns-clause-other_branches : goal.returns-clause-other_branches
returns-clause-other_branches c word code none =
    instr_branch word code ∙ branch_row word _ refl ∙ none_found branch_rows _ word none

pub returns-clause-other_arithmetic : goal.returns-clause-other_arithmetic
returns-clause-other_arithmetic c word code none =
    instr_arithmetic word code ∙ arithmetic_row word _ refl ∙ none_found arithmetic_rows _ word none

pub returns-clause-other_memory : goal.returns-clause-other_memory
returns-clause-other_memory c word code none =
    instr_memory word code ∙ memory_row word _ refl ∙ none_found memory_rows _ word none
