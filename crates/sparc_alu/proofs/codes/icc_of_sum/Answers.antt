use Rattle.std.proofs.Common.{◌∙◌, rules, FitsSigned, not, ap}
use Rattle.std.proofs.lemmas.Int.{to_z-of_z}
use Rattle.std.specs.Int.{w64}
use Rattle.sparc_alu.specs.Numbers.{low}
use Rattle.sparc_alu.proofs.SameBits.{of_result_same, overflow_same, low_32_of_sum}
use Rattle.sparc_alu.proofs.codes.icc_of_sum.Goals as goal

pub returns-clause-codes : goal.returns-clause-codes
returns-clause-codes c =
    let same = ap (low 32) c.sum.ensures ∙ low_32_of_sum _ _ _ in
    let fits : FitsSigned w64 c.signed_word_sum.result = search rules in
    let overflow = ap not c.is_word.ensures ∙ overflow_same 32 _ _ (to_z-of_z w64 _ fits ∙ c.signed_word_sum.ensures) in
    c.icc.ensures.codes ∙ of_result_same 32 _ _ _ _ _ _ same overflow (cc)
