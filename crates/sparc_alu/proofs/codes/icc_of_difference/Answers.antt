use Rattle.std.proofs.Common.{◌∙◌, rules, FitsSigned, not, ap}
use Rattle.std.proofs.lemmas.Int.{to_z-of_z}
use Rattle.std.specs.Int.{w64}
use Rattle.sparc_alu.specs.Numbers.{low}
use Rattle.sparc_alu.proofs.SameBits.{of_result_same, overflow_same, low_32_of_difference}
use Rattle.sparc_alu.proofs.codes.icc_of_difference.Goals as goal

pub returns-clause-codes : goal.returns-clause-codes
returns-clause-codes c =
    let same = ap (low 32) c.difference.ensures ∙ low_32_of_difference _ _ _ c.ranges.a.fits c.ranges.b.fits c.requires in
    let fits : FitsSigned w64 c.signed_word_difference.result = search rules in
    let overflow = ap not c.is_word.ensures ∙ overflow_same 32 _ _ (to_z-of_z w64 _ fits ∙ c.signed_word_difference.ensures) in
    c.icc.ensures.codes ∙ of_result_same 32 _ _ _ _ _ _ same overflow (cc)
