use Rattle.std.specs.Prelude.{◌≡◌, ◌+◌, nat_le, ◌^◌}
use Rattle.std.proofs.Common.{◌∙◌, rules, FitsSigned, not, ap, arith}
use Rattle.std.proofs.lemmas.Int.{to_z-of_z}
use Rattle.std.specs.Int.{w128}
use Rattle.sparc_alu.specs.Numbers.{low}
use Rattle.sparc_alu.proofs.SameBits.{of_result_same, overflow_same, low_64_of_sum}
use Rattle.sparc_alu.proofs.codes.xcc_of_sum.Goals as goal

pub returns-clause-codes : goal.returns-clause-codes
returns-clause-codes c =
    let same = ap (low 64) c.sum.ensures ∙ low_64_of_sum _ _ _ in
    let total : c.from.result + c.from-2.result + c.from-3.result ≡ low 64 c.args.a + low 64 c.args.b + c.args.carry = omega arith in
    let fits : FitsSigned w128 c.signed_sum.result = search rules in
    let overflow = ap not c.is_value.ensures ∙ overflow_same 64 _ _ (to_z-of_z w128 _ fits ∙ c.signed_sum.ensures) in
    c.xcc.ensures.codes ∙ of_result_same 64 _ _ _ _ _ _ same overflow (ap (nat_le (2 ^ 64)) total)
