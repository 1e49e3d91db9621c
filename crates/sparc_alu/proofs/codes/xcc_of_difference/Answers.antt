use Rattle.std.specs.Prelude.{◌≡◌, ◌+◌, nat_lt}
use Rattle.std.proofs.Common.{◌∙◌, rules, FitsSigned, not, ap, arith}
use Rattle.std.proofs.lemmas.Int.{to_z-of_z}
use Rattle.std.specs.Int.{w128}
use Rattle.sparc_alu.specs.Numbers.{low}
use Rattle.sparc_alu.proofs.SameBits.{of_result_same, overflow_same, low_64_of_difference}
use Rattle.sparc_alu.proofs.codes.xcc_of_difference.Goals as goal

pub returns-clause-codes : goal.returns-clause-codes
returns-clause-codes c =
    let same = ap (low 64) c.difference.ensures ∙ low_64_of_difference _ _ _ c.ranges.a.fits c.ranges.b.fits c.requires in
    let first : c.from-3.result ≡ low 64 c.args.a = omega arith in
    let taken_off : c.from.result + c.from-2.result ≡ low 64 c.args.b + c.args.borrow = omega arith in
    let fits : FitsSigned w128 c.signed_difference.result = search rules in
    let overflow = ap not c.is_value.ensures ∙ overflow_same 64 _ _ (to_z-of_z w128 _ fits ∙ c.signed_difference.ensures) in
    c.xcc.ensures.codes ∙ of_result_same 64 _ _ _ _ _ _ same overflow (ap (λ m. nat_lt m (c.from.result + c.from-2.result)) first ∙ ap (nat_lt (low 64 c.args.a)) taken_off)
