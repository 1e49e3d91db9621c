use Rattle.std.proofs.Common.{arith}
use Rattle.std.proofs.lemmas.Int.{ints}
use Rattle.sparc_alu.proofs.codes.signed_word_difference.Goals as goal

pub returns : goal.returns
returns c = omega (arith, ints)
