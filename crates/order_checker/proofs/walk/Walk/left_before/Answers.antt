-- What is read there passes.
use Rattle.std.proofs.Common.{◌<◌, nat_lt, length, rules}
use Rattle.std.proofs.lemmas.Bool.{lt-ltb}
use Rattle.order_checker.proofs.LookingBack.{take_while-at}
use Rattle.order_checker.proofs.walk.Walk.left_before.Goals as goal

pub returns-in-Some-clause-some : goal.returns-in-Some-clause-some
returns-in-Some-clause-some c =
    let left = c.args.self.now.left.items in
    let within : c.args.at < length left = search rules in
    take_while-at (λ n. nat_lt n c.args.i) left c.args.at c.in-Some.k.now within c.in-Some.ensures.lookup (lt-ltb c.in-Some.k.now c.args.i c.if-k-i.true)
