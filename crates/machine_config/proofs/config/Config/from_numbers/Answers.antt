use Rattle.std.proofs.Common.{◌≡◌, length, get_or, refl, rules, arith}
use Rattle.std.proofs.lemmas.List.FromFn.{fill_by_all}
use Rattle.machine_config.specs.Keys.{keys, processors}
use Rattle.machine_config.proofs.Numbers.{AreAllowed-at}
use Rattle.machine_config.proofs.config.Config.from_numbers.Goals as goal

pub model_at-requires : goal.model_at-requires
unfolding keys
model_at-requires c = AreAllowed-at keys c.args.numbers.now 2 processors c.requires (omega arith) (omega arith)

pub switch_at-requires : goal.switch_at-requires
unfolding keys
switch_at-requires c = AreAllowed-at keys c.args.numbers.now 3 processors c.requires (omega arith) (omega arith)

pub switch_at-requires-2 : goal.switch_at-requires-2
unfolding keys
switch_at-requires-2 c = AreAllowed-at keys c.args.numbers.now 4 processors c.requires (omega arith) (omega arith)

pub protocol_at-requires : goal.protocol_at-requires
unfolding keys
protocol_at-requires c = AreAllowed-at keys c.args.numbers.now 5 processors c.requires (omega arith) (omega arith)

pub predictor_at-requires : goal.predictor_at-requires
unfolding keys
predictor_at-requires c = AreAllowed-at keys c.args.numbers.now 25 processors c.requires (omega arith) (omega arith)

pub returns : goal.returns
unfolding keys
returns c =
    let long : length c.args.numbers.now ≡ 33 = search rules in
    let each = fill_by_all (λ k. get_or c.args.numbers.now k 0) c.args.numbers.now 33 0 long (λ _ _. refl) in
    cc
