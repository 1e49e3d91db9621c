use Rattle.std.proofs.Common.{◌++◌, ◌∷◌, [], decimal, ap, ◌∙◌}
use Rattle.std.proofs.lemmas.Result.{on_ok_weaker}
use Rattle.rsim_top.proofs.Texts.{head_put}
use Rattle.rsim_top.proofs.report_text.push_head.Goals as goal

pub returns : goal.returns
returns c = on_ok_weaker c.push_decimal.result
    (λ put. head_put c.args.text.now.items c.push.new.text.items c.push_decimal.new.text.items c.args.cycles c.in_ok-push.ensures.put (put ∙ ap (λ n. c.push.new.text.items ++ decimal n ++ 10 ∷ []) c.from.ensures))
    c.push_decimal.ensures.put
