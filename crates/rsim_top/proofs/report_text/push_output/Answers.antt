use Rattle.std.proofs.Common.{◌++◌, ◌∷◌, [], decimal, ap, ◌∙◌}
use Rattle.std.proofs.lemmas.Result.{on_ok_weaker}
use Rattle.rsim_top.proofs.Texts.{output_put}
use Rattle.rsim_top.proofs.report_text.push_output.Goals as goal

pub returns : goal.returns
returns c = on_ok_weaker c.push-3.result
    (λ put. output_put c.args.text.now.items c.push.new.text.items c.push_decimal.new.text.items c.push_decimal-2.new.text.items c.push-2.new.text.items c.push-3.new.text.items c.args.output.now c.args.p
    c.in_ok-push.ensures.put (c.in_ok-push_decimal.ensures.put ∙ ap (λ n. c.push.new.text.items ++ decimal n ++ 32 ∷ []) c.from.ensures) c.in_ok-push_decimal-2.ensures.put c.in_ok-push-2.ensures.put put)
    c.push-3.ensures.put
