use Rattle.std.proofs.Common.{◌++◌, ◌∷◌, [], decimal, ap, ◌∙◌}
use Rattle.std.proofs.lemmas.Result.{on_ok_weaker}
use Rattle.rsim_top.proofs.Texts.{foot_put}
use Rattle.rsim_top.proofs.report_text.push_foot.Goals as goal

pub returns : goal.returns
returns c = on_ok_weaker c.push-2.result
    (λ put. foot_put c.args.text.now.items c.push.new.text.items c.push_decimal.new.text.items c.push-2.new.text.items c.as_bytes.result.now c.args.unperformed c.in_ok-push.ensures.put
    (c.in_ok-push_decimal.ensures.put ∙ ap (λ n. c.push.new.text.items ++ decimal n ++ 10 ∷ []) c.from.ensures) put c.as_bytes.ensures.value)
    c.push-2.ensures.put
