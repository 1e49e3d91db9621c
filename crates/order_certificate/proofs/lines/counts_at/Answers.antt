use Rattle.std.proofs.Common.{◌≡◌, ◌+◌, ◌-◌, ◌++◌, ◌∷◌, [], sym, ap, ◌∙◌, rules}
use Rattle.order_certificate.specs.Fields.{counts_from}
use Rattle.order_certificate.proofs.Counts.{counts_from_more, counts_from_none, counts_from_end, counts_from_no_end}
use Rattle.order_certificate.proofs.lines.counts_at.Goals as goal

pub returns-in_default : goal.returns-in_default
returns-in_default c =
    sym (counts_from_none c.args.processors c.loop.counter c.loop.counts.items c.loop.rest.now (search rules) (sym c.in_default.ensures)) ∙ c.loop.invariant

pub loop-preserved : goal.loop-preserved
loop-preserved c =
    let pushed : c.push.new.self.items ≡ c.loop.counts.items ++ c.in-Some.count ∷ [] = search rules in
    ap (λ counts. counts_from (c.args.processors - (c.loop.counter + 1)) counts c.in-Some.behind.now) pushed
    ∙ sym (counts_from_more c.args.processors c.loop.counter c.loop.counts.items c.loop.rest.now c.in-Some.count c.in-Some.behind.now (search rules) (sym c.in-Some.ensures)) ∙ c.loop.invariant

pub returns-in_default-after_byte : goal.returns-in_default-after_byte
returns-in_default-after_byte c =
    sym (counts_from_no_end c.args.processors c.loop.counter c.loop.counts.items c.loop.rest.now (search rules) (sym c.in_default-after_byte.ensures)) ∙ c.loop.invariant

pub returns : goal.returns
returns c =
    sym (counts_from_end c.args.processors c.loop.counter c.loop.counts.items c.loop.rest.now c.in-Some-after_byte.rest.now (search rules) (sym c.in-Some-after_byte.ensures)) ∙ c.loop.invariant
