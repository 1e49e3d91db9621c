use Rattle.std.specs.Slice.Iter.{split_rest, split_done, split_callee}
use Rattle.std.proofs.Common.{◌≡◌, ℕ, ◌<◌, ◌==◌, ◌∷◌, [], length, get_or, ap, ◌∙◌, rules, tests, length-append}
use Rattle.std.proofs.lemmas.Iterator.Consumers.{YieldsList-turn, YieldsList-end}
use Rattle.std.proofs.lemmas.Iterator.Splits.{YieldsList-from_slice_split}
use Rattle.std.proofs.lemmas.Result.{err_from_is_err_and}
use Rattle.machine_config.specs.Text.{lines}
use Rattle.machine_config.proofs.Lines.{IsReading-more, IsReading-fault, IsReading-all}
use Rattle.machine_config.proofs.reader.Given.read.Goals as goal
use Rattle.machine_config.proofs.reader.Given.read.Goals.{In-Some}

-- a line that `split` yields is the one of the text that comes next
turn : (c : In-Some)
    → (length c.loop-line.yielded < length (lines c.args.text.now)) × (c.in-Some.line.now ≡ get_or (lines c.args.text.now) (length c.loop-line.yielded) c.in-Some.line.now)
turn c =
    let same = c.into_iter-line-iterator.ensures.into_iter_gives in
    YieldsList-turn
    (YieldsList-from_slice_split _ (λ (b : ℕ). b == 10) c.args.text.now (ap split_rest same ∙ c.split-line-items.ensures.rest) (ap split_done same ∙ c.split-line-items.ensures.done) (ap split_callee same ∙ c.split-line-items.ensures.closure) (λ x b q k. search (rules, tests)))
    c.loop-line.yielded _ c.loop-line.yielded_by _ _ c.in-Some.line c.in-Some.is c.next.ensures.steps

pub loop-line-preserved : goal.loop-line-preserved
loop-line-preserved c =
    let here = turn (goal.at.loop-line-preserved c).In-Some in
    let reading = c.loop-line.invariant in
    let read = c.in_ok-read_line.ensures reading.earlier reading.read in
    IsReading-more c.args.text.now c.in-Some.line.now (length c.loop-line.yielded) _ _ _ reading here.0 here.1
    (length-append c.loop-line.yielded (c.in-Some.line ∷ [])) read.0 read.1

pub returns-in_err-read_line : goal.returns-in_err-read_line
returns-in_err-read_line c =
    let here = turn (goal.at.returns-in_err-read_line c).In-Some in
    let reading = c.loop-line.invariant in
    let p = err_from_is_err_and c.from_residual.result c.from_residual.ensures.1 in
    rw (p.1, p.2)
    (IsReading-fault c.args.text.now c.in-Some.line.now (length c.loop-line.yielded) _ _ reading here.0 here.1
    (c.in_err-read_line.ensures reading.earlier reading.read))

pub returns : goal.returns
returns c =
    let same = c.into_iter-line-iterator.ensures.into_iter_gives in
    let end = YieldsList-end
    (YieldsList-from_slice_split _ (λ (b : ℕ). b == 10) c.args.text.now (ap split_rest same ∙ c.split-line-items.ensures.rest) (ap split_done same ∙ c.split-line-items.ensures.done) (ap split_callee same ∙ c.split-line-items.ensures.closure) (λ x b q k. search (rules, tests)))
    c.loop-line.yielded _ c.loop-line.yielded_by _ _ c.in-None.is c.next.ensures.steps in
    IsReading-all c.args.text.now (length c.loop-line.yielded) _ c.loop-line.invariant end.1
