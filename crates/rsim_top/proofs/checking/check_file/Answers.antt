-- What the steps answered, as the answer of all.
use Rattle.std.proofs.lemmas.Result.{err_from_is_err_and}
use Rattle.rsim_top.specs.CheckAnswers.{AnswersCheck}
use Rattle.rsim_top.specs.CheckParts.{check_asked_by}
use Rattle.rsim_top.specs.Steps.{check_files}
use Rattle.rsim_top.proofs.CheckCases.{AnswersCheckFile-no_image, AnswersCheckFile-at_verdict, AnswersCheckFile-at_end}
use Rattle.rsim_top.proofs.FileAnswers.{no_first_file, no_second_file, Both-from}
use Rattle.rsim_top.proofs.checking.check_file.Goals as goal

pub returns-in_err-file-clause-answer : goal.returns-in_err-file-clause-answer
returns-in_err-file-clause-answer g c =
    let exit = err_from_is_err_and c.from_residual.result c.from_residual.ensures.1 in
    rw (exit.1, exit.2) (no_first_file (AnswersCheck _ _) _ _ _ (check_files c.args.exe.now c.args.want.now.order.now) _ c.fetch.ensures.files c.in_err-file.ensures.fetched)

pub returns-in_err-text-clause-answer : goal.returns-in_err-text-clause-answer
returns-in_err-text-clause-answer g c =
    let exit = err_from_is_err_and c.from_residual-in_err-text.result c.from_residual-in_err-text.ensures.1 in
    rw (exit.1, exit.2)
    (no_second_file (AnswersCheck _ _) _ _ _ _ (check_files c.args.exe.now c.args.want.now.order.now) c.in_ok-file.file.items _ c.fetch.ensures.files c.fetch-2.ensures.files c.fetch.ensures.kept c.fetch-2.ensures.kept
    c.in_ok-file.ensures.fetched.0 c.in_ok-file.ensures.fetched.1 c.in_err-text.ensures.fetched)

pub returns-in_err-image-clause-answer : goal.returns-in_err-image-clause-answer
returns-in_err-image-clause-answer g c =
    let exit = err_from_is_err_and c.from_residual-in_err-image.result c.from_residual-in_err-image.ensures.1 in
    let both = Both-from _ _ _ (check_files c.args.exe.now c.args.want.now.order.now) c.in_ok-file.file c.in_ok-text.text c.fetch.ensures.files c.fetch-2.ensures.files c.fetch.ensures.kept c.fetch-2.ensures.kept c.in_ok-file.ensures.fetched c.in_ok-text.ensures.fetched in
    rw (exit.1, exit.2)
    (AnswersCheckFile-no_image _ _ _ _ (check_asked_by c.args.want.now) c.args.exe.now c.in_ok-file.file.items c.in_ok-text.text.items c.deref.result.now c.in_err-image.field-0.0 both c.deref.ensures.value c.in_err-image.ensures)

pub returns-in_err-tell-clause-answer : goal.returns-in_err-tell-clause-answer
returns-in_err-tell-clause-answer g c =
    let exit = err_from_is_err_and c.from_residual-in_err-tell.result c.from_residual-in_err-tell.ensures.1 in
    let both = Both-from _ _ _ (check_files c.args.exe.now c.args.want.now.order.now) c.in_ok-file.file c.in_ok-text.text c.fetch.ensures.files c.fetch-2.ensures.files c.fetch.ensures.kept c.fetch-2.ensures.kept c.in_ok-file.ensures.fetched c.in_ok-text.ensures.fetched in
    rw (exit.1, exit.2) (AnswersCheckFile-at_verdict _ _ _ _ _ (check_asked_by c.args.want.now) c.args.exe.now c.in_ok-file.file.items c.in_ok-text.text.items _ c.in_ok-verdict.verdict _ both (rw c.deref.ensures.value at c.in_ok-image.ensures) (rw c.deref-2.ensures.value at c.in_ok-verdict.ensures) c.in_err-tell.ensures.put)

pub returns-clause-answer : goal.returns-clause-answer
returns-clause-answer g c =
    let both = Both-from _ _ _ (check_files c.args.exe.now c.args.want.now.order.now) c.in_ok-file.file c.in_ok-text.text c.fetch.ensures.files c.fetch-2.ensures.files c.fetch.ensures.kept c.fetch-2.ensures.kept c.in_ok-file.ensures.fetched c.in_ok-text.ensures.fetched in
    AnswersCheckFile-at_end _ _ _ _ _ (check_asked_by c.args.want.now) c.args.exe.now c.in_ok-file.file.items c.in_ok-text.text.items _ c.in_ok-verdict.verdict both (rw c.deref.ensures.value at c.in_ok-image.ensures) (rw c.deref-2.ensures.value at c.in_ok-verdict.ensures) c.in_ok-tell.ensures.put
