use Rattle.std.proofs.lemmas.Result.{err_from_is_err_and}
use Rattle.std.proofs.Common.{◌∙◌, ap}
use Rattle.rsim_top.proofs.AnswerCases.{Made, AnswersFile-at_order, AnswersFile-at_report, AnswersFile-at_end, report_of-same, refused_setup, refused_image}
use Rattle.cycle_loop.specs.Answers.{all_retired}
use Rattle.rsim_top.specs.Machine.{shared_view}
use Rattle.rsim_top.specs.Answers.{AnswersRun}
use Rattle.rsim_top.specs.Parts.{asked_by}
use Rattle.rsim_top.specs.Steps.{run_files}
use Rattle.rsim_top.proofs.FileAnswers.{no_first_file, no_second_file, both_refused, Both-from}
use Rattle.rsim_top.proofs.command.run_executable.Goals as goal

pub returns-in_err-text-clause-answer : goal.returns-in_err-text-clause-answer
returns-in_err-text-clause-answer g c =
    let exit = err_from_is_err_and c.from_residual.result c.from_residual.ensures.1 in
    rw (exit.1, exit.2) (no_first_file (AnswersRun _ _ (asked_by c.args.want.now)) _ _ _ (run_files c.args.want.now.cycles c.args.want.now.config.now c.args.exe.now) _ c.fetch.ensures.files c.in_err-text.ensures.fetched)

pub returns-in_err-file-clause-answer : goal.returns-in_err-file-clause-answer
returns-in_err-file-clause-answer g c =
    let exit = err_from_is_err_and c.from_residual-in_err-file.result c.from_residual-in_err-file.ensures.1 in
    rw (exit.1, exit.2)
    (no_second_file (AnswersRun _ _ (asked_by c.args.want.now)) _ _ _ _ (run_files c.args.want.now.cycles c.args.want.now.config.now c.args.exe.now) c.in_ok-text.text.items _ c.fetch.ensures.files c.fetch-2.ensures.files c.fetch.ensures.kept c.fetch-2.ensures.kept
    c.in_ok-text.ensures.fetched.0 c.in_ok-text.ensures.fetched.1 c.in_err-file.ensures.fetched)

pub returns-in_err-config-clause-answer : goal.returns-in_err-config-clause-answer
returns-in_err-config-clause-answer g c =
    let exit = err_from_is_err_and c.from_residual-in_err-config.result c.from_residual-in_err-config.ensures.1 in
    let both = Both-from _ _ _ (run_files c.args.want.now.cycles c.args.want.now.config.now c.args.exe.now) c.in_ok-text.text c.in_ok-file.file c.fetch.ensures.files c.fetch-2.ensures.files c.fetch.ensures.kept c.fetch-2.ensures.kept c.in_ok-text.ensures.fetched c.in_ok-file.ensures.fetched in
    let fails = rw c.deref.ensures.value at c.in_err-config.ensures in
    rw (exit.1, exit.2) (both_refused (AnswersRun _ _ (asked_by c.args.want.now)) _ _ _ _ (run_files c.args.want.now.cycles c.args.want.now.config.now c.args.exe.now) _ _ _ both (refused_setup c.args.want.now.cycles c.in_ok-text.text.items c.in_ok-file.file.items _ fails))

pub returns-in_err-machine-clause-answer : goal.returns-in_err-machine-clause-answer
returns-in_err-machine-clause-answer g c =
    let exit = err_from_is_err_and c.from_residual-in_err-machine.result c.from_residual-in_err-machine.ensures.1 in
    let both = Both-from _ _ _ (run_files c.args.want.now.cycles c.args.want.now.config.now c.args.exe.now) c.in_ok-text.text c.in_ok-file.file c.fetch.ensures.files c.fetch-2.ensures.files c.fetch.ensures.kept c.fetch-2.ensures.kept c.in_ok-text.ensures.fetched c.in_ok-file.ensures.fetched in
    let fails = refused_image c.args.want.now.cycles c.in_ok-text.text.items c.in_ok-file.file.items c.in_ok-config.config _ (rw c.deref.ensures.value at c.in_ok-config.ensures) (rw c.deref-2.ensures.value at c.in_err-machine.ensures) in
    rw (exit.1, exit.2) (both_refused (AnswersRun _ _ (asked_by c.args.want.now)) _ _ _ _ (run_files c.args.want.now.cycles c.args.want.now.config.now c.args.exe.now) _ _ _ both fails)

pub returns-in_err-write_order-clause-answer : goal.returns-in_err-write_order-clause-answer
returns-in_err-write_order-clause-answer g c =
    let exit = err_from_is_err_and c.from_residual-in_err-write_order.result c.from_residual-in_err-write_order.ensures.1 in
    let both = Both-from _ _ _ (run_files c.args.want.now.cycles c.args.want.now.config.now c.args.exe.now) c.in_ok-text.text c.in_ok-file.file c.fetch.ensures.files c.fetch-2.ensures.files c.fetch.ensures.kept c.fetch-2.ensures.kept c.in_ok-text.ensures.fetched c.in_ok-file.ensures.fetched in
    let made : Made _ _ _ c.in_ok-config.config (shared_view c.in_ok-machine.machine) = record { settings = rw c.deref.ensures.value at c.in_ok-config.ensures; ran = rw c.deref-2.ensures.value at c.in_ok-machine.ensures } in
    rw (exit.1, exit.2) (AnswersFile-at_order _ _ _ _ _ _ _ _ _ _ _ _ both c.write_order.ensures.kept made c.in_err-write_order.ensures.stored)

pub returns-in_err-write_report-clause-answer : goal.returns-in_err-write_report-clause-answer
returns-in_err-write_report-clause-answer g c =
    let exit = err_from_is_err_and c.from_residual-in_err-write_report.result c.from_residual-in_err-write_report.ensures.1 in
    let both = Both-from _ _ _ (run_files c.args.want.now.cycles c.args.want.now.config.now c.args.exe.now) c.in_ok-text.text c.in_ok-file.file c.fetch.ensures.files c.fetch-2.ensures.files c.fetch.ensures.kept c.fetch-2.ensures.kept c.in_ok-text.ensures.fetched c.in_ok-file.ensures.fetched in
    let made : Made _ _ _ c.in_ok-config.config (shared_view c.in_ok-machine.machine) = record { settings = rw c.deref.ensures.value at c.in_ok-config.ensures; ran = rw c.deref-2.ensures.value at c.in_ok-machine.ensures } in
    let same = report_of-same (shared_view c.in_ok-machine.machine) (shared_view c.write_order.new.machine) c.write_order.ensures.cores c.write_order.ensures.cycles in
    rw (exit.1, exit.2) (AnswersFile-at_report _ _ _ _ _ _ _ _ _ _ _ _ _ both c.write_order.ensures.kept made c.in_ok-write_order.ensures.stored (rw same at c.in_err-write_report.ensures.put))

pub write_order-requires : goal.write_order-requires
write_order-requires g c =
    let ran = rw c.deref-2.ensures.value at c.in_ok-machine.ensures in
    record { retired = (ran.ran.closed c.in_ok-config.config.model).retired }

pub returns-clause-answer : goal.returns-clause-answer
returns-clause-answer g c =
    let both = Both-from _ _ _ (run_files c.args.want.now.cycles c.args.want.now.config.now c.args.exe.now) c.in_ok-text.text c.in_ok-file.file c.fetch.ensures.files c.fetch-2.ensures.files c.fetch.ensures.kept c.fetch-2.ensures.kept c.in_ok-text.ensures.fetched c.in_ok-file.ensures.fetched in
    let made : Made _ _ _ c.in_ok-config.config (shared_view c.in_ok-machine.machine) = record { settings = rw c.deref.ensures.value at c.in_ok-config.ensures; ran = rw c.deref-2.ensures.value at c.in_ok-machine.ensures } in
    let same = report_of-same (shared_view c.in_ok-machine.machine) (shared_view c.write_order.new.machine) c.write_order.ensures.cores c.write_order.ensures.cycles in
    let cycles = c.cycles.ensures ∙ c.write_order.ensures.cycles in
    let retired = c.all_retired.ensures ∙ ap all_retired c.write_order.ensures.cores in
    rw (cycles, retired) (AnswersFile-at_end _ _ _ _ _ _ _ _ _ _ _ _ both c.write_order.ensures.kept made c.in_ok-write_order.ensures.stored (rw same at c.in_ok-write_report.ensures.put))
