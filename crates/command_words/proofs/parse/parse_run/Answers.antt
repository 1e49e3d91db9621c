use Rattle.std.proofs.Common.{◌≡◌, ◌∙◌, List, [], ap, subst, sym, map, string_bytes}
use Rattle.clap.specs.Words.{App, HasKind, app_of, fault_of, found_of, is_simple, is_simple_and_free, matches_of, rows_of}
use Rattle.command_words.specs.Words.{Text}
use Rattle.command_words.specs.Commands.{run_app}
use Rattle.command_words.proofs.Told.{are_texts, run_told, run_told_err}
use Rattle.command_words.proofs.parse.parse_run.Goals as goal

pub returns-in-Ok-try_get_matches_from : goal.returns-in-Ok-try_get_matches_from
returns-in-Ok-try_get_matches_from c =
    let parse = c.in-Ok-try_get_matches_from in
    let words : List Text = map string_bytes c.args.words.now in
    let app : app_of c.in-Ok.command ≡ run_app = c.in-Ok.ensures in
    let none : fault_of run_app words ≡ [] = sym (ap (λ (a : App). fault_of a words) app) ∙ parse.ensures.kinds (ap is_simple_and_free app) in
    let rows : rows_of (found_of parse.matches) ≡ matches_of run_app words =
    (parse.ensures.matches (ap is_simple app)).0 ∙ ap (λ (a : App). matches_of a words) app in
    run_told words parse.matches (are_texts c.args.words.now) none rows

pub returns-in-Err : goal.returns-in-Err
returns-in-Err c =
    let words : List Text = map string_bytes c.args.words.now in
    let app : app_of c.in-Ok.command ≡ run_app = c.in-Ok.ensures in
    let kinds : HasKind (fault_of run_app words) c.in-Err.error =
    subst (λ (a : App). HasKind (fault_of a words) c.in-Err.error) app (c.in-Err.ensures.kinds (ap is_simple_and_free app)) in
    let told = run_told_err words c.in-Err.error (are_texts c.args.words.now) kinds in
    rw (c.cause.ensures) told
