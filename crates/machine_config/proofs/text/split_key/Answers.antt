use Rattle.std.specs.List.{position_or_len}
use Rattle.std.proofs.Common.{◌≡◌, List, ℕ, drop, ap, ◌∙◌, rules}
use Rattle.machine_config.specs.Text.{said, is_blank, trimmed}
use Rattle.machine_config.proofs.Words.{trimmed-after_first}
use Rattle.machine_config.proofs.text.split_key.Goals as goal

pub returns-clause-value : goal.returns-clause-value
returns-clause-value c =
    let said_is : c.trimmed-said.result.now ≡ said c.args.line.now = search rules in
    let rest = λ (xs : List ℕ). trimmed (drop (position_or_len is_blank xs) xs) in
    let cut : c.trimmed.result.now ≡ rest c.trimmed-said.result.now = search rules in
    cut ∙ ap rest said_is ∙ trimmed-after_first (said c.args.line.now)
