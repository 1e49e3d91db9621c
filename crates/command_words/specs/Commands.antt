-- The commands that `clap` reads the words by.
use Rattle.std.specs.Prelude.{codes, true, Some, List, ℕ}
use Rattle.clap.specs.Words.{App, Rule, new_app, new_rule, with_rule}

abbrev pub generate_rule : Rule
generate_rule = record (new_rule (codes "generate")) { long = Some (codes "generate") }

abbrev pub required_rule : List ℕ → Rule
required_rule id = record (new_rule id) { required = true }

-- the words begin with no program's name, and there is no option but `--generate`
abbrev pub plain_app : App
plain_app = let a : App = new_app (codes "words") in
    record a { top = record a.top { no_binary_name = true; disable_help_flag = true; disable_version_flag = true } }

-- the option, and a first name that is required
abbrev pub base_app : App
base_app = with_rule (with_rule plain_app generate_rule) (required_rule (codes "first"))

abbrev pub run_app : App
run_app = with_rule (with_rule (with_rule base_app (required_rule (codes "second"))) (required_rule (codes "third"))) (new_rule (codes "fourth"))

abbrev pub check_app : App
check_app = with_rule base_app (new_rule (codes "second"))
