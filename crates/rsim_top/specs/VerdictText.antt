-- A verdict on an order: its text, and the exit status of the program that tells it.
use Rattle.std.specs.Prelude.{ℕ, List, ◌++◌, codes, decimal}
use Rattle.order_checker.specs.RejectedText.{rejected_text}
use Rattle.rsim_top.specs.declared.verdict.Verdict.{Verdict}
use Rattle.rsim_top.specs.declared.verdict.Verdict.TheVariants.{Accepted, Rejected}

-- how many steps an accepted order tells of, and how many accesses; else why it is rejected
abbrev pub verdict_words : Verdict → List ℕ
verdict_words (Accepted a) = codes "accepted " ++ decimal a.retired ++ codes " " ++ decimal a.entries
verdict_words (Rejected why) = codes "rejected " ++ rejected_text why

-- on a line
abbrev pub verdict_text : Verdict → List ℕ
verdict_text verdict = verdict_words verdict ++ codes "\n"

abbrev pub verdict_code : Verdict → ℕ
verdict_code (Accepted a) = 0
verdict_code (Rejected why) = 1
