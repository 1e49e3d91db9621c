-- What each part of a check answers.
use Rattle.std.specs.Prelude.{◌≡◌, ◌⊎◌, ℕ, List, Some, None, Result, Ok, Err}
use Rattle.command_words.specs.declared.read.CheckWords.{CheckWords}
use Rattle.command_words.specs.Asked.{CheckAsked}
use Rattle.command_words.specs.Reading.{executable_of}
use Rattle.elf64_load.specs.Faults.{Loads}
use Rattle.elf64_load.specs.Image.{ImageView}
use Rattle.order_checker.specs.declared.verdict.Rejected.{Rejected as Fault}
use Rattle.order_checker.specs.declared.verdict.Rejected.TheVariants as fault
use Rattle.rsim_top.specs.declared.refusal.Refusal.{Refusal}
use Rattle.rsim_top.specs.declared.refusal.Refusal.TheVariants.{Memory}
use Rattle.rsim_top.specs.declared.verdict.Verdict.{Verdict}
use Rattle.rsim_top.specs.declared.verdict.Verdict.TheVariants.{Rejected}
use Rattle.rsim_top.specs.CheckAnswers.{IsJudgement}
use Rattle.rsim_top.specs.Steps.{image_refusal}

-- what words that were read ask for
abbrev pub check_asked_by : CheckWords → CheckAsked
check_asked_by w = record { executable = executable_of w.executable; order = w.order.now }

-- an executable's image, or why it is refused
abbrev pub LoadsImage : List ℕ → Result ImageView Refusal → Type 0
LoadsImage exe (Ok image) = Loads exe (Ok image) × (image_refusal exe ≡ None)
LoadsImage exe (Err why) = (why ≡ Memory) ⊎ (image_refusal exe ≡ Some why)

-- what a fault comes to: want of memory is none
abbrev pub outcome_of : Fault → Result Verdict Refusal
outcome_of fault.Memory = Err Memory
outcome_of why = Ok (Rejected why)

abbrev pub ChecksOrder : ImageView → List ℕ → Result Verdict Refusal → Type 0
ChecksOrder image text (Ok verdict) = IsJudgement image text verdict
ChecksOrder image text (Err why) = why ≡ Memory
