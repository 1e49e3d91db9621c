-- The answers of `run_command`: what each of them says of the command line, the files and the failures,
-- and what stands after it.
use Rattle.std.specs.Prelude.{◌≡◌, ◌⊎◌, List, Result, Ok, Err, ℕ}
use Rattle.command_words.specs.declared.fault.WordsFault.{WordsFault}
use Rattle.command_words.specs.Asked.{RunAsked, asked_of_run, AskedExecutable, file, generated}
use Rattle.cycle_loop.specs.Answers.{all_retired}
use Rattle.order_checker.specs.Checked.{accepted as accepted_of}
use Rattle.rsim_top.specs.declared.command.Reported.{Reported}
use Rattle.rsim_top.specs.declared.refusal.File.TheVariants as which
use Rattle.rsim_top.specs.declared.refusal.Refusal.{Refusal}
use Rattle.rsim_top.specs.declared.refusal.Refusal.TheVariants.{Words, Unbuilt, Write, Memory}
use Rattle.rsim_top.specs.Accepted.{IsAccepted}
use Rattle.rsim_top.specs.AskedRun.{AskedRun}
use Rattle.rsim_top.specs.Machine.{certificate_of, order_of, report_of}
use Rattle.rsim_top.specs.Outside.{Outside, IsUntouched, HasFile, HasPrefixOfFile, HasWritten, HasPrefixWritten, MayFail}
use Rattle.rsim_top.specs.Steps.{run_files}
use Rattle.rsim_top.specs.TwoFiles.{LacksMemory, AnswersFiles}

abbrev pub Answer : Type 0
Answer = Result Reported Refusal

-- ---- what stands after a run

-- the run was made, its order is the file of that name, and its report was written
pub record Succeeds (old new : Outside) (want : RunAsked) (text exe : List ℕ) (reported : Reported) : Type 0 where
  pub made : AskedRun want.cycles text exe
  pub counts : reported ≡ record { cycles = made.machine.cycles; retired = all_retired made.machine.cores }
  pub order : HasFile want.order (order_of made.config.model made.machine) old.shelf.files new.shelf.files
  pub report : HasWritten (report_of made.machine) old.sink.written new.sink.written
  -- `rsimcheck` accepts the order
  pub accepted : IsAccepted made.image (order_of made.config.model made.machine) (accepted_of (certificate_of made.config.model made.machine))

-- the order was not written whole, and nothing was written of the report
pub record StopsAtOrder (old new : Outside) (want : RunAsked) (text exe : List ℕ) : Type 0 where
  pub made : AskedRun want.cycles text exe
  pub order : HasPrefixOfFile want.order (order_of made.config.model made.machine) old.shelf.files new.shelf.files
  pub report : new.sink.written ≡ old.sink.written

-- the order is whole, and a prefix of the report was written
pub record StopsAtReport (old new : Outside) (want : RunAsked) (text exe : List ℕ) : Type 0 where
  pub made : AskedRun want.cycles text exe
  pub order : HasFile want.order (order_of made.config.model made.machine) old.shelf.files new.shelf.files
  pub report : HasPrefixWritten (report_of made.machine) old.sink.written new.sink.written

-- ---- the answers

-- Nothing is refused: what is answered then, with this configuration and this executable.
abbrev pub AnswersRun : Outside → Outside → RunAsked → List ℕ → List ℕ → Answer → Type 0
AnswersRun old new want text exe (Ok reported) = Succeeds old new want text exe reported
-- the shelf failed while the order was written
AnswersRun old new want text exe (Err (Write which.Order)) =
    MayFail old.shelf.is_sure old.shelf.faults new.shelf.faults × StopsAtOrder old new want text exe
-- the sink failed while the report was written
AnswersRun old new want text exe (Err (Write which.Report)) =
    MayFail old.sink.is_sure old.sink.faults new.sink.faults × StopsAtReport old new want text exe
-- memory was short
AnswersRun old new want text exe (Err Memory) = StopsAtOrder old new want text exe ⊎ StopsAtReport old new want text exe
-- no other answer is given
AnswersRun old new want text exe (Err _) = ⊥

-- the executable is the file of this name
abbrev pub AnswersFile : Outside → Outside → RunAsked → List ℕ → Answer → Type 0
AnswersFile old new want name result = AnswersFiles (AnswersRun old new want) old new (run_files want.cycles want.config name) result

-- Executables are not generated yet.
abbrev pub AnswersExecutable : Outside → Outside → RunAsked → AskedExecutable → Answer → Type 0
AnswersExecutable old new want (generated seed) result = (result ≡ Err Unbuilt) × IsUntouched old new
AnswersExecutable old new want (file name) result = AnswersFile old new want name result

-- Words that are wrong are refused, and nothing else is done.
abbrev pub AnswersWords : Outside → Outside → Result RunAsked WordsFault → Answer → Type 0
AnswersWords old new (Err fault) result = (result ≡ Err (Words fault)) × IsUntouched old new
AnswersWords old new (Ok want) result = AnswersExecutable old new want want.executable result

-- the answer to a command line
abbrev pub Answers : List (List ℕ) → Outside → Outside → Answer → Type 0
Answers words old new result = LacksMemory old new result ⊎ AnswersWords old new (asked_of_run words) result
