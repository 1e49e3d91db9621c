-- The causes of what `run_command` answers, the other way round: what is wrong is always refused, with its own refusal, and
-- where nothing is wrong nothing is refused.
use Rattle.std.specs.Prelude.{◌≡◌, ℕ, IsTrue, List, Ok, Err}
use Rattle.command_words.specs.declared.fault.WordsFault.{WordsFault}
use Rattle.command_words.specs.Asked.{RunAsked, asked_of_run, file, generated}
use Rattle.rsim_top.specs.declared.refusal.File.TheVariants.{Order, Report}
use Rattle.rsim_top.specs.declared.refusal.Refusal.TheVariants.{Words, Unbuilt, Write}
use Rattle.rsim_top.specs.Answers.{Answer}
use Rattle.rsim_top.specs.FileCauses.{IsRefused, AreExact, AreComplete}
use Rattle.rsim_top.specs.Outside.{Outside}
use Rattle.rsim_top.specs.Steps.{run_files}

-- the words are good, and name a file as the executable
pub record IsAsked (words : List (List ℕ)) (want : RunAsked) (exe : List ℕ) : Type 0 where
  pub asked : asked_of_run words ≡ Ok want
  pub named : want.executable ≡ file exe

-- Each cause, unless memory was short.
pub record IsExact (words : List (List ℕ)) (old : Outside) (result : Answer) : Type 0 where
  -- wrong words
  pub wrong_words : (fault : WordsFault) → asked_of_run words ≡ Err fault → IsRefused (Words fault) result
  -- an executable that is to be generated
  pub not_built : (want : RunAsked) (seed : ℕ) → asked_of_run words ≡ Ok want → want.executable ≡ generated seed → IsRefused Unbuilt result
  -- what is wrong with the configuration or the executable
  pub files : (want : RunAsked) (exe : List ℕ) → IsAsked words want exe → AreExact (run_files want.cycles want.config exe) old result

-- Where nothing is wrong and nothing fails, the run is reported or memory was short.
pub record IsComplete (words : List (List ℕ)) (old new : Outside) (result : Answer) : Type 0 where
  pub files : (want : RunAsked) (exe : List ℕ) → IsAsked words want exe → AreComplete (run_files want.cycles want.config exe) old new result
  -- a sure shelf takes the order, and a sure sink the report
  pub sure_order : IsTrue old.shelf.is_sure → result ≡ Err (Write Order) → ⊥
  pub sure_report : IsTrue old.sink.is_sure → result ≡ Err (Write Report) → ⊥
