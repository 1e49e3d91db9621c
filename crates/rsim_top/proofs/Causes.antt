-- That each cause of a run's answer is always answered, and that where nothing is wrong and nothing fails nothing is refused.
use Rattle.std.proofs.Common.{◌≡◌, ◌⊎◌, ◌*◌, ℕ, nat_le, not, Bool, true, false, List, Option, Some, None, option_map, Result, Ok, Err, ⊎_elim, inl, inr, subst, refl}
use Rattle.std.specs.Option.{option_or}
use Rattle.rsim_base.specs.Limits.{max_steps}
use Rattle.machine_config.specs.declared.fault.ConfigFault.{ConfigFault}
use Rattle.machine_config.specs.Faults.{first_fault as config_fault, given}
use Rattle.machine_config.specs.Keys.{processors, retire_width}
use Rattle.elf64_load.specs.Faults.{first_fault as elf_fault}
use Rattle.elf64_load.specs.declared.fault.ElfFault.{ElfFault}
use Rattle.command_words.specs.declared.fault.WordsFault.{WordsFault}
use Rattle.command_words.specs.Asked.{RunAsked, asked_of_run, AskedExecutable, file, generated}
use Rattle.rsim_top.specs.declared.refusal.File.{File}
use Rattle.rsim_top.specs.declared.refusal.File.TheVariants.{Config, Exe, Order, Report}
use Rattle.rsim_top.specs.declared.refusal.Refusal.TheVariants as refusal
use Rattle.rsim_top.specs.Answers.{Answer, Answers, AnswersWords, AnswersExecutable, AnswersFile, AnswersRun}
use Rattle.rsim_top.specs.Causes.{IsAsked, IsExact, IsComplete}
use Rattle.rsim_top.specs.FileCauses.{IsDone}
use Rattle.rsim_top.specs.Outside.{Outside, MayFail}
use Rattle.rsim_top.specs.Steps.{run_files}
use Rattle.rsim_top.specs.TwoFiles.{when}
use Rattle.rsim_top.proofs.FileCauses.{AreExact-from_answer, AreExact-lacking, AreComplete-from_answer, AreComplete-lacking, IsSettled, failed_write}

-- ---- the answer to words that name a file

abbrev at_words : (words : List (List ℕ)) (old new : Outside) (result : Answer) (asked : Result RunAsked WordsFault) → asked_of_run words ≡ asked → Answers words old new result →
    (result ≡ Err refusal.Memory) ⊎ AnswersWords old new asked result
at_words words old new result asked is answer =
    ⊎_elim (λ short. inl short.0) (λ says. inr (subst (λ a. AnswersWords old new a result) is says)) answer

at_file : (words : List (List ℕ)) (old new : Outside) (result : Answer) (want : RunAsked) (exe : List ℕ) → IsAsked words want exe → Answers words old new result → (result ≡ Err refusal.Memory) ⊎ AnswersFile old new want exe result
at_file words old new result want exe asked answer =
    ⊎_elim inl (λ says. inr (subst (λ e. AnswersExecutable old new want e result) asked.named says)) (at_words words old new result (Ok want) asked.asked answer)

pub IsExact-from_answer : (words : List (List ℕ)) (old new : Outside) (result : Answer) → Answers words old new result → IsExact words old result
IsExact-from_answer words old new result answer = record {
  wrong_words = λ fault wrong. ⊎_elim inr (λ says. inl says.0) (at_words words old new result (Err fault) wrong answer);
  not_built = λ want seed asked is. ⊎_elim inr (λ says. let made = subst (λ e. AnswersExecutable old new want e result) is says in inl made.0) (at_words words old new result (Ok want) asked answer);
  files = λ want exe asked. ⊎_elim (AreExact-lacking old (run_files want.cycles want.config exe) result)
      (AreExact-from_answer (AnswersRun old new want) old new (run_files want.cycles want.config exe) result) (at_file words old new result want exe asked answer);
}

-- ---- nothing is wrong

-- an answer to a run that nothing was refused of, where nothing may have failed
done : (old new : Outside) (want : RunAsked) (text exe : List ℕ) (result : Answer) → (MayFail old.shelf.is_sure old.shelf.faults new.shelf.faults → ⊥) → (MayFail old.sink.is_sure old.sink.faults new.sink.faults → ⊥) →
    AnswersRun old new want text exe result → IsDone result
done old new want text exe (Ok reported) shelf sink says = tt
done old new want text exe (Err (refusal.Write Order)) shelf sink says = absurd (shelf says.0)
done old new want text exe (Err (refusal.Write Report)) shelf sink says = absurd (sink says.0)
done old new want text exe (Err refusal.Memory) shelf sink says = tt
done old new want text exe (Err (refusal.Write Config)) shelf sink says = absurd says
done old new want text exe (Err (refusal.Write Exe)) shelf sink says = absurd says
done old new want text exe (Err (refusal.Words fault)) shelf sink says = absurd says
done old new want text exe (Err (refusal.Read which)) shelf sink says = absurd says
done old new want text exe (Err (refusal.Big which)) shelf sink says = absurd says
done old new want text exe (Err (refusal.Config fault)) shelf sink says = absurd says
done old new want text exe (Err refusal.TooLong) shelf sink says = absurd says
done old new want text exe (Err refusal.Unbuilt) shelf sink says = absurd says
done old new want text exe (Err (refusal.Elf fault)) shelf sink says = absurd says

-- what is refused of a configuration and an executable is no failed read
no_read : (config : Option ConfigFault) (long : Bool) (elf : Option ElfFault) (which : File) →
    option_or (option_or (option_map refusal.Config config) (when long refusal.TooLong)) (option_map refusal.Elf elf) ≡ Some (refusal.Read which) → ⊥
no_read (Some fault) long elf which is = absurd cc
no_read None true elf which is = absurd cc
no_read None false (Some fault) which is = absurd cc
no_read None false None which is = absurd cc

settled : (old new : Outside) (want : RunAsked) (exe : List ℕ) → IsSettled (AnswersRun old new want) old new (run_files want.cycles want.config exe)
settled old new want exe = record {
  reads = λ text bytes which says. says;
  done = λ text bytes result. done old new want text bytes result;
  refuses = λ text bytes which. no_read (config_fault text) (not (nat_le (want.cycles * given text processors * given text retire_width) max_steps)) (elf_fault bytes) which;
  apart = λ same. absurd cc;
}

-- a write that failed comes from a sink or a shelf that may fail
failed : (words : List (List ℕ)) (old new : Outside) (which : File) → Answers words old new (Err (refusal.Write which)) →
    (which ≡ Order → MayFail old.shelf.is_sure old.shelf.faults new.shelf.faults → ⊥) → (which ≡ Report → MayFail old.sink.is_sure old.sink.faults new.sink.faults → ⊥) → ⊥
failed words old new which answer shelf sink = ⊎_elim (λ short. let no = short.0 in absurd cc) (λ says. by_words (asked_of_run words) says) answer
  where
    by_run : (which : File) → (which ≡ Order → MayFail old.shelf.is_sure old.shelf.faults new.shelf.faults → ⊥) → (which ≡ Report → MayFail old.sink.is_sure old.sink.faults new.sink.faults → ⊥) →
        (want : RunAsked) (text exe : List ℕ) → AnswersRun old new want text exe (Err (refusal.Write which)) → ⊥
    by_run Order shelf sink want text exe says = shelf refl says.0
    by_run Report shelf sink want text exe says = sink refl says.0
    by_run Config shelf sink want text exe says = says
    by_run Exe shelf sink want text exe says = says

    no_write : (config : Option ConfigFault) (long : Bool) (elf : Option ElfFault) →
        option_or (option_or (option_map refusal.Config config) (when long refusal.TooLong)) (option_map refusal.Elf elf) ≡ Some (refusal.Write which) → ⊥
    no_write (Some fault) long elf is = absurd cc
    no_write None true elf is = absurd cc
    no_write None false (Some fault) is = absurd cc
    no_write None false None is = absurd cc

    by_executable : (want : RunAsked) (executable : AskedExecutable) → AnswersExecutable old new want executable (Err (refusal.Write which)) → ⊥
    by_executable want (generated seed) says = let no = says.0 in absurd cc
    by_executable want (file name) says = failed_write (AnswersRun old new want) old new (run_files want.cycles want.config name) which
        (λ text bytes. no_write (config_fault text) (not (nat_le (want.cycles * given text processors * given text retire_width) max_steps)) (elf_fault bytes))
        (λ text bytes. by_run which shelf sink want text bytes) says

    by_words : (asked : Result RunAsked WordsFault) → AnswersWords old new asked (Err (refusal.Write which)) → ⊥
    by_words (Err fault) says = let no = says.0 in absurd cc
    by_words (Ok want) says = by_executable want want.executable says

pub IsComplete-from_answer : (words : List (List ℕ)) (old new : Outside) (result : Answer) → Answers words old new result → IsComplete words old new result
IsComplete-from_answer words old new result answer = record {
  files = λ want exe asked. ⊎_elim (AreComplete-lacking old new (run_files want.cycles want.config exe) result)
      (AreComplete-from_answer (AnswersRun old new want) old new (run_files want.cycles want.config exe) result (settled old new want exe)) (at_file words old new result want exe asked answer);
  sure_order = λ shelf is. failed words old new Order (rw is at answer) (λ same failed. failed.1 shelf) (λ other failed. absurd cc);
  sure_report = λ sink is. failed words old new Report (rw is at answer) (λ other failed. absurd cc) (λ same failed. failed.1 sink);
}
