-- That each cause of a check's answer is always answered, that an order that fits is always accepted and one that does not
-- rejected, and that where nothing is wrong and nothing fails nothing is refused.
use Rattle.std.proofs.Common.{◌≡◌, ◌⊎◌, ℕ, List, Option, Some, None, option_map, Result, Ok, Err, ⊎_elim, inl, inr, subst, refl, sym, ap, ◌∙◌}
use Rattle.command_words.specs.declared.fault.WordsFault.{WordsFault}
use Rattle.command_words.specs.Asked.{CheckAsked, asked_of_check, AskedExecutable, file, generated}
use Rattle.elf64_load.specs.Faults.{first_fault as elf_fault, Loads}
use Rattle.elf64_load.specs.Image.{ImageView}
use Rattle.elf64_load.specs.declared.fault.ElfFault.{ElfFault}
use Rattle.order_checker.specs.Checked.{accepted}
use Rattle.rsim_top.specs.declared.refusal.File.{File}
use Rattle.rsim_top.specs.declared.refusal.File.TheVariants.{Config, Exe, Order, Report}
use Rattle.rsim_top.specs.declared.refusal.Refusal.TheVariants as refusal
use Rattle.rsim_top.specs.declared.verdict.Verdict.{Verdict}
use Rattle.rsim_top.specs.declared.verdict.Verdict.TheVariants.{Accepted, Rejected}
use Rattle.rsim_top.specs.CheckAnswers.{CheckAnswer, ChecksAnswer, AnswersCheckWords, AnswersCheckExecutable, AnswersCheckFile, AnswersCheck, IsVerdictOn, IsJudgement, verdict_of}
use Rattle.rsim_top.specs.CheckCauses.{IsCheckAsked, IsPut, IsTold, IsExactCheck, IsCompleteCheck}
use Rattle.rsim_top.specs.FileCauses.{IsDone}
use Rattle.rsim_top.specs.Outside.{Outside, MayFail}
use Rattle.rsim_top.specs.Steps.{check_files}
use Rattle.rsim_top.proofs.FileCauses.{AreExact-from_answer, AreExact-lacking, AreComplete-from_answer, AreComplete-lacking, IsSettled, SaidOf, said_of_held, failed_write}

-- ---- the answer to words that name a file

abbrev at_words : (words : List (List ℕ)) (old new : Outside) (result : CheckAnswer) (asked : Result CheckAsked WordsFault) → asked_of_check words ≡ asked → ChecksAnswer words old new result →
    (result ≡ Err refusal.Memory) ⊎ AnswersCheckWords old new asked result
at_words words old new result asked is answer =
    ⊎_elim (λ short. inl short.0) (λ says. inr (subst (λ a. AnswersCheckWords old new a result) is says)) answer

at_file : (words : List (List ℕ)) (old new : Outside) (result : CheckAnswer) (want : CheckAsked) (exe : List ℕ) → IsCheckAsked words want exe → ChecksAnswer words old new result → (result ≡ Err refusal.Memory) ⊎ AnswersCheckFile old new want exe result
at_file words old new result want exe asked answer =
    ⊎_elim inl (λ says. inr (subst (λ e. AnswersCheckExecutable old new want e result) asked.named says)) (at_words words old new result (Ok want) asked.asked answer)

-- ---- verdicts

-- a file has one image
judged_for : (bytes text : List ℕ) (image : ImageView) (v : Verdict) → Loads bytes (Ok image) → IsVerdictOn bytes text v → IsJudgement image text v
judged_for bytes text image v loads is = subst (λ i. IsJudgement i text v) (is.loaded.1 ∙ sym loads.1) is.judged

-- what is told where nothing was refused
told_by : (old new : Outside) (bytes text : List ℕ) (image : ImageView) (v : Verdict) → Loads bytes (Ok image) → ((w : Verdict) → IsJudgement image text w → w ≡ v) → (result : CheckAnswer) → AnswersCheck old new bytes text result → IsTold v result
told_by old new bytes text image v loads one (Ok w) says = inl (ap Ok (one w (judged_for bytes text image w loads says.is)))
told_by old new bytes text image v loads one (Err refusal.Memory) says = inr (inl refl)
told_by old new bytes text image v loads one (Err (refusal.Write Report)) says = inr (inr (inr (inr refl)))
told_by old new bytes text image v loads one (Err (refusal.Write Order)) says = absurd says
told_by old new bytes text image v loads one (Err (refusal.Write Config)) says = absurd says
told_by old new bytes text image v loads one (Err (refusal.Write Exe)) says = absurd says
told_by old new bytes text image v loads one (Err (refusal.Words fault)) says = absurd says
told_by old new bytes text image v loads one (Err (refusal.Read which)) says = absurd says
told_by old new bytes text image v loads one (Err (refusal.Big which)) says = absurd says
told_by old new bytes text image v loads one (Err (refusal.Config fault)) says = absurd says
told_by old new bytes text image v loads one (Err refusal.TooLong) says = absurd says
told_by old new bytes text image v loads one (Err refusal.Unbuilt) says = absurd says
told_by old new bytes text image v loads one (Err (refusal.Elf fault)) says = absurd says

-- the answer is this verdict wherever each judgement of the order is
told : (words : List (List ℕ)) (old new : Outside) (result : CheckAnswer) → ChecksAnswer words old new result → (want : CheckAsked) (exe bytes text : List ℕ) (image : ImageView) (v : Verdict) → IsCheckAsked words want exe →
    IsPut old exe want.order bytes text image → ((w : Verdict) → IsJudgement image text w → w ≡ v) → IsTold v result
told words old new result answer want exe bytes text image v asked put one =
    ⊎_elim (λ short. inr (inl short)) (λ says. of_files (said_of_held (AnswersCheck old new) old new (check_files exe want.order) result says bytes text put.has_exe put.has_order put.fits)) (at_file words old new result want exe asked answer)
  where
    of_files : SaidOf (AnswersCheck old new) (check_files exe want.order) bytes text result → IsTold v result
    of_files (inl short) = inr (inl short)
    of_files (inr (inl read)) = inr (inr (inl read))
    of_files (inr (inr (inl read))) = inr (inr (inr (inl read)))
    of_files (inr (inr (inr says))) = told_by old new bytes text image v put.loads one result says

pub IsExactCheck-from_answer : (words : List (List ℕ)) (old new : Outside) (result : CheckAnswer) → ChecksAnswer words old new result → IsExactCheck words old result
IsExactCheck-from_answer words old new result answer = record {
  wrong_words = λ fault wrong. ⊎_elim inr (λ says. inl says.0) (at_words words old new result (Err fault) wrong answer);
  not_built = λ want seed asked is. ⊎_elim inr (λ says. let made = subst (λ e. AnswersCheckExecutable old new want e result) is says in inl made.0) (at_words words old new result (Ok want) asked answer);
  files = λ want exe asked. ⊎_elim (AreExact-lacking old (check_files exe want.order) result)
      (AreExact-from_answer (AnswersCheck old new) old new (check_files exe want.order) result) (at_file words old new result want exe asked answer);
  fitting = λ want exe bytes text image order runs asked put is whole fit. told words old new result answer want exe bytes text image (Accepted (accepted order)) asked put (λ w judged. judged.fitting order runs is whole fit);
  faulty = λ want exe bytes text image order why asked put is_read faulty. told words old new result answer want exe bytes text image (Rejected why) asked put (λ w judged. judged.read order is_read ∙ ap verdict_of faulty);
}

-- ---- nothing is wrong

done : (old new : Outside) (exe text : List ℕ) (result : CheckAnswer) → (MayFail old.shelf.is_sure old.shelf.faults new.shelf.faults → ⊥) → (MayFail old.sink.is_sure old.sink.faults new.sink.faults → ⊥) →
    AnswersCheck old new exe text result → IsDone result
done old new exe text (Ok v) shelf sink says = tt
done old new exe text (Err (refusal.Write Report)) shelf sink says = absurd (sink says.0)
done old new exe text (Err refusal.Memory) shelf sink says = tt
done old new exe text (Err (refusal.Write Order)) shelf sink says = absurd says
done old new exe text (Err (refusal.Write Config)) shelf sink says = absurd says
done old new exe text (Err (refusal.Write Exe)) shelf sink says = absurd says
done old new exe text (Err (refusal.Words fault)) shelf sink says = absurd says
done old new exe text (Err (refusal.Read which)) shelf sink says = absurd says
done old new exe text (Err (refusal.Big which)) shelf sink says = absurd says
done old new exe text (Err (refusal.Config fault)) shelf sink says = absurd says
done old new exe text (Err refusal.TooLong) shelf sink says = absurd says
done old new exe text (Err refusal.Unbuilt) shelf sink says = absurd says
done old new exe text (Err (refusal.Elf fault)) shelf sink says = absurd says

-- what is refused of an executable is no failed read or write
no_read : (elf : Option ElfFault) (which : File) → option_map refusal.Elf elf ≡ Some (refusal.Read which) → ⊥
no_read (Some fault) which is = absurd cc
no_read None which is = absurd cc

no_write : (elf : Option ElfFault) (which : File) → option_map refusal.Elf elf ≡ Some (refusal.Write which) → ⊥
no_write (Some fault) which is = absurd cc
no_write None which is = absurd cc

settled : (old new : Outside) (exe order : List ℕ) → IsSettled (AnswersCheck old new) old new (check_files exe order)
settled old new exe order = record {
  reads = λ bytes text which says. says;
  done = λ bytes text result. done old new bytes text result;
  refuses = λ bytes text which. no_read (elf_fault bytes) which;
  apart = λ same. absurd cc;
}

-- a verdict that was not told comes from a sink that may fail
failed : (words : List (List ℕ)) (old new : Outside) → ChecksAnswer words old new (Err (refusal.Write Report)) → (MayFail old.sink.is_sure old.sink.faults new.sink.faults → ⊥) → ⊥
failed words old new answer sink = ⊎_elim (λ short. let no = short.0 in absurd cc) (λ says. by_words (asked_of_check words) says) answer
  where
    by_executable : (want : CheckAsked) (executable : AskedExecutable) → AnswersCheckExecutable old new want executable (Err (refusal.Write Report)) → ⊥
    by_executable want (generated seed) says = let no = says.0 in absurd cc
    by_executable want (file name) says = failed_write (AnswersCheck old new) old new (check_files name want.order) Report (λ bytes text. no_write (elf_fault bytes) Report) (λ bytes text said. sink said.0) says

    by_words : (asked : Result CheckAsked WordsFault) → AnswersCheckWords old new asked (Err (refusal.Write Report)) → ⊥
    by_words (Err fault) says = let no = says.0 in absurd cc
    by_words (Ok want) says = by_executable want want.executable says

pub IsCompleteCheck-from_answer : (words : List (List ℕ)) (old new : Outside) (result : CheckAnswer) → ChecksAnswer words old new result → IsCompleteCheck words old new result
IsCompleteCheck-from_answer words old new result answer = record {
  files = λ want exe asked. ⊎_elim (AreComplete-lacking old new (check_files exe want.order) result)
      (AreComplete-from_answer (AnswersCheck old new) old new (check_files exe want.order) result (settled old new exe want.order)) (at_file words old new result want exe asked answer);
  sure_report = λ sink is. failed words old new (rw is at answer) (λ failed. failed.1 sink);
}
