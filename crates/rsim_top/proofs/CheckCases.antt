-- The answer of a check, from what its parts answered.
use Rattle.std.proofs.Common.{◌≡◌, ℕ, List, Ok, Err, ⊎_elim, subst}
use Rattle.command_words.specs.Asked.{CheckAsked}
use Rattle.elf64_load.specs.Image.{ImageView}
use Rattle.rsim_top.specs.declared.refusal.Refusal.{Refusal}
use Rattle.rsim_top.specs.declared.verdict.Verdict.{Verdict}
use Rattle.rsim_top.specs.CheckAnswers.{AnswersCheck, AnswersCheckFile, IsJudgement, IsVerdictOn, StopsAtVerdict}
use Rattle.rsim_top.specs.CheckParts.{LoadsImage}
use Rattle.rsim_top.specs.Outside.{Shelf, Sink, outside, HasWritten}
use Rattle.rsim_top.specs.Parts.{PutsReport}
use Rattle.rsim_top.specs.Steps.{check_files}
use Rattle.rsim_top.specs.VerdictText.{verdict_text}
use Rattle.rsim_top.proofs.FileAnswers.{Both, Kept-same, unchanged, both_accepted, both_refused}

verdict_on : (exe text : List ℕ) (image : ImageView) (v : Verdict) → LoadsImage exe (Ok image) → IsJudgement image text v → IsVerdictOn exe text v
verdict_on exe text image v loads judged = record { image = image; loaded = loads.0; judged = judged }

-- the executable was refused
pub AnswersCheckFile-no_image : (s0 s1 s2 : Shelf) (k : Sink) (want : CheckAsked) (name exe text read : List ℕ) (why : Refusal) → Both s0 s1 s2 (check_files name want.order) exe text → read ≡ exe → LoadsImage read (Err why) →
    AnswersCheckFile (outside s0 k) (outside s2 k) want name (Err why)
AnswersCheckFile-no_image s0 s1 s2 k want name exe text read why both same fails =
    both_refused (AnswersCheck (outside s0 k) (outside s2 k)) s0 s1 s2 k (check_files name want.order) exe text why both (subst (λ bytes. LoadsImage bytes (Err why)) same fails)

-- the verdict was not told whole
pub AnswersCheckFile-at_verdict : (s0 s1 s2 : Shelf) (k0 k1 : Sink) (want : CheckAsked) (name exe text : List ℕ) (image : ImageView) (v : Verdict) (why : Refusal) → Both s0 s1 s2 (check_files name want.order) exe text →
    LoadsImage exe (Ok image) → IsJudgement image text v → PutsReport k0 k1 (verdict_text v) (Err why) → AnswersCheckFile (outside s0 k0) (outside s2 k1) want name (Err why)
AnswersCheckFile-at_verdict s0 s1 s2 k0 k1 want name exe text image v why both loads judged put =
    both_accepted (AnswersCheck (outside s0 k0) (outside s2 k1)) s0 s1 s2 s2 k0 k1 (check_files name want.order) exe text (Err why) both (Kept-same s2) loads.1
    (⊎_elim (λ memory. rw memory stops) (λ failed. rw failed.0 (failed.1, stops)) put.1)
  where
    stops : StopsAtVerdict (outside s0 k0) (outside s2 k1) exe text
    stops = record { verdict = v; is = verdict_on exe text image v loads judged; files = unchanged _ _ _ _ _ _ both; written = put.0 }

-- the verdict was told
pub AnswersCheckFile-at_end : (s0 s1 s2 : Shelf) (k0 k1 : Sink) (want : CheckAsked) (name exe text : List ℕ) (image : ImageView) (v : Verdict) → Both s0 s1 s2 (check_files name want.order) exe text →
    LoadsImage exe (Ok image) → IsJudgement image text v → HasWritten (verdict_text v) k0.written k1.written → AnswersCheckFile (outside s0 k0) (outside s2 k1) want name (Ok v)
AnswersCheckFile-at_end s0 s1 s2 k0 k1 want name exe text image v both loads judged written =
    both_accepted (AnswersCheck (outside s0 k0) (outside s2 k1)) s0 s1 s2 s2 k0 k1 (check_files name want.order) exe text (Ok v) both (Kept-same s2) loads.1
    (record { is = verdict_on exe text image v loads judged; files = unchanged _ _ _ _ _ _ both; written = written })
