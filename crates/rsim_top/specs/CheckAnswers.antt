-- The answers of `check_command`: what each of them says of the command line, the files and the failures, and what stands
-- after it.
use Rattle.std.specs.Prelude.{◌≡◌, ◌⊎◌, ℕ, List, Result, Ok, Err}
use Rattle.command_words.specs.declared.fault.WordsFault.{WordsFault}
use Rattle.command_words.specs.Asked.{CheckAsked, asked_of_check, AskedExecutable, file, generated}
use Rattle.elf64_load.specs.Faults.{Loads}
use Rattle.elf64_load.specs.Image.{ImageView}
use Rattle.order_certificate.specs.Certificate.{CertificateView, IsCertificate, text_of}
use Rattle.order_certificate.specs.Reading.{IsRead}
use Rattle.order_certificate.specs.declared.fault.TextFault.{TextFault}
use Rattle.order_checker.specs.Checked.{IsVerdict, accepted, verdict as verdict_on}
use Rattle.order_checker.specs.Fit.{Fit}
use Rattle.order_checker.specs.declared.verdict.Accepted.{Accepted as Told}
use Rattle.order_checker.specs.declared.verdict.Rejected.{Rejected as Fault}
use Rattle.order_checker.specs.declared.verdict.Rejected.TheVariants as fault
use Rattle.sparc_meaning.specs.Run.{Ran}
use Rattle.rsim_top.specs.declared.refusal.File.TheVariants as which
use Rattle.rsim_top.specs.declared.refusal.Refusal.{Refusal}
use Rattle.rsim_top.specs.declared.refusal.Refusal.TheVariants.{Words, Unbuilt, Write, Memory}
use Rattle.rsim_top.specs.declared.verdict.Verdict.{Verdict}
use Rattle.rsim_top.specs.declared.verdict.Verdict.TheVariants.{Accepted, Rejected}
use Rattle.rsim_top.specs.Accepted.{IsAccepted}
use Rattle.rsim_top.specs.Outside.{Outside, IsUntouched, HasWritten, HasPrefixWritten, MayFail}
use Rattle.rsim_top.specs.Steps.{check_files}
use Rattle.rsim_top.specs.TwoFiles.{LacksMemory, AnswersFiles}
use Rattle.rsim_top.specs.VerdictText.{verdict_text}

abbrev pub CheckAnswer : Type 0
CheckAnswer = Result Verdict Refusal

-- ---- verdicts

-- the text tells no order, or this is the first fault of the one that it tells; want of memory is none
pub record IsRejected (image : ImageView) (text : List ℕ) (why : Fault) : Type 0 where
  pub first : IsVerdict image text (Err why)
  pub told : why ≡ fault.Memory → ⊥

abbrev pub IsJudged : ImageView → List ℕ → Verdict → Type 0
IsJudged image text (Accepted told) = IsAccepted image text told
IsJudged image text (Rejected why) = IsRejected image text why

-- the verdict as the checker answers it
abbrev pub verdict_of : Result Told Fault → Verdict
verdict_of (Ok told) = Accepted told
verdict_of (Err why) = Rejected why

-- The verdict on a text; it is the one for each order that fits, and for each thing that the text may be read as.
pub record IsJudgement (image : ImageView) (text : List ℕ) (verdict : Verdict) : Type 0 where
  pub judged : IsJudged image text verdict
  pub fitting : (order : CertificateView) (runs : List Ran) → IsCertificate order → text ≡ text_of order → Fit image order.model order.counts order.lines runs → verdict ≡ Accepted (accepted order)
  pub read : (order : Result CertificateView TextFault) → IsRead text order → verdict ≡ verdict_of (verdict_on image order)

-- the verdict on this order for this executable
pub record IsVerdictOn (exe text : List ℕ) (verdict : Verdict) : Type 0 where
  pub image : ImageView
  pub loaded : Loads exe (Ok image)
  pub judged : IsJudgement image text verdict

-- ---- what stands after a check

-- the verdict was told, and no file changed
pub record Tells (old new : Outside) (exe text : List ℕ) (verdict : Verdict) : Type 0 where
  pub is : IsVerdictOn exe text verdict
  pub files : new.shelf.files ≡ old.shelf.files
  pub written : HasWritten (verdict_text verdict) old.sink.written new.sink.written

-- a prefix of the verdict was told
pub record StopsAtVerdict (old new : Outside) (exe text : List ℕ) : Type 0 where
  pub verdict : Verdict
  pub is : IsVerdictOn exe text verdict
  pub files : new.shelf.files ≡ old.shelf.files
  pub written : HasPrefixWritten (verdict_text verdict) old.sink.written new.sink.written

-- ---- the answers

-- Nothing is refused: what is answered then, with this executable and this order.
abbrev pub AnswersCheck : Outside → Outside → List ℕ → List ℕ → CheckAnswer → Type 0
AnswersCheck old new exe text (Ok verdict) = Tells old new exe text verdict
-- the sink failed while the verdict was told
AnswersCheck old new exe text (Err (Write which.Report)) =
    MayFail old.sink.is_sure old.sink.faults new.sink.faults × StopsAtVerdict old new exe text
-- memory was short
AnswersCheck old new exe text (Err Memory) = StopsAtVerdict old new exe text
-- no other answer is given
AnswersCheck old new exe text (Err _) = ⊥

abbrev pub AnswersCheckFile : Outside → Outside → CheckAsked → List ℕ → CheckAnswer → Type 0
AnswersCheckFile old new want name result = AnswersFiles (AnswersCheck old new) old new (check_files name want.order) result

-- Executables are not generated yet.
abbrev pub AnswersCheckExecutable : Outside → Outside → CheckAsked → AskedExecutable → CheckAnswer → Type 0
AnswersCheckExecutable old new want (generated seed) result = (result ≡ Err Unbuilt) × IsUntouched old new
AnswersCheckExecutable old new want (file name) result = AnswersCheckFile old new want name result

-- Words that are wrong are refused, and nothing else is done.
abbrev pub AnswersCheckWords : Outside → Outside → Result CheckAsked WordsFault → CheckAnswer → Type 0
AnswersCheckWords old new (Err fault) result = (result ≡ Err (Words fault)) × IsUntouched old new
AnswersCheckWords old new (Ok want) result = AnswersCheckExecutable old new want want.executable result

-- the answer to a command line
abbrev pub ChecksAnswer : List (List ℕ) → Outside → Outside → CheckAnswer → Type 0
ChecksAnswer words old new result = LacksMemory old new result ⊎ AnswersCheckWords old new (asked_of_check words) result
