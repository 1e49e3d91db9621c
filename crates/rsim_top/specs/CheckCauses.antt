-- The causes of what `check_command` answers, the other way round: what is wrong is always refused, with its own refusal; an
-- order that fits is always accepted, and one that does not always rejected, with its first fault.
use Rattle.std.specs.Prelude.{◌≡◌, ◌⊎◌, ℕ, IsTrue, List, Some, None, Result, Ok, Err}
use Rattle.command_words.specs.declared.fault.WordsFault.{WordsFault}
use Rattle.command_words.specs.Asked.{CheckAsked, asked_of_check, file, generated}
use Rattle.elf64_load.specs.Faults.{Loads}
use Rattle.elf64_load.specs.Image.{ImageView}
use Rattle.order_certificate.specs.Certificate.{CertificateView, IsCertificate, text_of}
use Rattle.order_certificate.specs.Reading.{IsRead}
use Rattle.order_certificate.specs.declared.fault.TextFault.{TextFault}
use Rattle.order_checker.specs.Checked.{accepted, verdict}
use Rattle.order_checker.specs.Fit.{Fit}
use Rattle.order_checker.specs.declared.verdict.Rejected.{Rejected as Fault}
use Rattle.sparc_meaning.specs.Run.{Ran}
use Rattle.rsim_top.specs.declared.refusal.File.TheVariants.{Exe, Order, Report}
use Rattle.rsim_top.specs.declared.refusal.Refusal.TheVariants.{Words, Read, Unbuilt, Write, Memory}
use Rattle.rsim_top.specs.declared.verdict.Verdict.{Verdict}
use Rattle.rsim_top.specs.declared.verdict.Verdict.TheVariants.{Accepted, Rejected}
use Rattle.rsim_top.specs.CheckAnswers.{CheckAnswer}
use Rattle.rsim_top.specs.FileCauses.{IsHeld, IsRefused, AreExact, AreComplete}
use Rattle.rsim_top.specs.Outside.{Outside}
use Rattle.rsim_top.specs.Steps.{check_files}
use Rattle.rsim_top.specs.TwoFiles.{first_refusal}

-- the words are good, and name a file as the executable
pub record IsCheckAsked (words : List (List ℕ)) (want : CheckAsked) (exe : List ℕ) : Type 0 where
  pub asked : asked_of_check words ≡ Ok want
  pub named : want.executable ≡ file exe

-- Both files are there, nothing is refused of them, and the executable has this image.
pub record IsPut (old : Outside) (exe order bytes text : List ℕ) (image : ImageView) : Type 0 where
  pub has_exe : IsHeld old.shelf.files exe bytes
  pub has_order : IsHeld old.shelf.files order text
  pub fits : first_refusal (check_files exe order) (Some bytes) (Some text) ≡ None
  pub loads : Loads bytes (Ok image)

-- the answer is this verdict, unless memory was short or a fetch or the sink failed
abbrev pub IsTold : Verdict → CheckAnswer → Type 0
IsTold verdict result =
    (result ≡ Ok verdict) ⊎ ((result ≡ Err Memory) ⊎ ((result ≡ Err (Read Exe)) ⊎ ((result ≡ Err (Read Order)) ⊎ (result ≡ Err (Write Report)))))

-- Each cause, unless memory was short.
pub record IsExactCheck (words : List (List ℕ)) (old : Outside) (result : CheckAnswer) : Type 0 where
  -- wrong words
  pub wrong_words : (fault : WordsFault) → asked_of_check words ≡ Err fault → IsRefused (Words fault) result
  -- an executable that is to be generated
  pub not_built : (want : CheckAsked) (seed : ℕ) → asked_of_check words ≡ Ok want → want.executable ≡ generated seed → IsRefused Unbuilt result
  -- what is wrong with the executable, and a missing or too long order
  pub files : (want : CheckAsked) (exe : List ℕ) → IsCheckAsked words want exe → AreExact (check_files exe want.order) old result
  -- an order that fits
  pub fitting : (want : CheckAsked) (exe bytes text : List ℕ) (image : ImageView) (order : CertificateView) (runs : List Ran) → IsCheckAsked words want exe → IsPut old exe want.order bytes text image
      → IsCertificate order → text ≡ text_of order → Fit image order.model order.counts order.lines runs → IsTold (Accepted (accepted order)) result
  -- one that does not, and a text that tells none
  pub faulty : (want : CheckAsked) (exe bytes text : List ℕ) (image : ImageView) (order : Result CertificateView TextFault) (why : Fault) → IsCheckAsked words want exe → IsPut old exe want.order bytes text image
      → IsRead text order → verdict image order ≡ Err why → IsTold (Rejected why) result

-- Where nothing is wrong and nothing fails, a verdict is told or memory was short.
pub record IsCompleteCheck (words : List (List ℕ)) (old new : Outside) (result : CheckAnswer) : Type 0 where
  pub files : (want : CheckAsked) (exe : List ℕ) → IsCheckAsked words want exe → AreComplete (check_files exe want.order) old new result
  -- a sure sink takes the verdict
  pub sure_report : IsTrue old.sink.is_sure → result ≡ Err (Write Report) → ⊥
