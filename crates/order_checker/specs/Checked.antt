-- What a check answers, for each text.
use Rattle.std.specs.Prelude.{◌≡◌, ℕ, Bool, true, false, List, length, sum, Option, None, Some, Result, Ok, Err}
use Rattle.elf64_load.specs.Image.{ImageView}
use Rattle.order_certificate.specs.Certificate.{CertificateView}
use Rattle.order_certificate.specs.Reading.{IsRead}
use Rattle.order_certificate.specs.declared.fault.TextFault.{TextFault}
use Rattle.order_certificate.specs.declared.fault.TextFault.TheVariants as text_fault
use Rattle.order_checker.specs.declared.verdict.Accepted.{Accepted}
use Rattle.order_checker.specs.declared.verdict.Rejected.{Rejected}
use Rattle.order_checker.specs.declared.verdict.Rejected.TheVariants.{Memory, Text}
use Rattle.order_checker.specs.Faults.{first_fault}

-- how many steps the order tells of, and how many accesses
abbrev pub accepted : CertificateView → Accepted
accepted c = record { retired = sum c.counts; entries = length c.lines }

-- why a text that gives no order is rejected
abbrev pub rejected : TextFault → Rejected
rejected text_fault.Memory = Memory
rejected fault = Text fault

-- the fault is of a text
abbrev pub is_of_text : Rejected → Bool
is_of_text (Text fault) = true
is_of_text _ = false

abbrev pub unless_fault : CertificateView → Option Rejected → Result Accepted Rejected
unless_fault c None = Ok (accepted c)
unless_fault c (Some r) = Err r

-- the verdict on what a text is read as: its fault, or the first of the order, or none
abbrev pub verdict : ImageView → Result CertificateView TextFault → Result Accepted Rejected
verdict image (Err fault) = Err (Text fault)
verdict image (Ok c) = unless_fault c (first_fault image c)

-- the answer is so, unless memory could not be had
abbrev pub Checks : (Result Accepted Rejected → Type 0) → Result Accepted Rejected → Type 0
Checks P (Err Memory) = Unit {0}
Checks P r = P r

-- the answer is the verdict on the text
pub record IsVerdict (image : ImageView) (text : List ℕ) (answer : Result Accepted Rejected) : Type 0 where
  pub order : Result CertificateView TextFault
  pub is_read : IsRead text order
  pub is : answer ≡ verdict image order
