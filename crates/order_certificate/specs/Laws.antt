-- Laws of the texts of orders.
use Rattle.std.specs.Prelude.{◌≡◌, ℕ, ◌<◌, List, length, take, Result, Err}
use Rattle.order_certificate.specs.declared.fault.TextFault.{TextFault}
use Rattle.order_certificate.specs.declared.fault.TextFault.TheVariants.{Truncated}
use Rattle.order_certificate.specs.Certificate.{CertificateView, IsCertificate, text_of}
use Rattle.order_certificate.specs.Reading.{IsRead}

-- two orders do not have one text
abbrev pub TextsDiffer : Type 0
TextsDiffer = (c d : CertificateView) → IsCertificate c → IsCertificate d → text_of c ≡ text_of d → c ≡ d

-- a front of an order's text, but for the whole, is read as cut off, and as nothing else
abbrev pub FrontsAreTruncated : Type 0
FrontsAreTruncated = (c : CertificateView) (k : ℕ) (r : Result CertificateView TextFault) → IsCertificate c → k < length (text_of c) → IsRead (take k (text_of c)) r → r ≡ Err Truncated

-- a text is read as one thing
abbrev pub ReadsOnce : Type 0
ReadsOnce = (text : List ℕ) (r s : Result CertificateView TextFault) → IsRead text r → IsRead text s → r ≡ s
