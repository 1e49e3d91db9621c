-- Laws of the faults of orders.
use Rattle.std.specs.Prelude.{◌≡◌, List, None}
use Rattle.elf64_load.specs.Image.{ImageView}
use Rattle.order_certificate.specs.Certificate.{CertificateView, IsCertificate}
use Rattle.sparc_meaning.specs.Run.{Ran}
use Rattle.order_checker.specs.Faults.{first_fault}
use Rattle.order_checker.specs.Fit.{Fit}

-- an order without a fault fits
abbrev pub FaultlessFits : Type 0
FaultlessFits = (image : ImageView) (c : CertificateView) → IsCertificate c → first_fault image c ≡ None → (runs : List Ran) × Fit image c.model c.counts c.lines runs

-- an order that fits has no fault
abbrev pub FittingIsFaultless : Type 0
FittingIsFaultless = (image : ImageView) (c : CertificateView) (runs : List Ran) → IsCertificate c → Fit image c.model c.counts c.lines runs → first_fault image c ≡ None
