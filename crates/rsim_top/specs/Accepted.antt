-- Orders that are accepted.
use Rattle.std.specs.Prelude.{◌≡◌, ℕ, List}
use Rattle.elf64_load.specs.Image.{ImageView}
use Rattle.order_certificate.specs.Certificate.{CertificateView, IsCertificate, text_of}
use Rattle.order_checker.specs.Checked.{accepted}
use Rattle.order_checker.specs.Fit.{Fit}
use Rattle.order_checker.specs.declared.verdict.Accepted.{Accepted as Told}
use Rattle.sparc_meaning.specs.Run.{Ran}

-- the text is that of an order that fits the image, and this is what is told of it
pub record IsAccepted (image : ImageView) (text : List ℕ) (told : Told) : Type 0 where
  pub order : CertificateView
  pub is : IsCertificate order
  pub text_is : text ≡ text_of order
  pub told_is : told ≡ accepted order
  pub runs : List Ran
  pub fits : Fit image order.model order.counts order.lines runs
