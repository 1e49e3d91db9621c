-- What the text of an order tells: the machine's model and number of processors, the accesses in order, and how many
-- steps each processor retired.
use Rattle.std.specs.Prelude.{◌≡◌, ℕ, ◌<◌, ◌≤◌, false, List, length, sum, slice_get, Some}
use Rattle.rsim_base.specs.Accesses.{loads, stores}
use Rattle.rsim_base.specs.Limits.{max_processors, max_steps}
use Rattle.rsim_base.specs.declared.memory.Access.{Access}
use Rattle.rsim_base.specs.declared.memory.Model.{Model}
use Rattle.order_certificate.specs.OrderText.{IsPrintable, certificate}

pub record CertificateView : Type 0 where
  pub model : Model
  pub processors : ℕ
  pub lines : List Access
  pub counts : List ℕ

-- an access that a line can tell: the value that its kind lacks is 0
pub record IsInText (e : Access) : Type 0 where
  pub node : e.node.0 < 256
  pub index : e.index < max_steps
  pub printable : IsPrintable e
  pub loaded : loads e.kind ≡ false → e.loaded ≡ 0
  pub stored : stores e.kind ≡ false → e.stored ≡ 0

-- an order that a text can tell; a step makes one access at most, so there are no more lines than steps
pub record IsCertificate (c : CertificateView) : Type 0 where
  pub some : 1 ≤ c.processors
  pub most : c.processors ≤ max_processors
  pub counts : length c.counts ≡ c.processors
  pub few_steps : sum c.counts ≤ max_steps
  pub few_lines : length c.lines ≤ max_steps
  pub in_text : (j : ℕ) (e : Access) → slice_get c.lines j ≡ Some e → IsInText e

abbrev pub text_of : CertificateView → List ℕ
text_of c = certificate c.model c.processors c.lines c.counts
