-- A node to which a line is promised has an open register for it.
use Rattle.std.proofs.Common.{◌≡◌, ℕ, Bool, true, List, ap}
use Rattle.memory_contracts.specs.Protocol.Coherent.{IsPromised, fresh, upgraded}
use Rattle.memory_contracts.specs.Protocol.Lines.{Stance}

pub promised_waits : (g : List ℕ) (may : Bool) (s : Stance) → IsPromised g may s → s.register ≡ true
promised_waits g may s (fresh e) = ap (λ s. s.register) e
promised_waits g _ s (upgraded e) = ap (λ s. s.register) e
