-- Why a report was not written.
use Rattle.std.proofs.Common.{◌≡◌, ◌⊎◌, ℕ, Bool, IsTrue, Err, IsErrOf, inl, inr, refl}
use Rattle.rsim_io.specs.Faults.{Rose}
use Rattle.rsim_io.specs.declared.shelf.StoreFault.{StoreFault}
use Rattle.rsim_io.specs.declared.shelf.StoreFault.TheVariants as store
use Rattle.rsim_top.specs.declared.refusal.File.TheVariants as file
use Rattle.rsim_top.specs.declared.refusal.Refusal.TheVariants.{Write, Memory}
use Rattle.rsim_top.specs.Outside.{MayFail}
use Rattle.rsim_top.specs.Refusals.{write_refusal_of}

pub report_refused : (fault : StoreFault) (is_sure : Bool) (before now : ℕ) → (IsErrOf {T = Unit {0}} (Err fault) store.Failed → Rose before now) → (IsTrue is_sure → IsErrOf {T = Unit {0}} (Err fault) store.Failed → ⊥) →
    (write_refusal_of file.Report fault ≡ Memory) ⊎ ((write_refusal_of file.Report fault ≡ Write file.Report) × MayFail is_sure before now)
report_refused store.Failed is_sure before now rose not_sure = inr (refl, (rose refl, λ sure. not_sure sure refl))
report_refused store.Memory is_sure before now rose not_sure = inl refl
