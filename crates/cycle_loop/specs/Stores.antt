-- Which steps may store, as far as it is known before they are made.
use Rattle.std.specs.Prelude.{Bool, true, false, not, ◌&&◌}
use Rattle.rsim_base.specs.Accesses.{loads, stores}
use Rattle.sparc_decode.specs.Kinds.{kind}
use Rattle.sparc_decode.specs.declared.instr.Op.{Op}
use Rattle.sparc_decode.specs.declared.kinds.FormKind.{FormKind}
use Rattle.sparc_decode.specs.declared.kinds.FormKind.TheVariants.{Stores, Saves, DoesNothing}
use Rattle.sparc_meaning.specs.Accesses.{by_access}
use Rattle.sparc_meaning.specs.declared.acts.Act.{Act}
use Rattle.sparc_meaning.specs.declared.arch.ArchPhase.{ArchPhase}
use Rattle.sparc_meaning.specs.declared.arch.ArchPhase.TheVariants.{Run, Spill, Fill}

-- a plain store
abbrev pub is_store : Act → Bool
is_store act = by_access false (λ a. stores a.kind && not (loads a.kind)) act

-- the kinds of forms that store, and those that may spill a window first
abbrev pub may_store_by : FormKind → Bool
may_store_by (Stores size) = true
may_store_by Saves = true
may_store_by DoesNothing = true
may_store_by _ = false

-- the step of a state in this phase, whose instruction is this
abbrev pub may_store : ArchPhase → Op → Bool
may_store Run o = may_store_by (kind o)
may_store (Spill k) o = true
may_store (Fill k) o = false
