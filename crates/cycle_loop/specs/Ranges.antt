-- What the numbers of a machine have room for.
use Rattle.std.specs.Prelude.{◌≡◌, ℕ, List, Some, slice_get}
use Rattle.order_log.specs.Log.{Place}
use Rattle.sparc_meaning.specs.Accesses.{HasNumbers}
use Rattle.sparc_meaning.specs.Arch.{IsSound}
use Rattle.cycle_loop.specs.Machine.{CoreView, MachineView}

-- addresses and stored values have 64 bits
abbrev pub HaveNumbers : List Place → Type 0
HaveNumbers log = (j : ℕ) (x : Place) → slice_get log j ≡ Some x → HasNumbers x.access

-- each processor is in a state that there is
abbrev pub AreSound : List CoreView → Type 0
AreSound cores = (p : ℕ) (c : CoreView) → slice_get cores p ≡ Some c → IsSound c.arch

pub record IsKept (m : MachineView) : Type 0 where
  pub cores : AreSound m.cores
  pub log : HaveNumbers m.log
