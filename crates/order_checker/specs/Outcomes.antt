-- What a part of the check answers.
use Rattle.std.specs.Prelude.{◌≡◌, ◌⊎◌, Option, Some}
use Rattle.order_checker.specs.declared.verdict.Rejected.{Rejected}
use Rattle.order_checker.specs.declared.verdict.Rejected.TheVariants.{Memory}

-- the fault that was found is this one, unless memory could not be had
abbrev pub IsFault : Option Rejected → Rejected → Type 0
IsFault found r = (r ≡ Memory) ⊎ (found ≡ Some r)
