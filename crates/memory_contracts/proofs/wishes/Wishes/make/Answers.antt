use Rattle.std.proofs.Common.{List, length, ap, ⊎_elim}
use Rattle.std.proofs.lemmas.Bool.{cases_lt}
use Rattle.std.proofs.lemmas.List.{get_or_past}
use Rattle.arrayvec.specs.ArrayVec.{ArrayVec}
use Rattle.memory_contracts.specs.Parts.{no_wishes}
use Rattle.memory_contracts.specs.declared.wishes.Wanted.{Wanted}
use Rattle.memory_contracts.proofs.wishes.Wishes.make.Goals as goal

-- also a node that is none has no wishes
pub returns-clause-none : goal.returns-clause-none
returns-clause-none c = λ p.
    let lists : List (ArrayVec Wanted) = c.loop-node.lists.items in
    ⊎_elim (λ below. c.loop-node.invariant.none p no_wishes below)
    (λ past. ap (λ (ws : ArrayVec Wanted). ws.items) (get_or_past lists p no_wishes past))
    (cases_lt p (length lists))
