-- Events do happen: from the start a node wishes to read, and the home takes its request.
use Rattle.std.proofs.Common.{◌≡◌, ◌<◌, Bool, true, false, cond, ◌==◌, [], ◌∷◌, refl, arith}
use Rattle.machine_config.specs.declared.config.Protocol.TheVariants.{Mesi}
use Rattle.memory_contracts.specs.Protocol.Messages.{GetS}
use Rattle.memory_contracts.specs.Protocol.Lines.{Absent, stance, Cell, cell, LineState, mailed, with_mail, with_stance}
use Rattle.memory_contracts.specs.Protocol.HomeTable.{after_home}
use Rattle.memory_contracts.specs.Protocol.NodeTable.{after_start}
use Rattle.memory_contracts.specs.Protocol.Events.{Moment, LeadTo, Starts, HomeTakes, becomes, start}

abbrev first : Moment
first = record { content = 7 ∷ 8 ∷ []; line = start (7 ∷ 8 ∷ []) }

abbrev untouched : Cell
untouched = cell (stance Absent false [] 0) []

abbrev waiting : Cell
waiting = cell (stance Absent true [] 0) []

abbrev started : Moment
started = becomes (with_stance 0 (after_start false (first.line.at 0).stance) first.line) first

-- the line without the request
abbrev rest : LineState
rest = record { home = first.line.home; at = λ y. cond (0 == y) waiting untouched }

abbrev served : Moment
served = becomes (after_home Mesi 2 0 GetS rest) started

request : (t : Bool) → cond t (mailed GetS waiting) untouched ≡ cond t (mailed GetS (cond t waiting untouched)) (cond t waiting untouched)
request true = refl
request false = refl

under_way : started.line ≡ with_mail 0 GetS rest
under_way = λ i. record { home = first.line.home; at = λ y. request (0 == y) i }

pub first_read : LeadTo Mesi 2 (Starts 0 false ∷ HomeTakes 0 GetS ∷ []) first served
first_read =
    let below : 0 < 2 = omega arith in
    (started, (below, refl, refl, refl), (served, (rest, below, refl, under_way, refl), refl))
