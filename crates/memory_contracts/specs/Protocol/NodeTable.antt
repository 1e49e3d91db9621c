-- The nodes' table: what a node does at a message of the home, and by itself.
use Rattle.std.specs.Prelude.{ℕ, Bool, true, false, List, [], ◌∷◌, ◌++◌}
use Rattle.memory_contracts.specs.Protocol.Messages.{Message, Put, Inv, Recall, Grant, PutAck, InvAck, RecallAck, Done, get}
use Rattle.memory_contracts.specs.Protocol.Lines.{Copy, Absent, Shared, Owned, Evicting, Emptied, Stance, Cell, cell, all_mailed}

pub record NodeStep : Type 0 where
  pub copy : Copy
  -- whether the node still waits for the line
  pub register : Bool
  pub sent : List Message
  -- whether the line was held and is not any more
  pub lost : Bool

abbrev pub takes : Copy → Bool → List Message → Bool → NodeStep
takes copy register sent lost = record { copy = copy; register = register; sent = sent; lost = lost }

-- a copy that is granted
abbrev pub granted : Bool → List ℕ → Copy
granted true bytes = Owned bytes
granted false bytes = Shared bytes

-- ---- the rows, by the message and the copy

abbrev pub node_takes : Message → Copy → Bool → NodeStep
node_takes Inv (Shared bytes) register = takes Absent register (InvAck ∷ []) true
node_takes Inv Absent register = takes Absent register (InvAck ∷ []) false
node_takes (Recall false) (Owned bytes) register = takes (Shared bytes) register (RecallAck true bytes ∷ []) false
node_takes (Recall true) (Owned bytes) register = takes Absent register (RecallAck false bytes ∷ []) true
node_takes (Recall own) (Evicting bytes) register = takes Emptied register (RecallAck false bytes ∷ []) false
node_takes PutAck (Evicting bytes) register = takes Absent register [] false
node_takes PutAck Emptied register = takes Absent register [] false
node_takes (Grant own bytes) Absent register = takes (granted own bytes) false (Done ∷ []) false
node_takes (Grant own bytes) (Shared shared) register = takes (granted own bytes) false (Done ∷ []) false
node_takes m copy register = takes copy register [] false

-- ---- what a node does by itself

-- whether a wish for the line may start at this copy
abbrev pub may_start : Bool → Copy → Bool
may_start own Absent = true
may_start own (Shared bytes) = own
may_start own copy = false

-- what is left of a copy that is evicted, and what is sent
abbrev pub evicted : Copy → Copy
evicted (Shared bytes) = Absent
evicted (Owned bytes) = Evicting bytes
evicted copy = copy

abbrev pub put_back : Copy → List Message
put_back (Owned bytes) = Put bytes ∷ []
put_back copy = []

-- whether the node has the line, so that it may be read
abbrev pub is_held : Copy → Bool
is_held (Shared bytes) = true
is_held (Owned bytes) = true
is_held copy = false

-- ---- the node afterwards

-- after the message m, which stood beside all else between it and the home
abbrev pub after_message : Message → Cell → Cell
after_message m rest =
    let step = node_takes m rest.stance.copy rest.stance.register in
    all_mailed step.sent (cell (record (rest.stance) { copy = step.copy; register = step.register }) rest.words)

-- after the start of a wish: the register is open, and the line is asked for
abbrev pub after_start : Bool → Stance → Stance
after_start own s = record s { register = true; asked = get own ∷ s.asked }

abbrev pub after_eviction : Stance → Stance
after_eviction s = record s { copy = evicted s.copy; asked = put_back s.copy ++ s.asked }

-- after a write, which leaves these bytes
abbrev pub after_write : List ℕ → Stance → Stance
after_write bytes s = record s { copy = Owned bytes }
