-- The home's table: what it does at a message of a node, or at a request that has waited.
use Rattle.std.specs.Prelude.{ℕ, Bool, true, false, ◌&&◌, not, ◌==◌, if◌then◌else◌, List, [], ◌∷◌, Option, None, Some}
use Rattle.machine_config.specs.declared.config.Protocol.{Protocol}
use Rattle.machine_config.specs.declared.config.Protocol.TheVariants.{Msi, Mesi}
use Rattle.memory_contracts.specs.Protocol.Messages.{Message, GetS, GetM, Put, Inv, Recall, Grant, PutAck, InvAck, RecallAck, Done}
use Rattle.memory_contracts.specs.Protocol.Lines.{Phase, Idle, Collecting, Recalling, Granting, HomeRecord, LineState, mailed, all_mailed, nobody, joined, besides, is_some_node}

pub record HomeStep : Type 0 where
  pub after : HomeRecord
  -- whether the request has to wait
  pub waits : Bool
  -- to each node
  pub sent : ℕ → List Message

-- ---- what a row may do

abbrev pub to_one : ℕ → Message → ℕ → List Message
to_one x m y = if x == y then m ∷ [] else []

abbrev pub to_each : (ℕ → Bool) → Message → ℕ → List Message
to_each set m y = if set y then m ∷ [] else []

abbrev pub to_none : ℕ → List Message
to_none y = []

abbrev pub nothing : HomeRecord → HomeStep
nothing h = record { after = h; waits = false; sent = to_none }

abbrev pub waiting : HomeRecord → HomeStep
waiting h = record { after = h; waits = true; sent = to_none }

-- node p is sent these bytes to own them
abbrev pub grants_owned : ℕ → (ℕ → Bool) → List ℕ → HomeStep
grants_owned p sharers bytes = record {
  after = record { phase = Granting p; owner = Some p; sharers = sharers; memory = bytes };
  waits = false;
  sent = to_one p (Grant true bytes);
}

-- node p is sent these bytes to read them
abbrev pub grants_shared : ℕ → (ℕ → Bool) → List ℕ → HomeStep
grants_shared p sharers bytes = record {
  after = record { phase = Granting p; owner = None; sharers = sharers; memory = bytes };
  waits = false;
  sent = to_one p (Grant false bytes);
}

abbrev pub recalls : ℕ → ℕ → Bool → HomeRecord → HomeStep
recalls q p own h = record { after = record h { phase = Recalling q p own }; waits = false; sent = to_one q (Recall own) }

-- these have to give up their copies for node p
abbrev pub collects : ℕ → (ℕ → Bool) → HomeRecord → HomeStep
collects p others h = record { after = record h { phase = Collecting p others }; waits = false; sent = to_each others Inv }

-- ---- the rows, of n nodes: by the phase, the owner, and what node p says

abbrev pub is_mesi : Protocol → Bool
is_mesi Mesi = true
is_mesi Msi = false

abbrev pub is_owner : Option ℕ → ℕ → Bool
is_owner None x = false
is_owner (Some q) x = q == x

abbrev pub home_row : Protocol → ℕ → HomeRecord → Phase → Option ℕ → ℕ → Message → HomeStep
home_row protocol n h Idle None p GetS =
    if is_mesi protocol && not (is_some_node n h.sharers) then grants_owned p h.sharers h.memory else grants_shared p (joined p h.sharers) h.memory
home_row protocol n h Idle (Some q) p GetS = recalls q p false h
home_row protocol n h Idle (Some q) p GetM = recalls q p true h
home_row protocol n h Idle None p GetM =
    if is_some_node n (besides p h.sharers) then collects p (besides p h.sharers) h else grants_owned p nobody h.memory
home_row protocol n h Idle owner p (Put bytes) =
    if is_owner owner p
    then record { after = record h { owner = None; memory = bytes }; waits = false; sent = to_one p PutAck }
    else record { after = h; waits = false; sent = to_one p PutAck }
home_row protocol n h phase owner p GetS = waiting h
home_row protocol n h phase owner p GetM = waiting h
home_row protocol n h phase owner p (Put bytes) = waiting h
home_row protocol n h (Collecting p left) owner q InvAck =
    if is_some_node n (besides q left)
    then record { after = record h { phase = Collecting p (besides q left) }; waits = false; sent = to_none }
    else grants_owned p nobody h.memory
home_row protocol n h (Recalling q p false) owner x (RecallAck kept bytes) =
    if q == x then grants_shared p (joined p (if kept then joined q nobody else nobody)) bytes else nothing h
home_row protocol n h (Recalling q p true) owner x (RecallAck kept bytes) = if q == x then grants_owned p nobody bytes else nothing h
home_row protocol n h (Granting p) owner x Done =
    if p == x then record { after = record h { phase = Idle }; waits = false; sent = to_none } else nothing h
home_row protocol n h phase owner x m = nothing h

abbrev pub home_takes : Protocol → ℕ → ℕ → Message → HomeRecord → HomeStep
home_takes protocol n x m h = home_row protocol n h h.phase h.owner x m

-- ---- the line afterwards

-- after the home did this at message m of node x, which stood beside all else of the line
abbrev pub after_step : HomeStep → ℕ → Message → LineState → LineState
after_step step x m rest = record {
  home = step.after;
  at = λ y. all_mailed (step.sent y) (if step.waits && (x == y) then mailed m (rest.at y) else rest.at y);
}

abbrev pub after_home : Protocol → ℕ → ℕ → Message → LineState → LineState
after_home protocol n x m rest = after_step (home_takes protocol n x m rest.home) x m rest
