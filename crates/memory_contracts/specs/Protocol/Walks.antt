-- A line of three nodes, step by step: two walks worked out by hand, one under each protocol. Each goes through every row of
-- the home's table and of the nodes' that its protocol has. A comment names a row where a walk first meets it.
use Rattle.std.specs.Prelude.{ℕ, Bool, true, false, List, [], ◌∷◌, ◌++◌, slice_index_or, Option, None, Some}
use Rattle.machine_config.specs.declared.config.Protocol.{Protocol}
use Rattle.machine_config.specs.declared.config.Protocol.TheVariants.{Msi, Mesi}
use Rattle.memory_contracts.specs.Protocol.Messages.{Message, GetS, GetM, Put, Inv, Recall, Grant, PutAck, InvAck, RecallAck, Done}
use Rattle.memory_contracts.specs.Protocol.Lines.{Phase, Idle, Collecting, Recalling, Granting, HomeRecord, Copy, Absent, Shared, Owned, Evicting, Emptied, stance, Cell, cell, nobody, joined, besides}
use Rattle.memory_contracts.specs.Protocol.Events.{Event, HomeTakes, NodeTakes, Starts, Evicts, Reads, Writes, Moment, Leads}

-- what the home has noted, and nodes 0, 1 and 2
pub record Scene : Type 0 where
  pub content : List ℕ
  pub home : HomeRecord
  pub nodes : List Cell

pub record Step : Type 0 where
  pub event : Event
  pub after : Scene

abbrev pub noted : Phase → Option ℕ → (ℕ → Bool) → List ℕ → HomeRecord
noted phase owner sharers memory = record { phase = phase; owner = owner; sharers = sharers; memory = memory }

abbrev pub step : Event → List ℕ → HomeRecord → Cell → Cell → Cell → Step
step e content home zero one two = record { event = e; after = record { content = content; home = home; nodes = zero ∷ one ∷ two ∷ [] } }

-- a node with this copy and nothing under way
abbrev pub rests : Copy → Cell
rests copy = cell (stance copy false [] 0) []

-- a node that has asked for the line, and whose request has not been served
abbrev pub asks : Copy → Message → Cell
asks copy m = cell (stance copy true (m ∷ []) 0) []

-- a node that waits for the line, with what is under way
abbrev pub awaits : Copy → List Message → Cell
awaits copy words = cell (stance copy true [] 0) words

-- a node that waits for nothing, with a message under way
abbrev pub says : Copy → Message → Cell
says copy m = cell (stance copy false [] 0) (m ∷ [])

-- a node that has put the line back, with what else is under way
abbrev pub leaves : Copy → List ℕ → List Message → Cell
leaves copy bytes words = cell (stance copy false (Put bytes ∷ []) 0) words

-- a node to which the answer to its putting back is under way
abbrev pub acknowledged : Copy → Cell
acknowledged copy = cell (stance copy false [] 1) []

abbrev pub absent : Cell
absent = rests Absent

abbrev pub moment_of : Scene → Moment
moment_of s = record { content = s.content; line = record { home = s.home; at = λ y. slice_index_or s.nodes y absent } }

-- each event leads from the scene before to the one after it
abbrev pub LeadsAlong : Protocol → Scene → List Step → Type 0
LeadsAlong protocol s [] = Unit {0}
LeadsAlong protocol s (t ∷ ts) = Leads protocol 3 t.event (moment_of s) (moment_of t.after) × LeadsAlong protocol t.after ts

-- ---- the bytes at first, and those that a node writes

abbrev pub old : List ℕ
old = 1 ∷ 2 ∷ []

abbrev pub new : List ℕ
new = 3 ∷ 2 ∷ []

abbrev pub write : List ℕ → List ℕ
write bytes = new

-- the sharers 0 and 1
abbrev pub two_sharers : ℕ → Bool
two_sharers = joined 1 (joined 0 nobody)

abbrev pub beginning : Scene
beginning = record { content = old; home = noted Idle None nobody old; nodes = absent ∷ absent ∷ absent ∷ [] }

-- ---- two nodes get the line to read it

abbrev pub msi_readers : List Step
msi_readers =
    -- None, a wish to read starts
    step (Starts 0 false) old (noted Idle None nobody old) (asks Absent GetS) absent absent
    -- Idle, GetS: no owner, otherwise
    ∷ step (HomeTakes 0 GetS) old (noted (Granting 0) None (joined 0 nobody) old) (awaits Absent (Grant false old ∷ [])) absent absent
    ∷ step (Starts 1 false) old (noted (Granting 0) None (joined 0 nobody) old) (awaits Absent (Grant false old ∷ [])) (asks Absent GetS) absent
    -- not Idle, GetS
    ∷ step (HomeTakes 1 GetS) old (noted (Granting 0) None (joined 0 nobody) old) (awaits Absent (Grant false old ∷ [])) (asks Absent GetS) absent
    -- None, Grant not owned
    ∷ step (NodeTakes 0 (Grant false old)) old (noted (Granting 0) None (joined 0 nobody) old) (says (Shared old) Done) (asks Absent GetS) absent
    -- Granting, Done
    ∷ step (HomeTakes 0 Done) old (noted Idle None (joined 0 nobody) old) (rests (Shared old)) (asks Absent GetS) absent
    ∷ step (HomeTakes 1 GetS) old (noted (Granting 1) None two_sharers old) (rests (Shared old)) (awaits Absent (Grant false old ∷ [])) absent
    ∷ step (NodeTakes 1 (Grant false old)) old (noted (Granting 1) None two_sharers old) (rests (Shared old)) (says (Shared old) Done) absent
    ∷ step (HomeTakes 1 Done) old (noted Idle None two_sharers old) (rests (Shared old)) (rests (Shared old)) absent
    ∷ []

abbrev pub mesi_readers : List Step
mesi_readers =
    -- None, a wish to read starts
    step (Starts 0 false) old (noted Idle None nobody old) (asks Absent GetS) absent absent
    -- Idle, GetS: no owner, no sharers, mesi
    ∷ step (HomeTakes 0 GetS) old (noted (Granting 0) (Some 0) nobody old) (awaits Absent (Grant true old ∷ [])) absent absent
    ∷ step (Starts 1 false) old (noted (Granting 0) (Some 0) nobody old) (awaits Absent (Grant true old ∷ [])) (asks Absent GetS) absent
    -- not Idle, GetS
    ∷ step (HomeTakes 1 GetS) old (noted (Granting 0) (Some 0) nobody old) (awaits Absent (Grant true old ∷ [])) (asks Absent GetS) absent
    -- None, Grant owned
    ∷ step (NodeTakes 0 (Grant true old)) old (noted (Granting 0) (Some 0) nobody old) (says (Owned old) Done) (asks Absent GetS) absent
    -- Granting, Done
    ∷ step (HomeTakes 0 Done) old (noted Idle (Some 0) nobody old) (rests (Owned old)) (asks Absent GetS) absent
    -- Idle, GetS: an owner
    ∷ step (HomeTakes 1 GetS) old (noted (Recalling 0 1 false) (Some 0) nobody old) (says (Owned old) (Recall false)) (awaits Absent []) absent
    -- Owned, Recall not owned
    ∷ step (NodeTakes 0 (Recall false)) old (noted (Recalling 0 1 false) (Some 0) nobody old) (says (Shared old) (RecallAck true old)) (awaits Absent []) absent
    -- Recalling for GetS, RecallAck: kept
    ∷ step (HomeTakes 0 (RecallAck true old)) old (noted (Granting 1) None two_sharers old) (rests (Shared old)) (awaits Absent (Grant false old ∷ [])) absent
    -- None, Grant not owned
    ∷ step (NodeTakes 1 (Grant false old)) old (noted (Granting 1) None two_sharers old) (rests (Shared old)) (says (Shared old) Done) absent
    ∷ step (HomeTakes 1 Done) old (noted Idle None two_sharers old) (rests (Shared old)) (rests (Shared old)) absent
    ∷ []

-- ---- the third node owns the line and writes it; another owns it next

abbrev pub after_readers : Scene
after_readers = record { content = old; home = noted Idle None two_sharers old; nodes = rests (Shared old) ∷ rests (Shared old) ∷ absent ∷ [] }

abbrev pub owners : List Step
owners =
    -- None, a wish to own starts
    step (Starts 2 true) old (noted Idle None two_sharers old) (rests (Shared old)) (rests (Shared old)) (asks Absent GetM)
    -- Idle, GetM: no owner, sharers besides
    ∷ step (HomeTakes 2 GetM) old (noted (Collecting 2 (besides 2 two_sharers)) None two_sharers old) (says (Shared old) Inv) (says (Shared old) Inv) (awaits Absent [])
    -- Shared, evicted
    ∷ step (Evicts 0) old (noted (Collecting 2 (besides 2 two_sharers)) None two_sharers old) (says Absent Inv) (says (Shared old) Inv) (awaits Absent [])
    -- None, Inv
    ∷ step (NodeTakes 0 Inv) old (noted (Collecting 2 (besides 2 two_sharers)) None two_sharers old) (says Absent InvAck) (says (Shared old) Inv) (awaits Absent [])
    -- Shared, Inv
    ∷ step (NodeTakes 1 Inv) old (noted (Collecting 2 (besides 2 two_sharers)) None two_sharers old) (says Absent InvAck) (says Absent InvAck) (awaits Absent [])
    -- Collecting, InvAck: not the last
    ∷ step (HomeTakes 0 InvAck) old (noted (Collecting 2 (besides 0 (besides 2 two_sharers))) None two_sharers old) absent (says Absent InvAck) (awaits Absent [])
    ∷ step (Starts 0 true) old (noted (Collecting 2 (besides 0 (besides 2 two_sharers))) None two_sharers old) (asks Absent GetM) (says Absent InvAck) (awaits Absent [])
    -- not Idle, GetM
    ∷ step (HomeTakes 0 GetM) old (noted (Collecting 2 (besides 0 (besides 2 two_sharers))) None two_sharers old) (asks Absent GetM) (says Absent InvAck) (awaits Absent [])
    -- Collecting, InvAck: the last
    ∷ step (HomeTakes 1 InvAck) old (noted (Granting 2) (Some 2) nobody old) (asks Absent GetM) absent (awaits Absent (Grant true old ∷ []))
    -- None, Grant owned
    ∷ step (NodeTakes 2 (Grant true old)) old (noted (Granting 2) (Some 2) nobody old) (asks Absent GetM) absent (says (Owned old) Done)
    ∷ step (Writes 2 write) new (noted (Granting 2) (Some 2) nobody old) (asks Absent GetM) absent (says (Owned new) Done)
    ∷ step (Reads 2) new (noted (Granting 2) (Some 2) nobody old) (asks Absent GetM) absent (says (Owned new) Done)
    ∷ step (HomeTakes 2 Done) new (noted Idle (Some 2) nobody old) (asks Absent GetM) absent (rests (Owned new))
    -- Idle, GetM: an owner
    ∷ step (HomeTakes 0 GetM) new (noted (Recalling 2 0 true) (Some 2) nobody old) (awaits Absent []) absent (says (Owned new) (Recall true))
    -- Owned, Recall owned
    ∷ step (NodeTakes 2 (Recall true)) new (noted (Recalling 2 0 true) (Some 2) nobody old) (awaits Absent []) absent (says Absent (RecallAck false new))
    -- Recalling for GetM, RecallAck
    ∷ step (HomeTakes 2 (RecallAck false new)) new (noted (Granting 0) (Some 0) nobody new) (awaits Absent (Grant true new ∷ [])) absent absent
    ∷ step (NodeTakes 0 (Grant true new)) new (noted (Granting 0) (Some 0) nobody new) (says (Owned new) Done) absent absent
    ∷ step (HomeTakes 0 Done) new (noted Idle (Some 0) nobody new) (rests (Owned new)) absent absent
    ∷ []

-- ---- the owner puts the line back while it is recalled; the next one puts it back unasked

abbrev pub after_owners : Scene
after_owners = record { content = new; home = noted Idle (Some 0) nobody new; nodes = rests (Owned new) ∷ absent ∷ absent ∷ [] }

abbrev pub leavers : List Step
leavers =
    -- Owned, evicted
    step (Evicts 0) new (noted Idle (Some 0) nobody new) (leaves (Evicting new) new []) absent absent
    ∷ step (Starts 1 false) new (noted Idle (Some 0) nobody new) (leaves (Evicting new) new []) (asks Absent GetS) absent
    -- Idle, GetS: an owner
    ∷ step (HomeTakes 1 GetS) new (noted (Recalling 0 1 false) (Some 0) nobody new) (leaves (Evicting new) new (Recall false ∷ [])) (awaits Absent []) absent
    -- not Idle, Put
    ∷ step (HomeTakes 0 (Put new)) new (noted (Recalling 0 1 false) (Some 0) nobody new) (leaves (Evicting new) new (Recall false ∷ [])) (awaits Absent []) absent
    -- Evicting, Recall
    ∷ step (NodeTakes 0 (Recall false)) new (noted (Recalling 0 1 false) (Some 0) nobody new) (leaves Emptied new (RecallAck false new ∷ [])) (awaits Absent []) absent
    -- Recalling for GetS, RecallAck: not kept
    ∷ step (HomeTakes 0 (RecallAck false new)) new (noted (Granting 1) None (joined 1 nobody) new) (leaves Emptied new []) (awaits Absent (Grant false new ∷ [])) absent
    ∷ step (NodeTakes 1 (Grant false new)) new (noted (Granting 1) None (joined 1 nobody) new) (leaves Emptied new []) (says (Shared new) Done) absent
    ∷ step (HomeTakes 1 Done) new (noted Idle None (joined 1 nobody) new) (leaves Emptied new []) (rests (Shared new)) absent
    -- Idle, Put: of another than the owner
    ∷ step (HomeTakes 0 (Put new)) new (noted Idle None (joined 1 nobody) new) (acknowledged Emptied) (rests (Shared new)) absent
    -- Emptied, PutAck
    ∷ step (NodeTakes 0 PutAck) new (noted Idle None (joined 1 nobody) new) absent (rests (Shared new)) absent
    -- Shared, a wish to own starts
    ∷ step (Starts 1 true) new (noted Idle None (joined 1 nobody) new) absent (asks (Shared new) GetM) absent
    -- Idle, GetM: otherwise
    ∷ step (HomeTakes 1 GetM) new (noted (Granting 1) (Some 1) nobody new) absent (awaits (Shared new) (Grant true new ∷ [])) absent
    -- Shared, Grant owned
    ∷ step (NodeTakes 1 (Grant true new)) new (noted (Granting 1) (Some 1) nobody new) absent (says (Owned new) Done) absent
    ∷ step (HomeTakes 1 Done) new (noted Idle (Some 1) nobody new) absent (rests (Owned new)) absent
    ∷ step (Evicts 1) new (noted Idle (Some 1) nobody new) absent (leaves (Evicting new) new []) absent
    -- Idle, Put: of the owner
    ∷ step (HomeTakes 1 (Put new)) new (noted Idle None nobody new) absent (acknowledged (Evicting new)) absent
    -- Evicting, PutAck
    ∷ step (NodeTakes 1 PutAck) new (noted Idle None nobody new) absent absent absent
    ∷ []

-- ---- an owner lends the line and keeps a shared copy

abbrev pub after_leavers : Scene
after_leavers = record { content = new; home = noted Idle None nobody new; nodes = absent ∷ absent ∷ absent ∷ [] }

abbrev pub lenders : List Step
lenders =
    step (Starts 2 true) new (noted Idle None nobody new) absent absent (asks Absent GetM)
    ∷ step (HomeTakes 2 GetM) new (noted (Granting 2) (Some 2) nobody new) absent absent (awaits Absent (Grant true new ∷ []))
    ∷ step (NodeTakes 2 (Grant true new)) new (noted (Granting 2) (Some 2) nobody new) absent absent (says (Owned new) Done)
    ∷ step (HomeTakes 2 Done) new (noted Idle (Some 2) nobody new) absent absent (rests (Owned new))
    ∷ step (Starts 0 false) new (noted Idle (Some 2) nobody new) (asks Absent GetS) absent (rests (Owned new))
    ∷ step (HomeTakes 0 GetS) new (noted (Recalling 2 0 false) (Some 2) nobody new) (awaits Absent []) absent (says (Owned new) (Recall false))
    -- Owned, Recall not owned
    ∷ step (NodeTakes 2 (Recall false)) new (noted (Recalling 2 0 false) (Some 2) nobody new) (awaits Absent []) absent (says (Shared new) (RecallAck true new))
    -- Recalling for GetS, RecallAck: kept
    ∷ step (HomeTakes 2 (RecallAck true new)) new (noted (Granting 0) None (joined 0 (joined 2 nobody)) new) (awaits Absent (Grant false new ∷ [])) absent (rests (Shared new))
    ∷ []

-- ---- a third node reads the line

abbrev pub after_lenders : Scene
after_lenders = record {
  content = new;
  home = noted (Granting 0) None (joined 0 (joined 2 nobody)) new;
  nodes = awaits Absent (Grant false new ∷ []) ∷ absent ∷ rests (Shared new) ∷ [];
}

abbrev pub last_reader : List Step
last_reader =
    step (NodeTakes 0 (Grant false new)) new (noted (Granting 0) None (joined 0 (joined 2 nobody)) new) (says (Shared new) Done) absent (rests (Shared new))
    ∷ step (HomeTakes 0 Done) new (noted Idle None (joined 0 (joined 2 nobody)) new) (rests (Shared new)) absent (rests (Shared new))
    ∷ step (Starts 1 false) new (noted Idle None (joined 0 (joined 2 nobody)) new) (rests (Shared new)) (asks Absent GetS) (rests (Shared new))
    -- Idle, GetS: no owner, otherwise, under mesi too
    ∷ step (HomeTakes 1 GetS) new (noted (Granting 1) None (joined 1 (joined 0 (joined 2 nobody))) new) (rests (Shared new)) (awaits Absent (Grant false new ∷ [])) (rests (Shared new))
    ∷ []

-- ---- the walks

abbrev pub msi_walk : List Step
msi_walk = msi_readers ++ owners ++ leavers ++ lenders

abbrev pub mesi_walk : List Step
mesi_walk = mesi_readers ++ owners ++ leavers ++ lenders ++ last_reader

-- the events of each walk lead along its scenes
abbrev pub WalksMsi : Type 0
WalksMsi = LeadsAlong Msi beginning msi_walk

abbrev pub WalksMesi : Type 0
WalksMesi = LeadsAlong Mesi beginning mesi_walk
