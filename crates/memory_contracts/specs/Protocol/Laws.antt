-- What the protocol keeps, over every list of events.
use Rattle.std.specs.Prelude.{◌≡◌, ℕ, ◌+◌, Some, ◌<◌, ◌≤◌, Bool, true, List, [], ◌∷◌}
use Rattle.machine_config.specs.declared.config.Protocol.{Protocol}
use Rattle.memory_contracts.specs.Protocol.Alike.{AreAlike}
use Rattle.memory_contracts.specs.Protocol.Awaited.{number, count_gets, count_puts, is_leaving, is_served_now}
use Rattle.memory_contracts.specs.Protocol.Messages.{Grant}
use Rattle.memory_contracts.specs.Protocol.Lines.{Shared, Owned, LineState}
use Rattle.memory_contracts.specs.Protocol.NodeTable.{is_held}
use Rattle.memory_contracts.specs.Protocol.Coherent.{Coherent}
use Rattle.memory_contracts.specs.Protocol.Content.{current, StandsIn, from_home}
use Rattle.memory_contracts.specs.Protocol.Events.{Event, Moment, Leads, LeadTo, start, content_after, content_after_all}

-- an event leads from a coherent line to a coherent one, and only a write changes the content
abbrev pub EventsKeepCoherence : Type 0
EventsKeepCoherence =
    (protocol : Protocol) (n : ℕ) (e : Event) (u v : Moment)
    → Coherent n u.content u.line
    → Leads protocol n e u v
    → Coherent n v.content v.line × (v.content ≡ content_after e u.content)

-- so a line is coherent after every list of events from the start, and has the content that the writes gave it
abbrev pub LinesStayCoherent : Type 0
LinesStayCoherent =
    (protocol : Protocol) (n : ℕ) (bytes : List ℕ) (events : List Event) (v : Moment)
    → LeadTo protocol n events (record { content = bytes; line = start bytes }) v
    → Coherent n v.content v.line × (v.content ≡ content_after_all events bytes)

-- ---- what may be relied on where a line is coherent

-- its content can be read off its state
abbrev pub CurrentIsContent : Type 0
CurrentIsContent = (n : ℕ) (g : List ℕ) (l : LineState) → Coherent n g l → current l ≡ g

-- the content stands where the phase of the home says
abbrev pub ContentStands : Type 0
ContentStands = (n : ℕ) (g : List ℕ) (l : LineState) → Coherent n g l → StandsIn g l l.home.phase l.home.owner

-- a copy that may be read has the content
abbrev pub SharedHasContent : Type 0
SharedHasContent = (n : ℕ) (g bytes : List ℕ) (l : LineState) (x : ℕ) → Coherent n g l → x < n → (l.at x).stance.copy ≡ Shared bytes → bytes ≡ g

-- a copy that may be written has the content, and no other node has one
abbrev pub OwnedHasContent : Type 0
OwnedHasContent = (n : ℕ) (g bytes : List ℕ) (l : LineState) (x : ℕ) → Coherent n g l → x < n → (l.at x).stance.copy ≡ Owned bytes → bytes ≡ g

abbrev pub OwnedIsAlone : Type 0
OwnedIsAlone =
    (n : ℕ) (g bytes : List ℕ) (l : LineState) (x y : ℕ)
    → Coherent n g l
    → x < n
    → y < n
    → (l.at x).stance.copy ≡ Owned bytes
    → is_held (l.at y).stance.copy ≡ true
    → y ≡ x

-- at most one message of the home is under way to a node
abbrev pub OneFromHome : Type 0
OneFromHome = (n : ℕ) (g : List ℕ) (l : LineState) (x : ℕ) → Coherent n g l → x < n → from_home (l.at x) ≤ 1

-- a line that is granted is waited for, and its bytes are the content
abbrev pub GrantsAreAwaited : Type 0
GrantsAreAwaited =
    (n : ℕ) (g bytes : List ℕ) (own : Bool) (l : LineState) (x : ℕ)
    → Coherent n g l
    → x < n
    → (l.at x).words ≡ Grant own bytes ∷ []
    → ((l.at x).stance.register ≡ true) × (bytes ≡ g)

-- the order of the messages that are under way does not count
abbrev pub OrderIsFree : Type 0
OrderIsFree = (n : ℕ) (g : List ℕ) (l k : LineState) → AreAlike n l k → Coherent n g l → Coherent n g k

-- ---- what a node awaits

-- the node of an owned copy is noted as the owner
abbrev pub OwnedIsNoted : Type 0
OwnedIsNoted = (n : ℕ) (g bytes : List ℕ) (l : LineState) (x : ℕ) → Coherent n g l → x < n → (l.at x).stance.copy ≡ Owned bytes → l.home.owner ≡ Some x

-- a register is open exactly while one request for the line is under way, waits, or is served
abbrev pub RegisterAwaitsLine : Type 0
RegisterAwaitsLine =
    (n : ℕ) (g : List ℕ) (l : LineState) (x : ℕ)
    → Coherent n g l
    → x < n
    → count_gets (l.at x).stance.asked + number (is_served_now l.home.phase x (l.at x).words) ≡ number (l.at x).stance.register

-- a copy is leaving exactly while it is being put back, or the answer to that is under way
abbrev pub LeavingAwaitsAnswer : Type 0
LeavingAwaitsAnswer =
    (n : ℕ) (g : List ℕ) (l : LineState) (x : ℕ)
    → Coherent n g l
    → x < n
    → count_puts (l.at x).stance.asked + (l.at x).stance.acks ≡ number (is_leaving (l.at x).stance.copy)
