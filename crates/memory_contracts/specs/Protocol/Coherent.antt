-- When the state of a line is coherent with its content: the home's part, and one table by the roles of the nodes.
use Rattle.std.specs.Prelude.{◌≡◌, ℕ, ◌<◌, Bool, true, false, ◌&&◌, ◌==◌, List, [], ◌∷◌, Option, None, Some}
use Rattle.memory_contracts.specs.Protocol.Messages.{GetM, Put, Inv, Recall, Grant, InvAck, RecallAck, Done, get}
use Rattle.memory_contracts.specs.Protocol.Lines.{Phase, Idle, Collecting, Recalling, Granting, HomeRecord, Absent, Shared, Owned, Evicting, Emptied, Stance, stance, Cell, LineState}
use Rattle.memory_contracts.specs.Protocol.Roles.{Role, Free, Listed, Invalidated, Answered, Owning, Served, Recalled, Granted, role}

-- ---- stances: copy, register, what is asked, answers under way

-- has nothing, and may ask
pub data IsBare (s : Stance) : Type 0 where
  at_rest : s ≡ stance Absent false [] 0 → IsBare s
  asking : (own : Bool) → s ≡ stance Absent true (get own ∷ []) 0 → IsBare s

-- has nothing that counts: it may ask, or be giving back what has been recalled or noted
pub data IsAway (s : Stance) : Type 0 where
  bare : IsBare s → IsAway s
  emptied : (bytes : List ℕ) → s ≡ stance Emptied false (Put bytes ∷ []) 0 → IsAway s
  noted : (bytes : List ℕ) → s ≡ stance (Evicting bytes) false [] 1 → IsAway s
  noted_empty : s ≡ stance Emptied false [] 1 → IsAway s

-- has the line to read it, or had it
pub data IsSharing (g : List ℕ) (s : Stance) : Type 0 where
  without : IsBare s → IsSharing g s
  reading : s ≡ stance (Shared g) false [] 0 → IsSharing g s
  upgrading : s ≡ stance (Shared g) true (GetM ∷ []) 0 → IsSharing g s

-- has the only copy
pub data IsKeeping (g : List ℕ) (s : Stance) : Type 0 where
  owning : s ≡ stance (Owned g) false [] 0 → IsKeeping g s
  leaving : s ≡ stance (Evicting g) false (Put g ∷ []) 0 → IsKeeping g s

-- waits for the line, where it may have a shared copy already
pub data IsPromised (g : List ℕ) : Bool → Stance → Type 0 where
  fresh : {may : Bool} {s : Stance} → s ≡ stance Absent true [] 0 → IsPromised g may s
  upgraded : {s : Stance} → s ≡ stance (Shared g) true [] 0 → IsPromised g true s

-- ---- the table: the words between the home and a node, and the stance of the node, by its role

pub data Fits (g : List ℕ) (c : Cell) : Role → Type 0 where
  free : c.words ≡ [] → IsAway c.stance → Fits g c Free
  listing : c.words ≡ [] → IsSharing g c.stance → Fits g c Listed
  to_invalidate : c.words ≡ Inv ∷ [] → IsSharing g c.stance → Fits g c Invalidated
  invalidated : c.words ≡ InvAck ∷ [] → IsBare c.stance → Fits g c Invalidated
  answered : c.words ≡ [] → IsBare c.stance → Fits g c Answered
  keeping : c.words ≡ [] → IsKeeping g c.stance → Fits g c Owning
  serving : (own sharer : Bool) → c.words ≡ [] → IsPromised g (sharer && own) c.stance → Fits g c (Served own sharer)
  to_recall : (own : Bool) → c.words ≡ Recall own ∷ [] → IsKeeping g c.stance → Fits g c (Recalled own)
  recalled_kept : c.words ≡ RecallAck true g ∷ [] → IsSharing g c.stance → Fits g c (Recalled false)
  recalled : (own : Bool) → c.words ≡ RecallAck false g ∷ [] → IsAway c.stance → Fits g c (Recalled own)
  to_grant : (own : Bool) (memory : List ℕ) → memory ≡ g → c.words ≡ Grant own g ∷ [] → IsPromised g own c.stance → Fits g c (Granted own memory)
  granted_owned : (memory : List ℕ) → c.words ≡ Done ∷ [] → IsKeeping g c.stance → Fits g c (Granted true memory)
  granted_shared : (memory : List ℕ) → memory ≡ g → c.words ≡ Done ∷ [] → IsSharing g c.stance → Fits g c (Granted false memory)

-- ---- the home's part, among n nodes, by the phase and the owner

-- no node is a sharer
abbrev pub HasNoSharers : ℕ → (ℕ → Bool) → Type 0
HasNoSharers n sharers = (x : ℕ) → x < n → sharers x ≡ false

abbrev pub HomeFits : ℕ → List ℕ → HomeRecord → Phase → Option ℕ → Type 0
HomeFits n g h Idle None = h.memory ≡ g
HomeFits n g h Idle (Some q) = (q < n) × HasNoSharers n h.sharers
HomeFits n g h (Collecting p left) None =
    (p < n) × (h.memory ≡ g) × (left p ≡ false) × ((x : ℕ) → x < n → left x ≡ true → h.sharers x ≡ true)
HomeFits n g h (Recalling q p own) (Some o) = (q < n) × (p < n) × (o ≡ q) × ((q == p) ≡ false) × HasNoSharers n h.sharers
HomeFits n g h (Granting p) None = (p < n) × (h.memory ≡ g) × (h.sharers p ≡ true)
HomeFits n g h (Granting p) (Some o) = (p < n) × (o ≡ p) × HasNoSharers n h.sharers
HomeFits n g h phase owner = ⊥

-- the line has the content g
pub record Coherent (n : ℕ) (g : List ℕ) (l : LineState) : Type 0 where
  pub home : HomeFits n g l.home l.home.phase l.home.owner
  pub nodes : (x : ℕ) → x < n → Fits g (l.at x) (role l.home x)
