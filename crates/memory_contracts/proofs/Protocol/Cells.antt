-- Rows of the table: what a first message tells of them, and how a cell that is known is put in place.
use Rattle.std.proofs.Common.{◌≡◌, ℕ, Bool, true, false, ◌&&◌, eqb, List, [], ◌∷◌, sym, ap, ap₂, ◌∙◌, subst}
use Rattle.std.proofs.lemmas.Bool.{eqb-false}
use Rattle.memory_contracts.specs.Protocol.Messages.{Message, GetS, GetM, Put, Inv, Recall, Grant, PutAck, InvAck, RecallAck, Done}
use Rattle.memory_contracts.specs.Protocol.Lines.{Copy, Absent, Shared, Owned, Evicting, Emptied, Stance, Cell, cell}
use Rattle.memory_contracts.specs.Protocol.Roles.{Role}
use Rattle.memory_contracts.specs.Protocol.Coherent.{Fits, free, listing, to_invalidate, invalidated, answered, keeping, serving, to_recall, recalled_kept, recalled, to_grant, granted_owned, granted_shared, IsBare, IsAway, IsSharing, IsKeeping, IsPromised}

-- what holds of a known cell holds of one that equals it
pub at_cell : (P : Cell → Type 0) (c : Cell) {s : Stance} {ws : List Message} → c.stance ≡ s → c.words ≡ ws → P (cell s ws) → P c
at_cell P c e w p = subst P (sym (ap₂ cell e w)) p

-- two numbers that a test tells apart
pub differ : {A : Type 0} (a b : ℕ) → eqb a b ≡ false → a ≡ b → A
differ a b test e = absurd (eqb-false a b test e)

-- ---- kinds

-- the kind of the first message
abbrev pub kind : List Message → ℕ
kind [] = 0
kind (GetS ∷ ms) = 1
kind (GetM ∷ ms) = 2
kind (Put bytes ∷ ms) = 3
kind (Inv ∷ ms) = 4
kind (Recall own ∷ ms) = 5
kind (Grant own bytes ∷ ms) = 6
kind (PutAck ∷ ms) = 7
kind (InvAck ∷ ms) = 8
kind (RecallAck kept bytes ∷ ms) = 9
kind (Done ∷ ms) = 10

abbrev pub copy_kind : Copy → ℕ
copy_kind Absent = 0
copy_kind (Shared bytes) = 1
copy_kind (Owned bytes) = 2
copy_kind (Evicting bytes) = 3
copy_kind Emptied = 4

abbrev pub first : List Message → Message
first [] = Done
first (m ∷ ms) = m

abbrev pub others : List Message → List Message
others [] = []
others (m ∷ ms) = ms

-- ---- the words of a row

abbrev pub words_of : {g : List ℕ} {c : Cell} {r : Role} → Fits g c r → List Message
words_of (free w s) = []
words_of (listing w s) = []
words_of (to_invalidate w s) = Inv ∷ []
words_of (invalidated w s) = InvAck ∷ []
words_of (answered w s) = []
words_of (keeping w s) = []
words_of (serving own sharer w s) = []
words_of (to_recall own w s) = Recall own ∷ []
words_of {g = g} (recalled_kept w s) = RecallAck true g ∷ []
words_of {g = g} (recalled own w s) = RecallAck false g ∷ []
words_of {g = g} (to_grant own memory m w s) = Grant own g ∷ []
words_of (granted_owned memory w s) = Done ∷ []
words_of (granted_shared memory m w s) = Done ∷ []

pub words_are : {g : List ℕ} {c : Cell} {r : Role} (f : Fits g c r) → c.words ≡ words_of f
words_are (free w s) = w
words_are (listing w s) = w
words_are (to_invalidate w s) = w
words_are (invalidated w s) = w
words_are (answered w s) = w
words_are (keeping w s) = w
words_are (serving own sharer w s) = w
words_are (to_recall own w s) = w
words_are (recalled_kept w s) = w
words_are (recalled own w s) = w
words_are (to_grant own memory m w s) = w
words_are (granted_owned memory w s) = w
words_are (granted_shared memory m w s) = w

-- a row of other words than those that are there
pub foreign : {A : Type 0} {g : List ℕ} {c : Cell} {r : Role} (f : Fits g c r) (k : ℕ) → kind c.words ≡ k → eqb k (kind (words_of f)) ≡ false → A
foreign f k e test = differ k _ test (sym e ∙ ap kind (words_are f))

-- ---- a node that stands otherwise, in the same class of each

pub record KeepsClasses (g : List ℕ) (s t : Stance) : Type 0 where
  pub as_bare : IsBare s → IsBare t
  pub as_away : IsAway s → IsAway t
  pub as_sharing : IsSharing g s → IsSharing g t
  pub as_keeping : IsKeeping g s → IsKeeping g t
  pub as_promised : (may : Bool) → IsPromised g may s → IsPromised g may t

pub keeps_row : (g : List ℕ) (c : Cell) (t : Stance) (r : Role) → KeepsClasses g c.stance t → Fits g c r → Fits g (cell t c.words) r
keeps_row g c t _ k (free w s) = free w (k.as_away s)
keeps_row g c t _ k (listing w s) = listing w (k.as_sharing s)
keeps_row g c t _ k (to_invalidate w s) = to_invalidate w (k.as_sharing s)
keeps_row g c t _ k (invalidated w s) = invalidated w (k.as_bare s)
keeps_row g c t _ k (answered w s) = answered w (k.as_bare s)
keeps_row g c t _ k (keeping w s) = keeping w (k.as_keeping s)
keeps_row g c t _ k (serving own sharer w s) = serving own sharer w (k.as_promised (sharer && own) s)
keeps_row g c t _ k (to_recall own w s) = to_recall own w (k.as_keeping s)
keeps_row g c t _ k (recalled_kept w s) = recalled_kept w (k.as_sharing s)
keeps_row g c t _ k (recalled own w s) = recalled own w (k.as_away s)
keeps_row g c t _ k (to_grant own memory m w s) = to_grant own memory m w (k.as_promised own s)
keeps_row g c t _ k (granted_owned memory w s) = granted_owned memory w (k.as_keeping s)
keeps_row g c t _ k (granted_shared memory m w s) = granted_shared memory m w (k.as_sharing s)
