-- The content of a line, read off its state.
use Rattle.std.specs.Prelude.{◌≡◌, ◌⊎◌, ℕ, suc, ◌+◌, Bool, true, false, if◌then◌else◌, List, [], ◌∷◌, Option, None, Some}
use Rattle.memory_contracts.specs.Protocol.Messages.{Message, Recall, Grant, RecallAck, Done}
use Rattle.memory_contracts.specs.Protocol.Lines.{Phase, Idle, Collecting, Recalling, Granting, Copy, Shared, Owned, Evicting, Cell, LineState}
use Rattle.memory_contracts.specs.Protocol.Coherent.{IsKeeping}
use Rattle.memory_contracts.specs.Protocol.Events.{is_to_node}

abbrev pub bytes_of : Copy → List ℕ
bytes_of (Shared bytes) = bytes
bytes_of (Owned bytes) = bytes
bytes_of (Evicting bytes) = bytes
bytes_of copy = []

-- where a line is called back: the bytes that are on their way to the home, or else those of the node
abbrev pub called_back : List Message → Copy → List ℕ
called_back (RecallAck kept bytes ∷ words) copy = bytes
called_back words copy = bytes_of copy

-- where a line is given to own: the bytes of the node once it has them, and those of memory before
abbrev pub given : List Message → Copy → List ℕ → List ℕ
given (Done ∷ words) copy memory = bytes_of copy
given words copy memory = memory

abbrev pub current_in : LineState → Phase → Option ℕ → List ℕ
current_in l Idle (Some q) = bytes_of (l.at q).stance.copy
current_in l (Recalling q p own) owner = called_back (l.at q).words (l.at q).stance.copy
current_in l (Granting p) (Some o) = given (l.at p).words (l.at p).stance.copy l.home.memory
current_in l phase owner = l.home.memory

abbrev pub current : LineState → List ℕ
current l = current_in l l.home.phase l.home.owner

-- what has the content g, by the phase and the owner
abbrev pub StandsIn : List ℕ → LineState → Phase → Option ℕ → Type 0
StandsIn g l Idle None = l.home.memory ≡ g
StandsIn g l Idle (Some q) = IsKeeping g (l.at q).stance
StandsIn g l (Collecting p left) owner = l.home.memory ≡ g
StandsIn g l (Recalling q p own) owner =
    (((l.at q).words ≡ Recall own ∷ []) × IsKeeping g (l.at q).stance) ⊎ ((kept : Bool) × ((l.at q).words ≡ RecallAck kept g ∷ []))
StandsIn g l (Granting p) None = (l.home.memory ≡ g) × (((l.at p).words ≡ Grant false g ∷ []) ⊎ ((l.at p).words ≡ Done ∷ []))
StandsIn g l (Granting p) (Some o) =
    ((l.home.memory ≡ g) × ((l.at p).words ≡ Grant true g ∷ [])) ⊎ (((l.at p).words ≡ Done ∷ []) × IsKeeping g (l.at p).stance)

-- how many messages of the home are under way to a node
abbrev pub count_to_node : List Message → ℕ
count_to_node [] = 0
count_to_node (m ∷ ms) = if is_to_node m then suc (count_to_node ms) else count_to_node ms

abbrev pub from_home : Cell → ℕ
from_home c = count_to_node c.words + c.stance.acks
