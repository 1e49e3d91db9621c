-- What each step of a tick does to the lines of memory: all stay coherent, and have the content that they had.
use Rattle.std.specs.Prelude.{◌≡◌, ℕ, ◌%◌, ◌==◌, ◌<◌, true, false, All, List, if◌then◌else◌, slice_get, Some}
use Rattle.rsim_base.specs.declared.memory.Line.{Line}
use Rattle.rsim_base.specs.declared.memory.Node.{Node}
use Rattle.rsim_base.specs.declared.memory.Size.{Size}
use Rattle.memory_contracts.specs.Carrier.{CarrierTicks, CarrierView, Flight}
use Rattle.memory_contracts.specs.Protocol.Events.{is_to_home}
use Rattle.memory_contracts.specs.Letters.{Mail, letter_of, said}
use Rattle.memory_contracts.specs.Store.{Wish}
use Rattle.cache_levels.specs.Bytes.{written_at}
use Rattle.cache_levels.specs.Levels.{near, owned}
use Rattle.directory.specs.Homes.{HomeView, Serves, home_after}
use Rattle.node_memory.specs.Nodes.{NodeView, after_read, after_write, awaits, line_at}
use Rattle.node_memory.specs.Rows.{is_grant}
use Rattle.node_memory.specs.Sides.{side_of}
use Rattle.node_memory.specs.Sound.{IsSound}
use Rattle.coherent_memory.specs.SystemInvariants.{HasKept, IsFine}
use Rattle.coherent_memory.specs.Systems.{System, content, is_kept}
use Rattle.coherent_memory.specs.Turns.{Turn, begun, is_refused, next_mail, next_post, node_takes, posted, with_carrier, with_home, with_node, without_flight, without_mail, without_post}

-- ---- messages

-- a home takes a message of a node
abbrev pub HomeTakesKeeps : Type 0
HomeTakesKeeps =
    (n p now i : ℕ) (f : Flight) (s : System)
    → IsFine n s
    → p < n
    → slice_get s.carrier.flights i ≡ Some f
    → f.to ≡ p
    → is_to_home (said f.message) ≡ true
    → HasKept n s (with_home p (home_after (letter_of f.message) now (s.homes p)) (without_flight i s))

-- a home serves a request that has waited
abbrev pub ServingKeeps : Type 0
ServingKeeps =
    (n p now line : ℕ) (home : HomeView) (s : System)
    → IsFine n s
    → p < n
    → Serves line now (s.homes p) home true
    → HasKept n s (with_home p home s)

-- a node takes a message of a home
abbrev pub NodeTakesKeeps : Type 0
NodeTakesKeeps =
    (n p i : ℕ) (f : Flight) (s : System)
    → IsFine n s
    → p < n
    → IsSound (s.nodes p)
    → slice_get s.carrier.flights i ≡ Some f
    → f.to ≡ p
    → is_to_home (said f.message) ≡ false
    → HasKept n s (node_takes p f.message (without_flight i s))

-- a line that is granted is awaited
abbrev pub GrantsAwaited : Type 0
GrantsAwaited =
    (n p i : ℕ) (f : Flight) (s : System)
    → IsFine n s
    → p < n
    → slice_get s.carrier.flights i ≡ Some f
    → f.to ≡ p
    → is_grant (said f.message) ≡ true
    → awaits (s.nodes p) f.message.line.0 ≡ true

-- messages go on their way
abbrev pub PostKeeps : Type 0
PostKeeps =
    (n p now : ℕ) (mail : Mail) (s : System)
    → IsFine n s
    → p < n
    → next_post p now s ≡ Some mail
    → is_refused p mail s ≡ false
    → HasKept n s (without_post p (posted p mail s))

abbrev pub MailKeeps : Type 0
MailKeeps =
    (n p : ℕ) (mail : Mail) (s : System)
    → IsFine n s
    → p < n
    → next_mail p s ≡ Some mail
    → is_refused p mail s ≡ false
    → HasKept n s (without_mail p (posted p mail s))

abbrev pub CarryingKeeps : Type 0
CarryingKeeps = (n : ℕ) (carrier : CarrierView) (s : System) → IsFine n s → CarrierTicks s.carrier carrier → HasKept n s (with_carrier carrier s)

-- ---- nodes

-- a node begins its part of a tick
abbrev pub BeginKeeps : Type 0
BeginKeeps = (n p now : ℕ) (s : System) → IsFine n s → p < n → IsSound (s.nodes p) → HasKept n s (begun p now s)

-- what is nothing to the protocol: reading and wishing
abbrev pub NothingKeeps : Type 0
NothingKeeps =
    (n p : ℕ) (v : NodeView) (s : System)
    → IsFine n s
    → p < n
    → side_of v ≡ side_of (s.nodes p)
    → v.at ≡ (s.nodes p).at
    → All (λ (w : Wish). is_kept n s w.line ≡ true) v.wishes
    → HasKept n s (with_node p v s)

-- a whole turn
abbrev pub TurnKeeps : Type 0
TurnKeeps =
    (n p now : ℕ) (s t : System) (gone : List (Node × Line))
    → IsFine n s
    → IsSound (s.nodes p)
    → IsSound ((begun p now s).nodes p)
    → p < n
    → Turn p now s t gone
    → HasKept n s t

-- a write changes the content of its line alone
abbrev pub written_in : ℕ → Size → ℕ → NodeView → (ℕ → List ℕ) → ℕ → List ℕ
written_in a n value v contents l =
    if l == line_at v a then written_at (a % v.levels.line_bytes) n value (contents l) else contents l

pub record HasWritten (n a : ℕ) (size : Size) (value : ℕ) (v : NodeView) (s t : System) : Type 0 where
  pub fine : IsFine n t
  pub lines : (l : ℕ) → is_kept n t l ≡ is_kept n s l
  pub content : (l : ℕ) → is_kept n s l ≡ true → content n t l ≡ written_in a size value v (content n s) l

abbrev pub WritingKeeps : Type 0
WritingKeeps =
    (n p a : ℕ) (size : Size) (value : ℕ) (s : System)
    → IsFine n s
    → p < n
    → IsSound (s.nodes p)
    → owned (line_at (s.nodes p) a) (s.nodes p).levels ≡ true
    → HasWritten n a size value (s.nodes p) s (with_node p (after_write a size value (s.nodes p)) s)

-- ---- what is near

-- a read and a write leave what is near
abbrev pub NearAfterRead : Type 0
NearAfterRead = (a l : ℕ) (v : NodeView) → IsSound v → near l (after_read a v).levels ≡ near l v.levels

abbrev pub NearAfterWrite : Type 0
NearAfterWrite = (a l : ℕ) (size : Size) (value : ℕ) (v : NodeView) → IsSound v → near l (after_write a size value v).levels ≡ near l v.levels
