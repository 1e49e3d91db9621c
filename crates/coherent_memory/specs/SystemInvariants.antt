-- What the whole memory keeps: each message is where it belongs, and each line is coherent.
use Rattle.std.specs.Prelude.{◌≡◌, ℕ, ◌<◌, Bool, true, false, All}
use Rattle.memory_contracts.specs.Carrier.{Flight}
use Rattle.memory_contracts.specs.Protocol.Coherent.{Coherent}
use Rattle.memory_contracts.specs.Protocol.Events.{is_to_home, is_to_node}
use Rattle.memory_contracts.specs.Protocol.NodeTable.{is_held}
use Rattle.memory_contracts.specs.Letters.{Letter, Mail, said}
use Rattle.memory_contracts.specs.Store.{Wish}
use Rattle.directory.specs.Homes.{HomeView, Post}
use Rattle.node_memory.specs.Nodes.{NodeView, copy_of}
use Rattle.coherent_memory.specs.Systems.{System, content, home_number, is_kept, line_of, party}

-- ---- where messages belong; kept is which lines are those of memory

-- home h says this to a node about a line of its own
pub record IsRightPost (n : ℕ) (kept : ℕ → Bool) (h : ℕ) (post : Post) : Type 0 where
  pub line : kept post.line ≡ true
  pub home : home_number n post.line ≡ h
  pub to : post.to < n
  pub kind : is_to_node post.message ≡ true

-- a node asks home h for a line of its own
pub record IsRightLetter (n : ℕ) (kept : ℕ → Bool) (h : ℕ) (letter : Letter) : Type 0 where
  pub line : kept letter.line ≡ true
  pub home : home_number n letter.line ≡ h
  pub from : letter.from < n
  pub kind : is_to_home letter.message ≡ true

-- a node says this to the home of a line
pub record IsRightMail (n : ℕ) (kept : ℕ → Bool) (mail : Mail) : Type 0 where
  pub line : kept mail.line ≡ true
  pub to : mail.to ≡ home_number n mail.line
  pub kind : is_to_home mail.message ≡ true

-- a message under way goes between a node and the home of the line
abbrev pub GoesRight : ℕ → Flight → Bool → Type 0
GoesRight n f true = f.to ≡ home_number n f.message.line.0
GoesRight n f false = is_to_node (said f.message) ≡ true

pub record IsRightFlight (n : ℕ) (kept : ℕ → Bool) (f : Flight) : Type 0 where
  pub line : kept f.message.line.0 ≡ true
  pub to : f.to < n
  pub party : party f < n
  pub goes : GoesRight n f (is_to_home (said f.message))

pub record IsRightHome (n : ℕ) (kept : ℕ → Bool) (h : ℕ) (v : HomeView) : Type 0 where
  pub at : v.at ≡ h
  pub nodes : v.nodes ≡ n
  pub outgoing : All (IsRightPost n kept h) v.outgoing
  pub waiting : All (IsRightLetter n kept h) v.waiting

pub record IsRightNode (n : ℕ) (kept : ℕ → Bool) (p : ℕ) (v : NodeView) : Type 0 where
  pub at : v.at ≡ p
  pub nodes : v.nodes ≡ n
  pub outbox : All (IsRightMail n kept) v.outbox
  pub wishes : All (λ (w : Wish). kept w.line ≡ true) v.wishes
  pub copies : (l : ℕ) → is_held (copy_of v l) ≡ true → kept l ≡ true

pub record IsRight (n : ℕ) (kept : ℕ → Bool) (s : System) : Type 0 where
  pub homes : (h : ℕ) → h < n → IsRightHome n kept h (s.homes h)
  pub nodes : (p : ℕ) → p < n → IsRightNode n kept p (s.nodes p)
  pub flights : All (IsRightFlight n kept) s.carrier.flights

-- ---- all of it

pub record IsFine (n : ℕ) (s : System) : Type 0 where
  pub some : 0 < n
  pub right : IsRight n (is_kept n s) s
  pub lines : (l : ℕ) → is_kept n s l ≡ true → Coherent n (content n s l) (line_of n s l)

-- memory has gone on, and has the same lines with the same content
pub record HasKept (n : ℕ) (s t : System) : Type 0 where
  pub fine : IsFine n t
  pub lines : (l : ℕ) → is_kept n t l ≡ is_kept n s l
  pub content : (l : ℕ) → is_kept n s l ≡ true → content n t l ≡ content n s l
