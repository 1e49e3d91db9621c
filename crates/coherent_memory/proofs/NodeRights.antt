-- What a node has, and has to send, is where it belongs.
use Rattle.std.proofs.Common.{◌≡◌, ℕ, ◌%◌, Bool, true, List, [], ◌∷◌, All, ap, ◌∙◌}
use Rattle.std.proofs.lemmas.List.Elements.{All-append, All-cons, All-head, All-nil, All-tail}
use Rattle.memory_contracts.specs.Protocol.Events.{is_to_home}
use Rattle.memory_contracts.specs.Protocol.Messages.{Message}
use Rattle.memory_contracts.specs.Protocol.NodeTable.{is_held}
use Rattle.memory_contracts.specs.Store.{Wish}
use Rattle.memory_contracts.specs.Updates.{with_at}
use Rattle.node_memory.specs.Nodes.{NodeView}
use Rattle.node_memory.specs.Sides.{Side, sends, side_of}
use Rattle.memory_contracts.specs.Protocol.Lines.{Copy}
use Rattle.coherent_memory.specs.SystemInvariants.{IsRightMail, IsRightNode}
use Rattle.coherent_memory.proofs.Places.{with_at-both}
use Rattle.coherent_memory.proofs.Sides.{mails}

pub record IsRightSide (n : ℕ) (kept : ℕ → Bool) (a : Side) : Type 0 where
  pub nodes : a.nodes ≡ n
  pub outbox : All (IsRightMail n kept) a.outbox
  pub copies : (l : ℕ) → is_held (a.copies l) ≡ true → kept l ≡ true

pub right-side : (n : ℕ) (kept : ℕ → Bool) (p : ℕ) (v : NodeView) → IsRightNode n kept p v → IsRightSide n kept (side_of v)
right-side n kept p v right = record { nodes = right.nodes; outbox = right.outbox; copies = right.copies }

pub right-node : (n : ℕ) (kept : ℕ → Bool) (p : ℕ) (v : NodeView) → v.at ≡ p → All (λ (w : Wish). kept w.line ≡ true) v.wishes → IsRightSide n kept (side_of v) → IsRightNode n kept p v
right-node n kept p v at wishes right = record { at = at; nodes = right.nodes; outbox = right.outbox; wishes = wishes; copies = right.copies }

-- ---- messages to the home of a line

right-mails : (n : ℕ) (kept : ℕ → Bool) (line to : ℕ) (ms : List Message) → kept line ≡ true → to ≡ line % n → All (λ m. is_to_home m ≡ true) ms → All (IsRightMail n kept) (mails line to ms)
right-mails n kept line to [] there home kinds = All-nil (IsRightMail n kept)
right-mails n kept line to (m ∷ ms) there home kinds =
    All-cons (IsRightMail n kept) (record { line = line; to = to; message = m }) (mails line to ms)
    (record { line = there; to = home; kind = All-head (λ m. is_to_home m ≡ true) m ms kinds })
    (right-mails n kept line to ms there home (All-tail (λ m. is_to_home m ≡ true) m ms kinds))

pub right-sends : (n : ℕ) (kept : ℕ → Bool) (line : ℕ) (ms : List Message) (a : Side) → kept line ≡ true → All (λ m. is_to_home m ≡ true) ms → IsRightSide n kept a → IsRightSide n kept (sends line ms a)
right-sends n kept line ms a there kinds right = record {
  nodes = right.nodes;
  outbox = All-append (IsRightMail n kept) a.outbox (mails line (line % a.nodes) ms) right.outbox (right-mails n kept line (line % a.nodes) ms there (ap (λ k. line % k) right.nodes) kinds);
  copies = right.copies;
}

-- ---- copies

-- one line has another copy, which is held only where the line is kept
pub right-copies : (kept : ℕ → Bool) (copies : ℕ → Copy) (line : ℕ) (copy : Copy) → ((l : ℕ) → is_held (copies l) ≡ true → kept l ≡ true) → (is_held copy ≡ true → kept line ≡ true)
    → (l : ℕ) → is_held (with_at copies line copy l) ≡ true → kept l ≡ true
right-copies kept copies line copy before here l = with_at-both (λ c. is_held c ≡ true → kept l ≡ true) copies line copy l (λ same held. ap kept same ∙ here held) (λ other. before l)
