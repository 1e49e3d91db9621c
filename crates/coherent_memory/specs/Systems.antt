-- The whole memory: a home and a node for each number, and the messages that are under way between them.
use Rattle.std.specs.Prelude.{ℕ, ◌%◌, ◌==◌, ◌&&◌, Bool, List, [], ◌∷◌, ◌++◌, if◌then◌else◌}
use Rattle.std.specs.List.{flat_map}
use Rattle.memory_contracts.specs.Carrier.{CarrierView, Flight}
use Rattle.memory_contracts.specs.Protocol.Content.{current}
use Rattle.memory_contracts.specs.Protocol.Events.{is_to_home}
use Rattle.memory_contracts.specs.Protocol.Lines.{Cell, LineState, all_mailed, cell, stance}
use Rattle.memory_contracts.specs.Protocol.Messages.{Message}
use Rattle.memory_contracts.specs.Letters.{Letter, Mail, said}
use Rattle.directory.specs.Homes.{HomeView, Post}
use Rattle.node_memory.specs.Nodes.{NodeView, awaits, copy_of}

pub record System : Type 0 where
  pub homes : ℕ → HomeView
  pub nodes : ℕ → NodeView
  pub carrier : CarrierView

-- the home of a line, among so many
abbrev pub home_number : ℕ → ℕ → ℕ
home_number n l = l % n

abbrev pub home_at : ℕ → System → ℕ → HomeView
home_at n s l = s.homes (home_number n l)

-- whether the line is one of memory: its home keeps it
abbrev pub is_kept : ℕ → System → ℕ → Bool
is_kept n s l = (home_at n s l).lines l

-- ---- what is said about line l between its home and node x: what the home has to send, what is under way, what the node has to send,
-- and what waits at the home

abbrev pub if_about : Bool → Message → List Message
if_about b m = if b then m ∷ [] else []

abbrev pub of_post : ℕ → ℕ → Post → List Message
of_post l x post = if_about ((post.line == l) && (post.to == x)) post.message

-- the node of a message under way: who sent it, where it goes to a home
abbrev pub party : Flight → ℕ
party f = if is_to_home (said f.message) then f.message.from.0 else f.to

abbrev pub of_flight : ℕ → ℕ → Flight → List Message
of_flight l x f = if_about ((f.message.line.0 == l) && (party f == x)) (said f.message)

abbrev pub of_mail : ℕ → Mail → List Message
of_mail l mail = if_about (mail.line == l) mail.message

abbrev pub of_letter : ℕ → ℕ → Letter → List Message
of_letter l x letter = if_about ((letter.line == l) && (letter.from == x)) letter.message

abbrev pub between : ℕ → System → ℕ → ℕ → List Message
between n s l x =
    flat_map (of_post l x) (home_at n s l).outgoing
    ++ (flat_map (of_flight l x) s.carrier.flights
    ++ (flat_map (of_mail l) (s.nodes x).outbox
    ++ flat_map (of_letter l x) (home_at n s l).waiting))

-- ---- a line as the protocol sees it

-- a node with nothing between it and the home
abbrev pub alone : NodeView → ℕ → Cell
alone v l = cell (stance (copy_of v l) (awaits v l) [] 0) []

abbrev pub line_of : ℕ → System → ℕ → LineState
line_of n s l = record {
  home = (home_at n s l).records l;
  at = λ x. all_mailed (between n s l x) (alone (s.nodes x) l);
}

abbrev pub content : ℕ → System → ℕ → List ℕ
content n s l = current (line_of n s l)
