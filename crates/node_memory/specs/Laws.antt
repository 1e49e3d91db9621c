-- What the calls of a node mean to the protocol.
use Rattle.std.specs.Prelude.{◌≡◌, ℕ, ◌%◌, true}
use Rattle.rsim_base.specs.declared.memory.Size.{Size}
use Rattle.memory_contracts.specs.Protocol.Content.{bytes_of}
use Rattle.memory_contracts.specs.Protocol.Lines.{Owned}
use Rattle.memory_contracts.specs.Protocol.NodeTable.{is_held}
use Rattle.memory_contracts.specs.Letters.{Letter}
use Rattle.memory_contracts.specs.Store.{IsLeftOf}
use Rattle.memory_contracts.specs.Updates.{with_at}
use Rattle.cache_levels.specs.Bytes.{written_at}
use Rattle.cache_levels.specs.Levels.{held, owned}
use Rattle.node_memory.specs.Nodes.{NodeView, after_read, after_wish, after_write, awaits, copy_of, line_at}
use Rattle.node_memory.specs.Rows.{after_message, is_grant}
use Rattle.node_memory.specs.Sides.{Begins, Side, side_of, takes_message}
use Rattle.node_memory.specs.Sound.{IsSound}
use Rattle.node_memory.specs.Starting.{begins}

-- a message does to its line what the protocol's table says, and nothing to any other; a line that it grants has to be awaited
abbrev pub MessageFollows : Type 0
MessageFollows =
    (m : Letter) (v : NodeView)
    → IsSound v
    → (is_grant m.message ≡ true → awaits v m.line ≡ true)
    → side_of (after_message m v) ≡ takes_message m (side_of v)

-- at the beginning of a tick at most one wish starts, and at most one line leaves for it
abbrev pub BeginFollows : Type 0
BeginFollows = (now : ℕ) (v : NodeView) → IsSound v → Begins v.wishes (side_of v) (side_of (begins now v).after) (begins now v).lost

-- wishes only leave the list
abbrev pub WishesLeave : Type 0
WishesLeave = (now : ℕ) (v : NodeView) → IsLeftOf (begins now v).after.wishes v.wishes

-- a read and a wish are nothing to the protocol
abbrev pub ReadFollows : Type 0
ReadFollows = (a : ℕ) (v : NodeView) → IsSound v → side_of (after_read a v) ≡ side_of v

abbrev pub WishFollows : Type 0
WishFollows = (line : ℕ) (own : _) (v : NodeView) → side_of (after_wish line own v) ≡ side_of v

-- a write changes bytes of its line, which is owned
abbrev pub with_written : ℕ → Size → ℕ → NodeView → Side → Side
with_written a n value v s =
    record s { copies = with_at s.copies (line_at v a) (Owned (written_at (a % v.levels.line_bytes) n value (bytes_of (copy_of v (line_at v a))))) }

abbrev pub WriteFollows : Type 0
WriteFollows =
    (a : ℕ) (n : Size) (value : ℕ) (v : NodeView)
    → IsSound v
    → owned (line_at v a) v.levels ≡ true
    → side_of (after_write a n value v) ≡ with_written a n value v (side_of v)

-- the caches hold, and own, what the protocol says
abbrev pub HeldFollows : Type 0
HeldFollows = (v : NodeView) → IsSound v → (l : ℕ) → held l v.levels ≡ is_held (copy_of v l)
