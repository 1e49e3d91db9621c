-- The nodes' table, as what a message does to the caches, the misses and the outbox of a node.
use Rattle.std.specs.Prelude.{◌≢◌, ⊤, IsTrue, None, ℕ, Bool, true, false, List, [], ◌∷◌, if◌then◌else◌}
use Rattle.memory_contracts.specs.Protocol.Lines.{Copy, Absent, Shared, Owned, Evicting, Emptied}
use Rattle.memory_contracts.specs.Protocol.Messages.{Message, Inv, Recall, Grant, PutAck}
use Rattle.memory_contracts.specs.Protocol.NodeTable.{NodeStep, node_takes}
use Rattle.memory_contracts.specs.Letters.{Letter}
use Rattle.cache_sets.specs.Caches.{reserved_slot}
use Rattle.cache_levels.specs.Levels.{LevelsView, filled_line, held, lost, shared}
use Rattle.miss_registers.specs.Misses.{MissView, with_emptied, without_register, without_victim}
use Rattle.node_memory.specs.Nodes.{NodeView, awaits, copy_of, with_mails}
use Rattle.node_memory.specs.declared.table.Change.{Change}
use Rattle.node_memory.specs.declared.table.Change.TheVariants.{Nothing, Lose, Share, Fill, EmptySlot, FreeSlot}

-- ---- the rows, by the message and the copy

abbrev pub change_by : Message → Copy → Change
change_by Inv (Shared bytes) = Lose
change_by (Recall false) (Owned bytes) = Share
change_by (Recall true) (Owned bytes) = Lose
change_by (Recall own) (Evicting bytes) = EmptySlot
change_by PutAck (Evicting bytes) = FreeSlot
change_by PutAck Emptied = FreeSlot
change_by (Grant own bytes) Absent = Fill own bytes
change_by (Grant own bytes) (Shared old) = Fill own bytes
change_by m copy = Nothing

-- ---- what they do

-- a line that is filled is near, and the most recent
abbrev pub levels_after : Change → ℕ → LevelsView → LevelsView
levels_after Lose line levels = lost line levels
levels_after Share line levels = shared line levels
levels_after (Fill own bytes) line levels = filled_line line own bytes levels
levels_after change line levels = levels

abbrev pub misses_after : Change → ℕ → MissView → MissView
misses_after (Fill own bytes) line misses = without_register line misses
misses_after EmptySlot line misses = with_emptied line misses
misses_after FreeSlot line misses = without_victim line misses
misses_after change line misses = misses

abbrev pub after_change : Change → ℕ → NodeView → NodeView
after_change change line v = record v { levels = levels_after change line v.levels; misses = misses_after change line v.misses }

-- ---- a message

-- what the protocol's table says of it
abbrev pub step_at : Letter → NodeView → NodeStep
step_at m v = node_takes m.message (copy_of v m.line) (awaits v m.line)

abbrev pub change_at : Letter → NodeView → Change
change_at m v = change_by m.message (copy_of v m.line)

abbrev pub after_message : Letter → NodeView → NodeView
after_message m v = with_mails m.line (step_at m v).sent (after_change (change_at m v) m.line v)

-- the line, where it was held and is not any more
abbrev pub lost_at : Letter → NodeView → List ℕ
lost_at m v = if (step_at m v).lost then m.line ∷ [] else []

-- the message grants a line, so the line has to be awaited
abbrev pub is_grant : Message → Bool
is_grant (Grant own bytes) = true
is_grant m = false

-- a line that is lost or shared has to be held, and one that is filled needs its way
abbrev pub Allows : Change → ℕ → LevelsView → Type 0
Allows Lose line levels = IsTrue (held line levels)
Allows Share line levels = IsTrue (held line levels)
Allows (Fill own bytes) line levels = reserved_slot line levels.second ≢ None
Allows change line levels = ⊤
