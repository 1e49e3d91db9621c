-- What a node has: its caches, its misses, what it wishes, the lines on their way to its first level, and what it has to send.
use Rattle.std.specs.Prelude.{ℕ, ◌/◌, ◌%◌, nat_lt, Bool, not, ◌&&◌, ◌||◌, if◌then◌else◌, List, [], ◌∷◌, ◌++◌, length, map, drop, slice_index, Option, None, Some, is_some}
use Rattle.std.specs.FinMap.{empty}
use Rattle.std.specs.List.{list_any}
use Rattle.rsim_base.specs.Bytes.{count_of}
use Rattle.rsim_base.specs.declared.memory.Line.{Line}
use Rattle.rsim_base.specs.declared.memory.Node.{Node}
use Rattle.rsim_base.specs.declared.memory.Size.{Size}
use Rattle.machine_config.specs.declared.config.Config.{Config}
use Rattle.memory_contracts.specs.Protocol.Content.{bytes_of}
use Rattle.memory_contracts.specs.Protocol.Lines.{Copy, Absent, Evicting, Emptied}
use Rattle.memory_contracts.specs.Protocol.Messages.{Message}
use Rattle.memory_contracts.specs.Protocol.NodeTable.{granted}
use Rattle.memory_contracts.specs.Letters.{Mail}
use Rattle.memory_contracts.specs.Store.{Wish, covers, most_wishes, value_at}
use Rattle.cache_levels.specs.Levels as level
use Rattle.cache_levels.specs.Levels.{LevelsView, empty_levels, near, owned, touched_levels, written}
use Rattle.cache_levels.specs.declared.levels.LineCopy.{LineCopy}
use Rattle.miss_registers.specs.Misses.{MissView, register_of, victim_of}

-- a line on its way to the first level, and the tick of the wish that fetches it
pub record Coming : Type 0 where
  pub line : ℕ
  pub since : ℕ

pub record NodeView : Type 0 where
  -- the node itself, one of so many
  pub at : ℕ
  pub nodes : ℕ
  -- how many ticks a line takes from the second level to the first
  pub latency : ℕ
  pub levels : LevelsView
  pub misses : MissView
  -- each the oldest first
  pub wishes : List Wish
  pub coming : List Coming
  pub outbox : List Mail

-- ---- a line

-- what a node has of a line, by its copy in the caches and its victim slot
abbrev pub kept_as : Option LineCopy → Option (Option (List ℕ)) → Copy
kept_as (Some copy) slot = granted copy.owned copy.bytes
kept_as None None = Absent
kept_as None (Some None) = Emptied
kept_as None (Some (Some bytes)) = Evicting bytes

abbrev pub copy_of : NodeView → ℕ → Copy
copy_of v line = kept_as (level.copy_of line v.levels) (victim_of v.misses line)

-- whether the node waits for the line
abbrev pub awaits : NodeView → ℕ → Bool
awaits v line = is_some (register_of v.misses line)

-- the line of an address
abbrev pub line_at : NodeView → ℕ → ℕ
line_at v a = a / v.levels.line_bytes

-- the byte at an address, in the copy of its line
abbrev pub byte_in : NodeView → ℕ → ℕ
byte_in v a = slice_index (bytes_of (copy_of v (line_at v a))) (a % v.levels.line_bytes)

-- ---- what is to be sent

-- to the home of the line
abbrev pub mail : NodeView → ℕ → Message → Mail
mail v line message = record { line = line; to = line % v.nodes; message = message }

abbrev pub with_mails : ℕ → List Message → NodeView → NodeView
with_mails line messages v = record v { outbox = v.outbox ++ map (mail v line) messages }

abbrev pub most_mails : ℕ
most_mails = 1024

abbrev pub has_room : NodeView → Bool
has_room v = nat_lt (length v.outbox) most_mails

abbrev pub without_first_mail : NodeView → NodeView
without_first_mail v = record v { outbox = drop 1 v.outbox }

-- lines that left the node, as they are told
abbrev pub left_from : ℕ → List ℕ → List (Node × Line)
left_from at lines = map (λ line. (record { 0 = at }, record { 0 = line })) lines

-- ---- reading, writing and wishing

-- what is read: nothing where the line is not near
abbrev pub read_of : NodeView → ℕ → Size → Option ℕ
read_of v a n = if near (line_at v a) v.levels then Some (value_at (byte_in v) a (count_of n)) else None

-- a line that is read is the most recent
abbrev pub after_read : ℕ → NodeView → NodeView
after_read a v = if near (line_at v a) v.levels then record v { levels = touched_levels (line_at v a) v.levels } else v

-- a line that is written is the most recent; as before where it is not owned
abbrev pub after_write : ℕ → Size → ℕ → NodeView → NodeView
after_write a n value v = if owned (line_at v a) v.levels then record v { levels = touched_levels (line_at v a) (written a n value v.levels) } else v

abbrev pub is_covered : NodeView → ℕ → Bool → Bool
is_covered v line own = list_any (covers line own) v.wishes

-- whether a wish is taken: one that another covers adds nothing
abbrev pub takes_wish : NodeView → ℕ → Bool → Bool
takes_wish v line own = is_covered v line own || nat_lt (length v.wishes) most_wishes

abbrev pub after_wish : ℕ → Bool → NodeView → NodeView
after_wish line own v =
    if takes_wish v line own && not (is_covered v line own) then record v { wishes = v.wishes ++ record { line = line; own = own } ∷ [] } else v

-- ---- at first

abbrev pub no_misses : ℕ → MissView
no_misses count = record { count = count; registers = empty; victims = empty }

-- nothing is there, asked for or to be sent
abbrev pub empty_node : Config → ℕ → NodeView
empty_node config at = record {
  at = at;
  nodes = config.processors;
  latency = config.l2_latency;
  levels = empty_levels config;
  misses = no_misses config.miss_registers;
  wishes = [];
  coming = [];
  outbox = [];
}
