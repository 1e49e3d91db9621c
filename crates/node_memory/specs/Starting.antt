-- How a node begins its part of a tick: lines that are fetched come near, and the first wish starts if it may.
use Rattle.std.specs.Prelude.{ℕ, ◌+◌, nat_le, nat_lt, Bool, true, false, not, ◌&&◌, ◌||◌, if◌then◌else◌, List, [], ◌∷◌, ◌++◌, length, Option, None, Some}
use Rattle.std.specs.Option.{option_map_or}
use Rattle.rsim_base.specs.declared.memory.Line.{Line}
use Rattle.memory_contracts.specs.Protocol.Awaited.{is_leaving}
use Rattle.memory_contracts.specs.Protocol.Lines.{Copy, Absent, Shared, Owned}
use Rattle.memory_contracts.specs.Protocol.Messages.{Message, Put, get}
use Rattle.memory_contracts.specs.Store.{Wish}
use Rattle.cache_levels.specs.Levels.{LevelsView, brought, evicted, held, held_way, with_room}
use Rattle.cache_levels.specs.declared.levels.Evicted.{Evicted}
use Rattle.miss_registers.specs.Misses.{MissView, covers, register_of, registers_full, slots_full, with_register, with_victim}
use Rattle.node_memory.specs.Nodes.{Coming, NodeView, awaits, copy_of, most_mails, with_mails}

-- ---- lines come near

-- the ticks from the second level to the first have passed
abbrev pub is_due : ℕ → ℕ → Coming → Bool
is_due latency now coming = nat_le (coming.since + latency) now

-- a line is brought near if it is held still
abbrev pub near_if_held : ℕ → LevelsView → LevelsView
near_if_held line levels = if held line levels then brought line levels else levels

-- there is a first line on its way, and its time has come
abbrev pub is_first_due : ℕ → ℕ → List Coming → Bool
is_first_due latency now [] = false
is_first_due latency now (c ∷ cs) = is_due latency now c

-- the caches, and the lines that are on their way still
pub record Arrival : Type 0 where
  pub levels : LevelsView
  pub coming : List Coming

abbrev pub arrive : ℕ → ℕ → List Coming → LevelsView → Arrival
arrive latency now [] levels = record { levels = levels; coming = [] }
arrive latency now (c ∷ cs) levels =
    if is_due latency now c then arrive latency now cs (near_if_held c.line levels) else record { levels = levels; coming = c ∷ cs }

abbrev pub arrived : ℕ → NodeView → NodeView
arrived now v = let a = arrive v.latency now v.coming v.levels in record v { levels = a.levels; coming = a.coming }

-- ---- the first wish

-- without the first wishes as long as a register covers them
abbrev pub uncovered : MissView → List Wish → List Wish
uncovered misses [] = []
uncovered misses (w ∷ ws) = if covers (register_of misses w.line) w.own then uncovered misses ws else w ∷ ws

-- there is a first wish, and a register covers it
abbrev pub is_first_covered : MissView → List Wish → Bool
is_first_covered misses [] = false
is_first_covered misses (w ∷ ws) = covers (register_of misses w.line) w.own

-- a copy meets a wish
abbrev pub meets : Bool → Copy → Bool
meets own (Shared bytes) = not own
meets own (Owned bytes) = true
meets own copy = false

abbrev pub is_absent : Copy → Bool
is_absent Absent = true
is_absent copy = false

-- there is no way for the line, or no slot for the owned line that would leave it
abbrev pub lacks_way : Option Evicted → MissView → Bool
lacks_way None misses = true
lacks_way (Some e) misses = e.owned && slots_full misses

-- a wish that the copy does not meet waits while its line is leaving, or asked for with less, or there is no register or way for
-- it, or no place in the outbox for a Put and a request
abbrev pub has_to_wait : Wish → NodeView → Bool
has_to_wait w v =
    is_leaving (copy_of v w.line)
    || awaits v w.line
    || registers_full v.misses
    || nat_lt most_mails (length v.outbox + 2)
    || (is_absent (copy_of v w.line) && lacks_way (evicted w.line v.levels) v.misses)

-- ---- what becomes of it

-- the answer, the node afterwards, and the lines that left it
pub record Begun : Type 0 where
  pub answer : Bool
  pub after : NodeView
  pub lost : List ℕ

-- the bytes of an owned line that leaves are kept, and put back
abbrev pub slots_with : Evicted → MissView → MissView
slots_with e misses = option_map_or (λ (line : Line). if e.owned then with_victim line.0 (Some e.bytes) misses else misses) e.line misses

abbrev pub put_for : Evicted → List Message
put_for e = if e.owned then Put e.bytes ∷ [] else []

abbrev pub with_put : Evicted → NodeView → NodeView
with_put e v = option_map_or (λ (line : Line). with_mails line.0 (put_for e) v) e.line v

abbrev pub lines_of : Option Line → List ℕ
lines_of None = []
lines_of (Some line) = line.0 ∷ []

-- the line has a register, and is asked for
abbrev pub asks : ℕ → Bool → NodeView → NodeView
asks line own v = with_mails line (get own ∷ []) (record v { misses = with_register line own v.misses })

-- another line leaves for it
abbrev pub evicts : ℕ → Evicted → NodeView → NodeView
evicts line e v = with_put e (record v { levels = with_room line v.levels; misses = slots_with e v.misses })

-- a wish that may start for a line that is absent, or shared
abbrev pub starts_absent : Wish → Option Evicted → NodeView → Begun
starts_absent w None v = record { answer = false; after = v; lost = [] }
starts_absent w (Some e) v = record { answer = true; after = asks w.line w.own (evicts w.line e v); lost = lines_of e.line }

abbrev pub starts_shared : Wish → NodeView → Begun
starts_shared w v = record { answer = true; after = asks w.line w.own (record v { levels = held_way w.line v.levels }); lost = [] }

abbrev pub starts : Wish → NodeView → Begun
starts w v = if is_absent (copy_of v w.line) then starts_absent w (evicted w.line v.levels) v else starts_shared w v

-- its line comes near later
abbrev pub met : ℕ → Wish → NodeView → Begun
met now w v = record { answer = true; after = record v { coming = v.coming ++ record { line = w.line; since = now } ∷ [] }; lost = [] }

-- a wish that is met or starts leaves the list
abbrev pub first_begins : ℕ → List Wish → NodeView → Begun
first_begins now [] v = record { answer = false; after = record v { wishes = [] }; lost = [] }
first_begins now (w ∷ ws) v =
    if meets w.own (copy_of v w.line) then met now w (record v { wishes = ws })
    else if has_to_wait w v then record { answer = false; after = record v { wishes = w ∷ ws }; lost = [] }
    else starts w (record v { wishes = ws })

abbrev pub begins : ℕ → NodeView → Begun
begins now v = let u = arrived now v in first_begins now (uncovered u.misses u.wishes) u
