-- What is true of every node.
use Rattle.std.specs.Prelude.{◌≡◌, ℕ, suc, ◌≤◌, ◌<◌, nat_le, ◌&&◌, Bool, All, true, false, List, [], ◌∷◌, length, None, is_some}
use Rattle.rsim_base.specs.Limits.{max_processors}
use Rattle.memory_contracts.specs.Store.{most_wishes}
use Rattle.cache_levels.specs.Levels.{held, owned}
use Rattle.cache_levels.specs.Sound.{AreSound}
use Rattle.cache_sets.specs.Caches.{reserved_slot}
use Rattle.miss_registers.specs.Misses.{victim_of}
use Rattle.node_memory.specs.Nodes.{Coming, NodeView, awaits, most_mails}

-- these lines were fetched in rising ticks, from this one on
abbrev pub are_rising : ℕ → List Coming → Bool
are_rising from [] = true
are_rising from (c ∷ cs) = nat_le from c.since && are_rising (suc c.since) cs

-- these lines were fetched before this tick
abbrev pub AreBefore : ℕ → List Coming → Type 0
AreBefore now coming = All (λ c. c.since < now) coming

pub record IsSound (v : NodeView) : Type 0 where
  pub nodes : 0 < v.nodes
  pub few : v.nodes ≤ max_processors
  pub latency : v.latency ≤ 64
  pub levels : AreSound v.levels
  -- a line is awaited exactly while a way is reserved for it
  pub ways : (l : ℕ) → awaits v l ≡ is_some (reserved_slot l v.levels.second)
  -- a line that is held has no victim slot; one that is awaited has none either, and is not owned
  pub slotless_held : (l : ℕ) → held l v.levels ≡ true → victim_of v.misses l ≡ None
  pub slotless_awaited : (l : ℕ) → awaits v l ≡ true → victim_of v.misses l ≡ None
  pub unowned : (l : ℕ) → awaits v l ≡ true → owned l v.levels ≡ false
  pub wishes : length v.wishes ≤ most_wishes
  pub coming : are_rising 0 v.coming ≡ true
  pub outbox : length v.outbox ≤ most_mails
