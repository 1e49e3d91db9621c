-- What is true of a new node.
use Rattle.std.proofs.Common.{◌≡◌, ℕ, Bool, List, Option, is_some, refl, sym, ap, ◌∙◌, arith}
use Rattle.std.specs.FinMap.{get-empty}
use Rattle.std.specs.Ordering.{nat_cmp}
use Rattle.cache_sets.specs.Caches.{reserved_slot}
use Rattle.cache_sets.specs.Empty.{reserved_slot-empty}
use Rattle.cache_levels.specs.Levels.{LevelsView, empty_levels}
use Rattle.cache_levels.specs.Sound.{AreSound}
use Rattle.machine_config.specs.Allowed.{IsAllowed}
use Rattle.machine_config.specs.Sizes.{sizes_of}
use Rattle.machine_config.specs.declared.config.Config.{Config}
use Rattle.miss_registers.specs.Misses.{MissView, register_of, victim_of}
use Rattle.node_memory.specs.Nodes.{empty_node, no_misses}
use Rattle.node_memory.specs.Sound.{IsSound}

pub sound-empty : (config : Config) (at : ℕ) (levels : LevelsView) (misses : MissView) → IsAllowed config → levels ≡ empty_levels config → misses ≡ no_misses config.miss_registers → AreSound levels →
    IsSound (record (empty_node config at) { levels = levels; misses = misses })
sound-empty config at levels misses allowed levels_are misses_are sound =
    let sizes = sizes_of config allowed in
    let (some, few) = sizes.processors in
    let none = λ (l : ℕ). ap (λ (m : MissView). is_some (register_of m l)) misses_are ∙ ap is_some (get-empty {X = Bool} nat_cmp l) in
    let slotless = λ (l : ℕ). ap (λ (m : MissView). victim_of m l) misses_are ∙ get-empty {X = Option (List ℕ)} nat_cmp l in
    record {
      nodes = omega (arith, some);
      few = omega (arith, few);
      latency = sizes.l2_latency.1;
      levels = sound;
      ways = λ l. none l ∙ sym (ap (λ (levels : LevelsView). is_some (reserved_slot l levels.second)) levels_are ∙ ap is_some (reserved_slot-empty config.l2_sets config.l2_ways l));
      slotless_held = λ l there. slotless l;
      slotless_awaited = λ l awaited. slotless l;
      unowned = λ l awaited. let gone = none l in absurd cc;
      wishes = omega arith;
      coming = refl;
      outbox = omega arith;
    }
