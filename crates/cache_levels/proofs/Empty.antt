-- New levels have nothing.
use Rattle.std.proofs.Common.{◌≡◌, ℕ, ◌*◌, false, length, Option, IsTrue, is_some, sym, ◌∙◌, subst}
use Rattle.std.proofs.lemmas.List.{length-replicate}
use Rattle.std.proofs.lemmas.List.Elements.{All-replicate}
use Rattle.rsim_base.specs.Limits.{line_room}
use Rattle.cache_sets.specs.Caches.{empty_cache}
use Rattle.cache_sets.specs.Empty.{slot_of-empty, reserved_slot-empty, slot_count-empty}
use Rattle.cache_sets.specs.Sound.{IsSound}
use Rattle.machine_config.specs.Allowed.{IsAllowed}
use Rattle.machine_config.specs.declared.config.Config.{Config}
use Rattle.cache_levels.specs.declared.levels.LineCopy.{LineCopy}
use Rattle.cache_levels.specs.Levels.{no_copy, empty_levels}
use Rattle.cache_levels.specs.Sound.{AreSound}
use Rattle.cache_levels.proofs.ConfigSizes.{line_fits}

pub AreSound-empty : (config : Config) → IsAllowed config → IsSound (empty_cache config.l1_sets config.l1_ways) → IsSound (empty_cache config.l2_sets config.l2_ways) → AreSound (empty_levels config)
AreSound-empty config allowed first second = record {
  first = first;
  second = second;
  near_is_held = λ line is. let P : Option ℕ → Type 0 = λ o. IsTrue (is_some o) in let gone : IsTrue false = subst P (slot_of-empty config.l1_sets config.l1_ways line) is in absurd cc;
  unreserved = λ line. reserved_slot-empty config.l1_sets config.l1_ways line;
  copies = length-replicate (config.l2_sets * config.l2_ways) no_copy ∙ sym (slot_count-empty config.l2_sets config.l2_ways);
  bytes = All-replicate (λ (copy : LineCopy). length copy.bytes ≡ line_room) (config.l2_sets * config.l2_ways) no_copy (length-replicate {A = ℕ} line_room 0);
  line_bytes = line_fits config allowed;
}
