-- Each way is one line's: the slots of the ways that lines hold, or that are reserved for them, tell the lines apart.
use Rattle.std.specs.Prelude.{◌≡◌, ℕ, ◌<◌, Some}
use Rattle.cache_sets.specs.Caches.{CacheView, slot_of, reserved_slot, slot_count}
use Rattle.cache_sets.specs.Sound.{IsSound}

pub record IsApart (cache : CacheView) : Type 0 where
  pub held : (line other slot : ℕ) → slot_of line cache ≡ Some slot → slot_of other cache ≡ Some slot → line ≡ other
  pub reserved : (line other slot : ℕ) → slot_of line cache ≡ Some slot → reserved_slot other cache ≡ Some slot → line ≡ other
  pub within : (line slot : ℕ) → slot_of line cache ≡ Some slot → slot < slot_count cache
  pub reserved_within : (line slot : ℕ) → reserved_slot line cache ≡ Some slot → slot < slot_count cache

abbrev pub SoundIsApart : Type 0
SoundIsApart = (cache : CacheView) → IsSound cache → IsApart cache
