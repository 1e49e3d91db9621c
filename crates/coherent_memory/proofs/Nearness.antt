-- A line that becomes the most recent leaves what is near.
use Rattle.std.proofs.Common.{◌≡◌, ℕ, Option, None, Some, is_some, refl, ap}
use Rattle.std.specs.Option.{option_map_or}
use Rattle.std.proofs.lemmas.Bool.{cond_both}
use Rattle.cache_sets.specs.Apart.{SoundIsApart}
use Rattle.cache_sets.specs.Caches.{CacheView, slot_of, touched}
use Rattle.cache_sets.specs.Lookups.{TouchLooksUp}
use Rattle.cache_sets.specs.Sound as cache
use Rattle.cache_levels.specs.Levels.{LevelsView, near, owned, touched_levels, written}
use Rattle.node_memory.specs.Nodes.{NodeView, line_at}
use Rattle.coherent_memory.specs.Laws.{NearAfterRead, NearAfterWrite}

module _ (touch : TouchLooksUp) (apart : SoundIsApart) where
  touched-slot : (line l : ℕ) (c : CacheView) → cache.IsSound c → (o : Option ℕ) → slot_of line c ≡ o → slot_of l (option_map_or (λ slot. touched slot c) o c) ≡ slot_of l c
  touched-slot line l c sound None is = refl
  touched-slot line l c sound (Some slot) is = (touch slot c sound ((apart c sound).within line slot is)).slot l

  pub near-touched : (line l : ℕ) (levels : LevelsView) → cache.IsSound levels.first → near l (touched_levels line levels) ≡ near l levels
  near-touched line l levels sound = ap is_some (touched-slot line l levels.first sound (slot_of line levels.first) refl)

  pub near-read : NearAfterRead
  near-read a l v sound =
      cond_both (near (line_at v a) v.levels) (record v { levels = touched_levels (line_at v a) v.levels }) v (λ (w : NodeView). near l w.levels ≡ near l v.levels)
      (λ _. near-touched (line_at v a) l v.levels sound.levels.first)
      (λ _. refl)

  pub near-written : NearAfterWrite
  near-written a l size value v sound =
      cond_both (owned (line_at v a) v.levels) (record v { levels = touched_levels (line_at v a) (written a size value v.levels) }) v (λ (w : NodeView). near l w.levels ≡ near l v.levels)
      (λ _. near-touched (line_at v a) l (written a size value v.levels) sound.levels.first)
      (λ _. refl)
