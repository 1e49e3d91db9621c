-- The laws of the caches below, as premises.
use Rattle.cache_sets.specs.Apart.{SoundIsApart}
use Rattle.cache_sets.specs.Lookups.{DropLooksUp, FillLooksUp, HoldLooksUp, ReserveLooksUp, TouchLooksUp}
use Rattle.cache_levels.specs.Laws.{ChangeCopies, FillCopies, LoseCopies}

pub record CacheLaws : Type 0 where
  pub apart : SoundIsApart
  pub touch : TouchLooksUp
  pub reserve : ReserveLooksUp
  pub hold : HoldLooksUp
  pub fill : FillLooksUp
  pub drop : DropLooksUp
  pub filled : FillCopies
  pub changed : ChangeCopies
  pub lost : LoseCopies
