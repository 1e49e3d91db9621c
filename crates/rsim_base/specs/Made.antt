-- What a program has made: accesses, each with the fences before it.
use Rattle.std.specs.Prelude.{ℕ, ◌+◌, ◌/◌, ◌%◌}
use Rattle.rsim_base.specs.declared.memory.Access.{Access}

-- how many fences a program has run so far, by what they order: an earlier load or store before a later
-- load or store
pub record Fences : Type 0 where
  pub load_load : ℕ
  pub store_load : ℕ
  pub load_store : ℕ
  pub store_store : ℕ

abbrev pub no_fences : Fences
no_fences = record { load_load = 0; store_load = 0; load_store = 0; store_store = 0 }

-- with a fence of this mask, which has a bit for each
abbrev pub fenced : ℕ → Fences → Fences
fenced mask f = record {
  load_load = f.load_load + mask % 2;
  store_load = f.store_load + mask / 2 % 2;
  load_store = f.load_store + mask / 4 % 2;
  store_store = f.store_store + mask / 8 % 2;
}

-- an access that a program has made, and the fences before it
pub record Made : Type 0 where
  pub access : Access
  pub fences : Fences
