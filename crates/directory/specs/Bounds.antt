-- What a home has noted speaks of nodes that there are.
use Rattle.std.specs.Prelude.{◌≡◌, ℕ, ◌+◌, ◌≤◌, max, Bool, false, Option, None, Some}
use Rattle.memory_contracts.specs.Protocol.Lines.{HomeRecord, Phase, Idle, Collecting, Recalling, Granting}

-- one more than the highest node that a phase names
abbrev pub phase_bound : Phase → ℕ
phase_bound Idle = 0
phase_bound (Collecting p left) = p + 1
phase_bound (Recalling q p own) = max (q + 1) (p + 1)
phase_bound (Granting p) = p + 1

-- one more than the owner
abbrev pub owner_bound : Option ℕ → ℕ
owner_bound None = 0
owner_bound (Some q) = q + 1

abbrev pub AreBelow : ℕ → (ℕ → Bool) → Type 0
AreBelow n set = (y : ℕ) → n ≤ y → set y ≡ false

pub record IsKnown (n : ℕ) (h : HomeRecord) : Type 0 where
  pub phase : phase_bound h.phase ≤ n
  pub owner : owner_bound h.owner ≤ n
  pub sharers : AreBelow n h.sharers
