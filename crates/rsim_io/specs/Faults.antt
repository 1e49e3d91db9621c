-- Counts of failures. A call that answers "failed" must have seen the count rise, so that code which
-- only uses a shelf or a sink cannot give such an answer of its own accord.
use Rattle.std.specs.Prelude.{◌≡◌, ℕ, ◌+◌, ◌-◌, ◌^◌, ◌≤◌, min}
use Rattle.rsim_io.specs.Failures.{one_more}

-- The count is greater than before, or stands at 2^64 - 1, its last value.
abbrev pub Rose : ℕ → ℕ → Type 0
Rose before now = min (before + 1) (2 ^ 64 - 1) ≤ now

-- The count never falls, and the call fails only where it rose.
pub record HasCause (Failed : Type 0) (before now : ℕ) : Type 0 where
  pub later : before ≤ now
  pub failed : Failed → Rose before now

-- The count is one greater where the call failed, or at its last value, and else as before.
pub record Counts (Failed : Type 0) (before now : ℕ) : Type 0 where
  pub one_more_if_failed : Failed → now ≡ one_more before
  pub same_if_not : ¬ Failed → now ≡ before
