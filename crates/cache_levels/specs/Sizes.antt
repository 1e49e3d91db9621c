-- The sizes of lines.
use Rattle.std.specs.Prelude.{◌≡◌, ℕ, ◌%◌, ◌≤◌}
use Rattle.rsim_base.specs.Limits.{line_room}

-- a line has 16 bytes to those of the longest, and no aligned access reaches past its end
pub record IsLineSize (bytes : ℕ) : Type 0 where
  pub low : 16 ≤ bytes
  pub high : bytes ≤ line_room
  pub words : bytes % 8 ≡ 0
