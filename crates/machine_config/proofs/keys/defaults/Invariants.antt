use Rattle.std.proofs.Common.{◌≡◌, ℕ, ◌<◌, length, map, get_or}
use Rattle.machine_config.proofs.keys.defaults.Given as goal

-- the numbers so far are the rows'
abbrev pub invariant-loop-place : goal.invariant-loop-place
invariant-loop-place l = (length l.numbers ≡ 33) × ((k : ℕ) → k < l.place → get_or l.numbers k 0 ≡ get_or (map (λ row. row.default) l.keys) k 0)
