-- The bytes so far stand in the line, and every other byte is as it was.
use Rattle.std.proofs.Common.{◌≡◌, ◌+◌, ◌++◌, map, take, drop}
use Rattle.std.specs.List.{range_with_len}
use Rattle.rsim_base.specs.Bytes.{count_of, byte_of}
use Rattle.cache_levels.proofs.bytes.put.Given as goal

abbrev pub invariant-loop-b : goal.invariant-loop-b
invariant-loop-b l =
    l.bytes ≡ take l.at l.fn.bytes ++ (map (λ b. byte_of l.v (count_of l.n) b) (range_with_len 0 l.b) ++ drop (l.at + l.b) l.fn.bytes)
