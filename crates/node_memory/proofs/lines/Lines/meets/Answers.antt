use Rattle.std.proofs.Common.{arith}
use Rattle.cache_levels.specs.Levels as level
use Rattle.miss_registers.specs.Misses.{victim_of}
use Rattle.node_memory.proofs.Held.{meets-is}
use Rattle.node_memory.proofs.lines.Lines.meets.Goals as goal

pub returns-then-not-wish : goal.returns-then-not-wish
returns-then-not-wish c =
    let s = c.args.self.now in
    let wish = c.args.wish in
    let met = meets-is wish.own (level.copy_of wish.line.0 s.levels) (victim_of s.misses wish.line.0) in
    grind arith
