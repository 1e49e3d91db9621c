use Rattle.std.proofs.Common.{arith}
use Rattle.cache_levels.specs.Levels as level
use Rattle.miss_registers.specs.Misses.{register_of, victim_of}
use Rattle.node_memory.proofs.Held.{covers-any, leaving-is}
use Rattle.node_memory.proofs.lines.Lines.is_busy.Goals as goal

pub returns-else-merge : goal.returns-else-merge
returns-else-merge c =
    let s = c.args.self.now in
    let line = c.args.line.0 in
    let leaving = leaving-is (level.copy_of line s.levels) (victim_of s.misses line) in
    let awaited = covers-any (register_of s.misses line) in
    grind arith
