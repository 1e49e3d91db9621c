use Rattle.sparc_meaning.proofs.Parts.{part_at-IsFetched}
use Rattle.sparc_meaning.proofs.fetched.Fetched.next_of.Goals as goal

pub returns-clause-fetched : goal.returns-clause-fetched
returns-clause-fetched c =
    rw (c.pair.ensures, c.window.ensures, c.part_of.ensures) (part_at-IsFetched c.instr_at-instr.result c.args.arch.now c.instr_at-instr.ensures.in_range c.requires.sound)
