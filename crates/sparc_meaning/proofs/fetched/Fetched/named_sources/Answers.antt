use Rattle.sparc_meaning.proofs.Parts.{third_in_range}
use Rattle.sparc_meaning.proofs.fetched.Fetched.named_sources.Goals as goal

pub returns-in-Run-clause-third : goal.returns-in-Run-clause-third
returns-in-Run-clause-third c = rw c.sources.ensures (third_in_range c.args.self.now.instr.op c.args.self.now.instr.rd c.requires.fetched.instr.rd)
