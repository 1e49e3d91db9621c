use Rattle.sparc_meaning.proofs.Parts.{written_in_range}
use Rattle.sparc_meaning.proofs.fetched.Fetched.named_dest.Goals as goal

pub returns-in-Run-clause-register : goal.returns-in-Run-clause-register
returns-in-Run-clause-register c = rw c.dest.ensures (written_in_range c.args.self.now.instr.op c.args.self.now.instr.rd c.requires.fetched.instr.rd)
