-- An instruction fills first where its effect on the windows asks for that.
use Rattle.std.proofs.Common.{sym}
use Rattle.sparc_meaning.proofs.Telling.{fills_asked}
use Rattle.sparc_meaning.proofs.arch.Arch.fills_first.Goals as goal

pub returns-clause-value : goal.returns-clause-value
returns-clause-value c = rw (c.must_fill.ensures.value, c.window_effect.ensures, c.window.ensures) (sym (fills_asked c.args.i.now.op c.args.self.now))
