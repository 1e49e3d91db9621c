use Rattle.rsim_top.proofs.Hex.{padded_integral-hex}
use Rattle.rsim_top.proofs.report_text.EndingDisplay.fmt.Goals as goal

pub returns-in-Trapped-clause-writes : goal.returns-in-Trapped-clause-writes
returns-in-Trapped-clause-writes g c =
    let written = rw (c.laid_out.ensures, c.in_radix.ensures, c.laid_out-in-Trapped.ensures, c.in_radix-in-Trapped.ensures) at c.write-in-Trapped.ensures.writes in
    let in_hex = rw (padded_integral-hex 3 c.in-Trapped.trap, padded_integral-hex 16 c.in-Trapped.pc) at written in
    rw c.in-Trapped.is in_hex
