use Rattle.rsim_top.proofs.Judging.{judged_accepted, ChecksOrder-fault}
use Rattle.rsim_top.proofs.checking.check_order.Goals as goal

pub returns-in-Ok : goal.returns-in-Ok
returns-in-Ok c = judged_accepted c.args.image.now c.args.text.now c.in-Ok.told c.in-Ok.ensures.fits c.in-Ok.ensures.accepts c.in-Ok.ensures.only

pub returns-in-Err : goal.returns-in-Err
returns-in-Err c = rw c.rejected.ensures (ChecksOrder-fault c.args.image.now c.args.text.now c.in-Err.why c.in-Err.ensures.verdict c.in-Err.ensures.accepts c.in-Err.ensures.only)
