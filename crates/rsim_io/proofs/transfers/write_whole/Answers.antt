use Rattle.std.proofs.Common.{◌++◌, take}
use Rattle.std.proofs.KnownBytes.{Appends-trans}
use Rattle.rsim_io.proofs.Written.{moves_front, Appends-part}
use Rattle.rsim_io.proofs.transfers.write_whole.Goals as goal

pub loop-left-preserved : goal.loop-left-preserved
loop-left-preserved g c =
    let (done, is, written) = c.loop-left.invariant in
    let left = c.loop-left.left.now in
    (done ++ take c.in-Ok.count left, moves_front _ done left c.in-Ok.count is, Appends-trans _ _ _ _ _ written c.in-Ok.ensures.bytes)

pub returns-in_default-clause-bytes : goal.returns-in_default-clause-bytes
returns-in_default-clause-bytes g c =
    let (done, is, written) = c.loop-left.invariant in
    Appends-part _ _ _ _ done c.loop-left.left.now c.write.result is written c.write.ensures.bytes

pub returns-in_default-2-clause-bytes : goal.returns-in_default-2-clause-bytes
returns-in_default-2-clause-bytes g c =
    let (done, is, written) = c.loop-left.invariant in
    Appends-part _ _ _ _ done c.loop-left.left.now c.write.result is written c.write.ensures.bytes
