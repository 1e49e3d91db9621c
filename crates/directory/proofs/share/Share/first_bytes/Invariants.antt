use Rattle.directory.proofs.Bytes.{AreFirstUpTo}
use Rattle.directory.proofs.share.Share.first_bytes.Given as goal

abbrev pub invariant-loop-place : goal.invariant-loop-place
invariant-loop-place l = AreFirstUpTo l.image l.self.line_bytes l.number l.place l.bytes
