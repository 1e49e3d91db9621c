use Rattle.std.proofs.Common.{◌≡◌, rules}
use Rattle.rsim_top.specs.VerdictText.{verdict_text}
use Rattle.rsim_top.proofs.Stored.{HasPrefixWritten-from_failed}
use Rattle.rsim_top.proofs.Failing.{report_refused}
use Rattle.rsim_top.proofs.checking.tell.Goals as goal

pub returns-clause-put : goal.returns-clause-put
returns-clause-put g c =
    let is : verdict_text c.args.verdict.now ≡ c.as_bytes.result.now = search rules in
    let part = HasPrefixWritten-from_failed (g.K.Sink.written c.args.out.now) (g.K.Sink.written c.put.new.self) c.as_bytes.result.now c.in-Err.fault c.in-Err.ensures.put in (
      rw is part,
      rw c.write_refusal.ensures (report_refused c.in-Err.fault (g.K.Sink.sure c.args.out.now) (g.K.Sink.faults c.args.out.now) (g.K.Sink.faults c.put.new.self) c.in-Err.ensures.cause.failed c.in-Err.ensures.sure_to_store),
    )
