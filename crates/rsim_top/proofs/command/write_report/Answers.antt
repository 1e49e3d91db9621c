use Rattle.rsim_top.proofs.Stored.{HasPrefixWritten-from_failed}
use Rattle.rsim_top.proofs.Failing.{report_refused}
use Rattle.rsim_top.proofs.command.write_report.Goals as goal

pub returns-clause-put : goal.returns-clause-put
returns-clause-put g c =
    let part = HasPrefixWritten-from_failed (g.K.Sink.written c.args.out.now) (g.K.Sink.written c.put.new.self) c.deref.result.now c.in-Err.fault c.in-Err.ensures.put in (
      rw (← c.in-Ok.ensures, ← c.deref.ensures.value) part,
      rw c.write_refusal.ensures (report_refused c.in-Err.fault (g.K.Sink.sure c.args.out.now) (g.K.Sink.faults c.args.out.now) (g.K.Sink.faults c.put.new.self) c.in-Err.ensures.cause.failed c.in-Err.ensures.sure_to_store),
    )
