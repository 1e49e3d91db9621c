use Rattle.std.proofs.Common.{◌<◌, ℕ, Bool, refl, sym, subst, ◌∙◌}
use Rattle.coherent_memory.specs.FabricViews.{system_of}
use Rattle.coherent_memory.specs.Sending.{MailsOne}
use Rattle.coherent_memory.specs.Systems.{System}
use Rattle.coherent_memory.proofs.Posting.{mails-end, mails-shorter, mails-then}
use Rattle.coherent_memory.proofs.fabric.Fabric.send_mails.Goals as goal

pub loop-p-init : goal.loop-p-init
loop-p-init g c = record { count = refl; sends = λ w rest. rest }

pub send_mail-requires : goal.send_mail-requires
send_mail-requires g c = record { node = subst (λ (n : ℕ). c.args.p.0 < n) (sym c.loop-p.invariant.count) c.requires.node }

pub loop-p-smaller : goal.loop-p-smaller
loop-p-smaller g c =
    let s : System = system_of g.C.Carrier.meaning c.loop-p.self in
    let t : System = system_of g.C.Carrier.meaning c.send_mail.new.self in
    mails-shorter c.args.p.0 s t (subst (λ (b : Bool). MailsOne c.args.p.0 s t b) c.loop-p-test.true c.send_mail.ensures.sent)

pub loop-p-preserved : goal.loop-p-preserved
loop-p-preserved g c =
    let s : System = system_of g.C.Carrier.meaning c.loop-p.self in
    let t : System = system_of g.C.Carrier.meaning c.send_mail.new.self in
    record {
      count = c.send_mail.ensures.count ∙ c.loop-p.invariant.count;
      sends = λ w rest. c.loop-p.invariant.sends w (mails-then c.args.p.0 s t w (subst (λ (b : Bool). MailsOne c.args.p.0 s t b) c.loop-p-test.true c.send_mail.ensures.sent) rest);
    }

pub returns-clause-sent : goal.returns-clause-sent
returns-clause-sent g c =
    let s : System = system_of g.C.Carrier.meaning c.loop-p.self in
    let t : System = system_of g.C.Carrier.meaning c.send_mail.new.self in
    c.loop-p.invariant.sends t (mails-end c.args.p.0 s t (subst (λ (b : Bool). MailsOne c.args.p.0 s t b) c.loop-p-test.false c.send_mail.ensures.sent))

pub returns-clause-count : goal.returns-clause-count
returns-clause-count g c = c.send_mail.ensures.count ∙ c.loop-p.invariant.count
