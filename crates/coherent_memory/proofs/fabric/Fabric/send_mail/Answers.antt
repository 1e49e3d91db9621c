use Rattle.std.proofs.Common.{◌≡◌, refl, sym, ap, subst, ◌∙◌, arith, ℕ, true, false}
use Rattle.std.proofs.Math.Logic.{∥∥₁_map}
use Rattle.memory_contracts.specs.Carrier.{CarrierView, after_send, class_of, is_full}
use Rattle.memory_contracts.specs.Letters.{Mail, message_of, told}
use Rattle.coherent_memory.specs.Fabrics.{system_with}
use Rattle.coherent_memory.specs.SystemInvariants.{IsFine}
use Rattle.coherent_memory.specs.HomeRows.{homes_in}
use Rattle.coherent_memory.specs.Sending.{none, refused, sent}
use Rattle.coherent_memory.specs.Systems.{System}
use Rattle.coherent_memory.specs.Turns.{is_refused, posted, without_mail}
use Rattle.coherent_memory.proofs.Fabrics.{with-carried}
use Rattle.coherent_memory.proofs.Posting.{free-of, full-of, node-at, mail-below, send-nodes, send-refused}
use Rattle.coherent_memory.proofs.fabric.Fabric.send_mail.Goals as goal
use Rattle.memory_contracts.specs.declared.message.Message.{Message}

pub returns-in_default-clause-sent : goal.returns-in_default-clause-sent
returns-in_default-clause-sent g c = none (sym c.in_default.ensures.oldest) refl

pub send-requires-clause-destination : goal.send-requires-clause-destination
send-requires-clause-destination g c =
    let s = c.args.self.now in
    let system : System = system_with s.homes s.nodes (g.C.Carrier.meaning s.carrier) in
    let below = mail-below s.count c.args.p.0 system (told (c.in-Some.to, c.in-Some.m)) s.fine c.requires.node (sym c.in-Some.ensures.oldest) in
    omega (arith, below, s.carried)

pub returns-then-not-send-clause-sent : goal.returns-then-not-send-clause-sent
returns-then-not-send-clause-sent g c =
    let s = c.args.self.now in
    let p = c.args.p.0 in
    let m = c.in-Some.m in
    let carrier = g.C.Carrier.meaning s.carrier in
    let system : System = system_with s.homes s.nodes carrier in
    let mail : Mail = told (c.in-Some.to, m) in
    let says : m ≡ message_of p mail = c.in-Some.ensures.exactly ∙ ap (λ (q : ℕ). message_of q mail) (node-at s.count p system s.fine c.requires.node) in
    let full : is_refused p mail system ≡ true = subst (λ (m : Message). is_full carrier p (class_of m.kind) ≡ true) says (full-of (is_full carrier p (class_of m.kind)) c.send.result c.send.ensures.value c.if-not-send.true) in
    let after = c.send.ensures.after ∙ ap (after_send carrier p mail.to) says in
    refused mail (sym c.in-Some.ensures.oldest) full
    (with-carried s.homes s.nodes carrier (g.C.Carrier.meaning c.send.new.self) (after ∙ send-refused carrier p mail.to (message_of p mail) full))

pub invariant_of-self-2 : goal.invariant_of-self-2
invariant_of-self-2 g c =
    let s = c.args.self.now in
    let p = c.args.p.0 in
    let m = c.in-Some.m in
    let carrier = g.C.Carrier.meaning s.carrier in
    let system : System = system_with s.homes s.nodes carrier in
    let mail : Mail = told (c.in-Some.to, m) in
    let says : m ≡ message_of p mail = c.in-Some.ensures.exactly ∙ ap (λ (q : ℕ). message_of q mail) (node-at s.count p system s.fine c.requires.node) in
    let free : is_refused p mail system ≡ false = subst (λ (m : Message). is_full carrier p (class_of m.kind) ≡ false) says (free-of (is_full carrier p (class_of m.kind)) c.send.result c.send.ensures.value c.if-not-send.false) in
    let after = c.send.ensures.after ∙ ap (after_send carrier p mail.to) says in
    let same : system_with s.homes c.sent.new.self (g.C.Carrier.meaning c.send.new.self) ≡ without_mail p (posted p mail system) =
    λ i. record { homes = homes_in s.homes; nodes = c.sent.ensures.after i; carrier = after i } in
    record {
      home_count = s.home_count;
      node_count = c.sent.ensures.count ∙ s.node_count;
      carried = ap (λ (v : CarrierView). v.nodes) after ∙ (send-nodes carrier p mail.to (message_of p mail) ∙ s.carried);
      few = s.few;
      fine = ∥∥₁_map s.fine (λ (fine : IsFine s.count system). subst (IsFine s.count) (sym same) (c.steps_keep_lines.ensures.mail s.count p mail system fine c.requires.node (sym c.in-Some.ensures.oldest) free).fine);
    }

pub returns-clause-sent : goal.returns-clause-sent
returns-clause-sent g c =
    let s = c.args.self.now in
    let p = c.args.p.0 in
    let m = c.in-Some.m in
    let carrier = g.C.Carrier.meaning s.carrier in
    let system : System = system_with s.homes s.nodes carrier in
    let mail : Mail = told (c.in-Some.to, m) in
    let says : m ≡ message_of p mail = c.in-Some.ensures.exactly ∙ ap (λ (q : ℕ). message_of q mail) (node-at s.count p system s.fine c.requires.node) in
    let free : is_refused p mail system ≡ false = subst (λ (m : Message). is_full carrier p (class_of m.kind) ≡ false) says (free-of (is_full carrier p (class_of m.kind)) c.send.result c.send.ensures.value c.if-not-send.false) in
    let after = c.send.ensures.after ∙ ap (after_send carrier p mail.to) says in
    sent mail (sym c.in-Some.ensures.oldest) free (λ i. record { homes = homes_in s.homes; nodes = c.sent.ensures.after i; carrier = after i })
