-- The store that is found, and what is known of it.
use Rattle.std.proofs.Common.{◌<◌, ◌^◌, length, sym, ap, subst, ◌∙◌, rules, arith}
use Rattle.std.proofs.lemmas.Option.{slice_get_within}
use Rattle.rsim_base.specs.Bytes.{Covers, count_of}
use Rattle.rsim_base.specs.declared.memory.Access.{Access}
use Rattle.order_certificate.specs.Certificate.{CertificateView}
use Rattle.order_checker.specs.Firsts.{first}
use Rattle.order_checker.specs.Walking.{differs_from}
use Rattle.order_checker.proofs.Covered.{overlap_stands, wrong_from_store}
use Rattle.order_checker.proofs.LinePlaces.{same_line}
use Rattle.order_checker.proofs.values.wrong_at.Goals as goal

pub index-store-requires : goal.index-store-requires
index-store-requires c =
    let f = overlap_stands c.args.image.now c.args.order.now c.args.place c.args.line.now c.args.walk.now c.args.at c.requires.at c.requires.found in
    let below = slice_get_within c.args.order.now.lines c.args.at f.0 f.1 in
    let same = ap length (ap (λ (o : CertificateView). o.lines) c.order.view_is) in
    let len = c.order.inside.lines.ok.0 in
    omega (arith, below, same, len)

pub first_differing-requires-clause-addr : goal.first_differing-requires-clause-addr
first_differing-requires-clause-addr c =
    let order = c.args.order.now in
    let f = overlap_stands c.args.image.now order c.args.place c.args.line.now c.args.walk.now c.args.at c.requires.at c.requires.found in
    let same = same_line order.lines c.order.inside.lines.items c.args.at f.0 c.index-store.result.now f.1 (ap (λ (o : CertificateView). o.lines) c.order.view_is) c.index-store.ensures in
    subst (λ (x : Access). x.addr.0 < 2 ^ 64) (sym same) f.2

pub returns-then-covers : goal.returns-then-covers
returns-then-covers c =
    let order = c.args.order.now in
    let e = c.args.line.now in
    let f = overlap_stands c.args.image.now order c.args.place e c.args.walk.now c.args.at c.requires.at c.requires.found in
    let same = same_line order.lines c.order.inside.lines.items c.args.at f.0 c.index-store.result.now f.1 (ap (λ (o : CertificateView). o.lines) c.order.view_is) c.index-store.ensures in
    c.first_differing.ensures ∙ ap (λ (x : Access). first (differs_from x c.args.place e) (count_of e.size)) same
    ∙ wrong_from_store c.args.image.now order c.args.place e c.args.walk.now c.args.at f.0 c.requires.at c.requires.found f.1
    (subst (λ (x : Access). Covers x.addr.0 (count_of x.size) e.addr.0 (count_of e.size)) same (search rules))
