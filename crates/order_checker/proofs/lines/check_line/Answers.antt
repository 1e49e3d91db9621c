-- The line, its processor's walk, and the others.
use Rattle.std.proofs.Common.{◌≡◌, ◌<◌, List, length, get_or, Some, slice_get, refl, sym, ap, subst, ◌∙◌, arith}
use Rattle.std.proofs.lemmas.Option.{slice_get_read}
use Rattle.rsim_base.specs.declared.memory.Access.{Access}
use Rattle.order_certificate.specs.Certificate.{CertificateView}
use Rattle.order_checker.proofs.AtLines.{node_below}
use Rattle.order_checker.proofs.LineSteps.{HasWalked-on}
use Rattle.order_checker.proofs.TableLines.{OnOk_both}
use Rattle.order_checker.proofs.lines.check_line.Goals as goal

-- what the code reads at the place
read_there : (order : CertificateView) (kept : List Access) (place : Rattle.std.proofs.Common.ℕ) (x : Access) → kept ≡ order.lines → place < length order.lines → x ≡ get_or kept place x → slice_get order.lines place ≡ Some x
read_there order kept place x same within read = slice_get_read order.lines (length order.lines) place x refl within (read ∙ ap (λ ls. get_or ls place x) same)

pub index_mut-requires : goal.index_mut-requires
index_mut-requires c =
    let order = c.args.order.now in
    let stands = read_there order c.order.inside.lines.items c.args.place c.index-line.result.now (ap (λ (o : CertificateView). o.lines) c.order.view_is) c.requires.place c.index-line.ensures in
    let below = node_below order c.args.place c.index-line.result.now c.requires.walked.strays stands in
    let count = c.requires.walked.each.count in
    let len = c.args.walks.now.ok.0 in
    omega (arith, below, count, len)

pub walk_line-requires-clause-stands : goal.walk_line-requires-clause-stands
walk_line-requires-clause-stands c = read_there c.args.order.now c.order.inside.lines.items c.args.place c.index-line.result.now (ap (λ (o : CertificateView). o.lines) c.order.view_is) c.requires.place c.index-line.ensures

pub walk_line-requires-clause-walk : goal.walk_line-requires-clause-walk
walk_line-requires-clause-walk c =
    let order = c.args.order.now in
    let stands = read_there order c.order.inside.lines.items c.args.place c.index-line.result.now (ap (λ (o : CertificateView). o.lines) c.order.view_is) c.requires.place c.index-line.ensures in
    let below : c.index-line.result.now.node.0 < length c.args.walks.now.items = subst (λ n. c.index-line.result.now.node.0 < n) (sym c.requires.walked.each.count) (node_below order c.args.place c.index-line.result.now c.requires.walked.strays stands) in
    c.requires.walked.each.each c.index-line.result.now.node.0 c.index_mut.result.now (slice_get_read c.args.walks.now.items (length c.args.walks.now.items) c.index-line.result.now.node.0 c.index_mut.result.now refl below c.index_mut.ensures.value)

pub returns-clause-walked : goal.returns-clause-walked
returns-clause-walked c =
    let order = c.args.order.now in
    let stands = read_there order c.order.inside.lines.items c.args.place c.index-line.result.now (ap (λ (o : CertificateView). o.lines) c.order.view_is) c.requires.place c.index-line.ensures in
    OnOk_both c.walk_line.result (λ walked written. HasWalked-on c.args.image.now order c.args.place c.index-line.result.now c.args.walks.now.items _ c.walk_line.new.walk c.args.memory.now c.walk_line.new.memory c.requires.walked stands refl walked written)
    c.walk_line.ensures.walked c.walk_line.ensures.written
