-- The store that is found, or memory.
use Rattle.std.proofs.Common.{◌≡◌, ◌<◌, ℕ, List, length, Option, None, Some, sym, ap, subst, ◌∙◌, arith}
use Rattle.std.proofs.lemmas.Option.{slice_get_within}
use Rattle.rsim_base.specs.Bytes.{count_of, gap_of}
use Rattle.rsim_base.specs.declared.memory.Access.{Access}
use Rattle.order_certificate.specs.Certificate.{CertificateView}
use Rattle.order_checker.specs.declared.walk.Walk.{Walk}
use Rattle.order_checker.specs.Faults.{writes}
use Rattle.order_checker.specs.Values.{stored_byte}
use Rattle.order_checker.specs.Walking.{latest_left}
use Rattle.order_checker.proofs.LinePlaces.{same_line}
use Rattle.order_checker.proofs.Latest.{found_own, own_stands, source_own, source_before}
use Rattle.order_checker.proofs.values.source.Goals as goal

-- what is found in the lines as the code has them
found_is : (order : CertificateView) (lines : List Access) (e : Access) (w : Walk) (byte : ℕ) (o : Option ℕ) → lines ≡ order.lines →
    o ≡ latest_left (writes byte) lines e w → found_own order e w byte ≡ o
found_is order lines e w byte o same is = sym (is ∙ ap (λ ls. latest_left (writes byte) ls e w) same)

pub index-requires : goal.index-requires
index-requires c =
    let order = c.args.order.now in
    let lines_are = c.deref.ensures.value ∙ ap (λ (o : CertificateView). o.lines) c.order.view_is in
    let found = found_is order c.deref.result.now c.args.line.now c.args.walk.now c.args.byte (Some c.in-Some.at) lines_are (sym c.in-Some.is ∙ c.latest_store.ensures) in
    let f = own_stands c.args.image.now order c.args.place c.args.line.now c.args.walk.now c.args.byte c.in-Some.at c.requires.at found in
    let below = slice_get_within order.lines c.in-Some.at f.0 f.1 in
    let same = ap length lines_are in
    omega (arith, below, same, c.deref.ensures.len)

pub stored_byte-requires : goal.stored_byte-requires
stored_byte-requires c =
    let order = c.args.order.now in
    let lines_are = c.deref.ensures.value ∙ ap (λ (o : CertificateView). o.lines) c.order.view_is in
    let found = found_is order c.deref.result.now c.args.line.now c.args.walk.now c.args.byte (Some c.in-Some.at) lines_are (sym c.in-Some.is ∙ c.latest_store.ensures) in
    let f = own_stands c.args.image.now order c.args.place c.args.line.now c.args.walk.now c.args.byte c.in-Some.at c.requires.at found in
    let same = same_line order.lines c.order.inside.lines.items c.in-Some.at f.0 c.index.result.now f.1 (ap (λ (o : CertificateView). o.lines) c.order.view_is) c.index.ensures in
    subst (λ (x : Access). gap_of x.addr.0 c.args.byte < count_of x.size) (sym same) f.2

pub returns-in-Some : goal.returns-in-Some
returns-in-Some c =
    let order = c.args.order.now in
    let lines_are = c.deref.ensures.value ∙ ap (λ (o : CertificateView). o.lines) c.order.view_is in
    let found = found_is order c.deref.result.now c.args.line.now c.args.walk.now c.args.byte (Some c.in-Some.at) lines_are (sym c.in-Some.is ∙ c.latest_store.ensures) in
    let f = own_stands c.args.image.now order c.args.place c.args.line.now c.args.walk.now c.args.byte c.in-Some.at c.requires.at found in
    let same = same_line order.lines c.order.inside.lines.items c.in-Some.at f.0 c.index.result.now f.1 (ap (λ (o : CertificateView). o.lines) c.order.view_is) c.index.ensures in
    c.stored_byte.ensures ∙ ap (λ (x : Access). stored_byte x c.args.byte) same
    ∙ sym (source_own c.args.image.now order c.args.place c.args.line.now c.args.walk.now c.args.byte c.in-Some.at f.0 c.requires.at found f.1)

pub returns-in-None : goal.returns-in-None
returns-in-None c =
    let order = c.args.order.now in
    let lines_are = c.deref.ensures.value ∙ ap (λ (o : CertificateView). o.lines) c.order.view_is in
    let found = found_is order c.deref.result.now c.args.line.now c.args.walk.now c.args.byte None lines_are (sym c.in-None.is ∙ c.latest_store.ensures) in
    c.byte.ensures ∙ c.requires.written c.args.byte c.ranges.byte.fits ∙ sym (source_before c.args.image.now order c.args.place c.args.line.now c.args.walk.now c.args.byte c.requires.at found)
