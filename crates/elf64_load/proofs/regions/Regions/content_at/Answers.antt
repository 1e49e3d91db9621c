use Rattle.std.proofs.Common.{◌≡◌, ℕ, true, List, length, Option, Some, None, option_map, unwrap_or, refl, sym, ap, ◌∙◌, arith}
use Rattle.std.specs.List.{find}
use Rattle.elf64_load.specs.Image.{holds, content_at}
use Rattle.elf64_load.specs.Layout.{has, region_in}
use Rattle.elf64_load.specs.declared.segment.Segment.{Segment}
use Rattle.elf64_load.proofs.Views.{find-regions, found-segment}
use Rattle.elf64_load.proofs.regions.Regions.content_at.Goals as goal

-- the content in the region of a segment, if there is one
abbrev content : ℕ → List ℕ → Option Segment → ℕ
content a bytes o = unwrap_or (option_map (content_at a) (option_map (region_in bytes) o)) 0

pub content_at-requires-clause-held : goal.content_at-requires-clause-held
content_at-requires-clause-held c =
    let inside = c.self.inside in
    let some : find (has c.args.addr 1) inside.segments.items ≡ Some c.in-Some.segment.now =
    ap (find (has c.args.addr 1)) (sym c.deref.ensures.value) ∙ sym c.in-Some.ensures in
    (found-segment inside.bytes.items inside.segments.items c.args.addr 1 (λ _. true) c.in-Some.segment.now c.self.invariant.within some).0

pub content_at-requires-clause-within : goal.content_at-requires-clause-within
content_at-requires-clause-within c =
    let inside = c.self.inside in
    let some : find (has c.args.addr 1) inside.segments.items ≡ Some c.in-Some.segment.now =
    ap (find (has c.args.addr 1)) (sym c.deref.ensures.value) ∙ sym c.in-Some.ensures in
    let there = (found-segment inside.bytes.items inside.segments.items c.args.addr 1 (λ _. true) c.in-Some.segment.now c.self.invariant.within some).1 in
    let len = ap length c.deref-in-Some.ensures.value in
    omega (arith, there, len)

pub returns-in-Some : goal.returns-in-Some
returns-in-Some c =
    let a = c.args.addr in
    let inside = c.self.inside in
    let some : find (has a 1) inside.segments.items ≡ Some c.in-Some.segment.now =
    ap (find (has a 1)) (sym c.deref.ensures.value) ∙ sym c.in-Some.ensures in
    c.content_at.ensures
    ∙ ap (λ bytes. content_at a (region_in bytes c.in-Some.segment.now)) c.deref-in-Some.ensures.value
    ∙ ap (content a inside.bytes.items) (sym some)
    ∙ ap (λ o. unwrap_or (option_map (content_at a) o) 0) (sym (find-regions inside.bytes.items inside.segments.items a 1 (λ _. true) (λ _. true) (λ s. refl) (omega arith) c.self.invariant.within))
    ∙ ap (λ regions. unwrap_or (option_map (content_at a) (find (holds a 1) regions)) 0) c.self.view_is

pub returns-in-None : goal.returns-in-None
returns-in-None c =
    let a = c.args.addr in
    let inside = c.self.inside in
    let none : find (has a 1) inside.segments.items ≡ None =
    ap (find (has a 1)) (sym c.deref.ensures.value) ∙ sym c.in-None.ensures in
    ap (content a inside.bytes.items) (sym none)
    ∙ ap (λ o. unwrap_or (option_map (content_at a) o) 0) (sym (find-regions inside.bytes.items inside.segments.items a 1 (λ _. true) (λ _. true) (λ s. refl) (omega arith) c.self.invariant.within))
    ∙ ap (λ regions. unwrap_or (option_map (content_at a) (find (holds a 1) regions)) 0) c.self.view_is
