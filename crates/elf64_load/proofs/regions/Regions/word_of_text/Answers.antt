use Rattle.std.proofs.Common.{◌≡◌, ℕ, ◌&&◌, List, length, Option, Some, None, option_map, refl, sym, ap, ◌∙◌, arith}
use Rattle.std.specs.List.{find}
use Rattle.elf64_load.specs.Image.{RegionView, is_text, holds, word_at}
use Rattle.elf64_load.specs.Layout.{has, runs, region_in}
use Rattle.elf64_load.specs.declared.segment.Segment.{Segment}
use Rattle.elf64_load.proofs.Views.{find-regions, found-segment}
use Rattle.elf64_load.proofs.regions.Regions.word_of_text.Goals as goal

-- the first segment of text with the word
abbrev text : ℕ → List Segment → Option Segment
text pc segments = find (λ s. runs s && has pc 4 s) segments

-- and the first such region
abbrev text_region : ℕ → List RegionView → Option RegionView
text_region pc regions = find (λ r. is_text r && holds pc 4 r) regions

pub returns-in_err-text : goal.returns-in_err-text
returns-in_err-text c =
    let pc = c.args.pc in
    let inside = c.self.inside in
    let none : text pc inside.segments.items ≡ None =
    ap (text pc) (sym c.deref.ensures.value) ∙ sym c.in_err-text.ensures in
    c.from_residual.ensures
    ∙ ap (λ o. option_map (word_at pc) (option_map (region_in inside.bytes.items) o)) (sym none)
    ∙ ap (option_map (word_at pc)) (sym (find-regions inside.bytes.items inside.segments.items pc 4 runs is_text (λ s. refl) (omega arith) c.self.invariant.within))
    ∙ ap (λ regions. option_map (word_at pc) (text_region pc regions)) c.self.view_is

pub word_at-requires-clause-held : goal.word_at-requires-clause-held
word_at-requires-clause-held c =
    let pc = c.args.pc in
    let inside = c.self.inside in
    let some : text pc inside.segments.items ≡ Some c.in_ok-text.text.now =
    ap (text pc) (sym c.deref.ensures.value) ∙ sym c.in_ok-text.ensures in
    (found-segment inside.bytes.items inside.segments.items pc 4 runs c.in_ok-text.text.now c.self.invariant.within some).0

pub word_at-requires-clause-within : goal.word_at-requires-clause-within
word_at-requires-clause-within c =
    let pc = c.args.pc in
    let inside = c.self.inside in
    let some : text pc inside.segments.items ≡ Some c.in_ok-text.text.now =
    ap (text pc) (sym c.deref.ensures.value) ∙ sym c.in_ok-text.ensures in
    let there = (found-segment inside.bytes.items inside.segments.items pc 4 runs c.in_ok-text.text.now c.self.invariant.within some).1 in
    let len = ap length c.deref-3.ensures.value in
    omega (arith, there, len)

pub returns : goal.returns
returns c =
    let pc = c.args.pc in
    let inside = c.self.inside in
    let some : text pc inside.segments.items ≡ Some c.in_ok-text.text.now =
    ap (text pc) (sym c.deref.ensures.value) ∙ sym c.in_ok-text.ensures in
    ap Some (c.word_at.ensures ∙ ap (λ bytes. word_at pc (region_in bytes c.in_ok-text.text.now)) c.deref-3.ensures.value)
    ∙ ap (λ o. option_map (word_at pc) (option_map (region_in inside.bytes.items) o)) (sym some)
    ∙ ap (option_map (word_at pc)) (sym (find-regions inside.bytes.items inside.segments.items pc 4 runs is_text (λ s. refl) (omega arith) c.self.invariant.within))
    ∙ ap (λ regions. option_map (word_at pc) (text_region pc regions)) c.self.view_is
