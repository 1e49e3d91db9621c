use Rattle.std.proofs.Common.{◌≡◌, ℕ, true, is_some, refl, sym, ap, ◌∙◌, arith}
use Rattle.std.specs.List.{find, list_any}
use Rattle.elf64_load.specs.Image.{RegionView, holds}
use Rattle.elf64_load.specs.Layout.{has, spans}
use Rattle.elf64_load.proofs.Finds.{any-find}
use Rattle.elf64_load.proofs.Views.{any-regions, spans-has}
use Rattle.elf64_load.proofs.regions.Regions.spans.Goals as goal

pub returns : goal.returns
returns c = λ a.
    let inside = c.self.inside in
    ap (list_any (spans a)) c.deref.ensures.value
    ∙ any-find (spans a) inside.order.items
    ∙ spans-has inside.segments.items inside.order.items c.self.invariant.apart a
    ∙ sym (any-regions inside.bytes.items inside.segments.items a 1 (λ _. true) (λ _. true) (λ s. refl) (omega arith) c.self.invariant.within)
    ∙ ap (list_any (holds a 1)) c.self.view_is
