use Rattle.std.proofs.Common.{◌≡◌, ◌&&◌, is_some, refl, sym, ap, ◌∙◌, rules}
use Rattle.std.specs.List.{find, list_any}
use Rattle.std.specs.Option.{option_copied}
use Rattle.std.proofs.lemmas.Map.Entries.{option_filter}
use Rattle.elf64_load.specs.Image.{RegionView, holds}
use Rattle.elf64_load.specs.Layout.{has}
use Rattle.elf64_load.specs.declared.segment.Segment.{Segment}
use Rattle.elf64_load.proofs.Views.{any-regions, find-held, some-passes}
use Rattle.elf64_load.proofs.regions.Regions.has_writable.Goals as goal

pub returns : goal.returns
returns c =
    let a = c.args.addr in
    let n = c.args.count in
    let inside = c.self.inside in
    let passes : c.is_some_and.result ≡ is_some (option_filter (λ (s : Segment). s.may_write) (option_copied c.holder.result)) =
    some-passes (λ (s : Segment). s.may_write) c.holder.result c.is_some_and.result (search rules) in
    passes
    ∙ ap (λ o. is_some (option_filter (λ (s : Segment). s.may_write) o)) (c.holder.ensures ∙ ap (find (has a n)) c.deref.ensures.value)
    ∙ ap is_some (sym (find-held inside.segments.items inside.order.items c.self.invariant.apart a n (λ (s : Segment). s.may_write) c.requires))
    ∙ sym (any-regions inside.bytes.items inside.segments.items a n (λ (s : Segment). s.may_write) (λ (r : RegionView). r.may_write) (λ s. refl) c.requires c.self.invariant.within)
    ∙ ap (list_any (λ r. r.may_write && holds a n r)) c.self.view_is
