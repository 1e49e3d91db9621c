-- What an image has where it has no memory.
use Rattle.std.proofs.Common.{◌≡◌, ℕ, false, option_map, unwrap_or, ap}
use Rattle.std.specs.List.{list_any}
use Rattle.std.proofs.lemmas.Bool.{or_parts}
use Rattle.list_facts.specs.Tests.{find-none_any}
use Rattle.elf64_load.specs.Image.{ImageView, byte_at, content_at, holds, in_one_stack, is_mapped}

pub byte_at-unmapped : (image : ImageView) (a : ℕ) → is_mapped image a ≡ false → byte_at image a ≡ 0
byte_at-unmapped image a none =
    let parts = or_parts (list_any (holds a 1) image.regions) (in_one_stack a 1) none in
    ap (λ o. unwrap_or (option_map (content_at a) o) 0) (find-none_any (holds a 1) image.regions parts.0)
