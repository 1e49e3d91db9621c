-- A processor's turn, as its parts make it.
use Rattle.std.specs.Prelude.{◌≡◌, ◌≢◌, ℕ, ◌<◌, if◌then◌else◌}
use Rattle.elf64_load.specs.Image.{ImageView, is_mapped}
use Rattle.memory_contracts.specs.Store.{StoreView}
use Rattle.sparc_meaning.specs.Stepped.{Stepped}
use Rattle.cycle_loop.specs.Machine.{At, after_step, lacks_line}

-- node p may use the store, which has the image's addresses in lines of so many bytes
pub record MayUse (image : ImageView) (v : StoreView) (line_bytes p : ℕ) : Type 0 where
  pub node : p < v.nodes
  pub mapped : v.mapped ≡ is_mapped image
  pub line : line_bytes ≡ v.line_bytes
  pub some : line_bytes ≢ 0

-- the step is made unless it lacks its line
abbrev pub tried : StoreView → ℕ → Stepped → At → At
tried v p s x = if lacks_line v p s.act then x else after_step p s x
