-- What a flat store keeps, and what it stands for.
use Rattle.std.specs.Prelude.{◌≡◌, ℕ, ◌/◌, ◌<◌, ◌≤◌, Bool, true, ◌||◌, List, Option}
use Rattle.std.specs.List.{list_any}
use Rattle.rsim_base.specs.Limits.{max_processors}
use Rattle.rsim_base.specs.declared.memory.Node.{Node}
use Rattle.elf64_load.specs.Image.{in_one_stack}
use Rattle.elf64_load.specs.Layout.{spans}
use Rattle.elf64_load.specs.declared.span.Span.{Span}
use Rattle.memory_contracts.specs.Flat.{FlatView, is_at}
use Rattle.memory_contracts.specs.Parts.{AreFew, AreKnown, byte_in, has_doubleword, has_line, nodes_in, owner_in, wishes_in}
use Rattle.memory_contracts.specs.declared.memory.Memory.{Memory}
use Rattle.memory_contracts.specs.declared.owners.Owners.{Owners}
use Rattle.memory_contracts.specs.declared.wishes.Wishes.{Wishes}

-- there is memory at address a, where the regions have these spans
abbrev pub mapped_in : List Span → ℕ → Bool
mapped_in order a = list_any (λ s. spans a s) order || in_one_stack a 1

-- each line that a node has is with one of n nodes
abbrev pub AreOwned : ℕ → (ℕ → Option Node) → Type 0
AreOwned n owner = (p l : ℕ) → is_at (owner l) p ≡ true → p < n

-- each byte of memory is kept, and so is its line
pub record AreKept (memory : Memory) (owners : Owners) (wishes : Wishes) (order : List Span) (line_bytes : ℕ) : Type 0 where
  pub line : 0 < line_bytes
  pub nodes : nodes_in wishes ≤ max_processors
  pub doublewords : (a : ℕ) → mapped_in order a ≡ true → has_doubleword memory (a / 8) ≡ true
  pub lines : (a : ℕ) → mapped_in order a ≡ true → has_line owners (a / line_bytes) ≡ true
  pub known : AreKnown owners wishes
  pub few : AreFew wishes
  pub owned : AreOwned (nodes_in wishes) (owner_in owners)

abbrev pub view_of : Memory → Owners → Wishes → List Span → ℕ → ℕ → FlatView
view_of memory owners wishes order line_bytes ticks = record {
  bytes = byte_in memory;
  mapped = mapped_in order;
  owner = owner_in owners;
  wishes = wishes_in wishes;
  nodes = nodes_in wishes;
  line_bytes = line_bytes;
  ticks = ticks;
}
