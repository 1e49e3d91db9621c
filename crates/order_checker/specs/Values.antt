-- Which store a load reads from, by the rule for loads under total store order (The SPARC Architecture
-- Manual, Version 9, appendix D), and whether an order explains the values of its loads.
use Rattle.std.specs.Prelude.{◌≡◌, ◌≢◌, ◌⊎◌, ℕ, ◌<◌, ◌≤◌, true, List, Some, slice_get}
use Rattle.rsim_base.specs.Bytes.{count_of, gap_of, byte_of, IsByteOf}
use Rattle.rsim_base.specs.declared.memory.Access.{Access}
use Rattle.elf64_load.specs.Image.{ImageView, byte_at}
use Rattle.rsim_base.specs.Accesses.{loads, stores}

-- what an access loaded from a byte of memory, and what it stored there
abbrev pub loaded_byte : Access → ℕ → ℕ
loaded_byte e byte = byte_of e.loaded (count_of e.size) (gap_of e.addr.0 byte)

abbrev pub stored_byte : Access → ℕ → ℕ
stored_byte e byte = byte_of e.stored (count_of e.size) (gap_of e.addr.0 byte)

-- The access e at place j writes the byte, and the load at place `at` may read from it: e is another access,
-- and stands before the load or is earlier in its program.
pub record MayRead (order : List Access) (at : ℕ) (load : Access) (byte j : ℕ) (e : Access) : Type 0 where
  pub stands : slice_get order j ≡ Some e
  pub writes : stores e.kind ≡ true
  pub byte_in : IsByteOf byte e.addr.0 (count_of e.size)
  pub another : j ≢ at
  pub before : (j < at) ⊎ ((e.node.0 ≡ load.node.0) × (e.index < load.index))

-- the access that the load reads the byte from: the last that it may read from
pub record IsSource (order : List Access) (at : ℕ) (load : Access) (byte j : ℕ) (e : Access) : Type 0 where
  pub may : MayRead order at load byte j e
  pub last : (k : ℕ) (f : Access) → MayRead order at load byte k f → k ≤ j

-- the load has the byte of its source, or where there is none, of the image
abbrev pub ExplainsByte : ImageView → List Access → ℕ → Access → ℕ → Type 0
ExplainsByte image order at load byte =
    ((j : ℕ) × (e : Access) × IsSource order at load byte j e × (loaded_byte load byte ≡ stored_byte e byte))
    ⊎ (((j : ℕ) (e : Access) → MayRead order at load byte j e → ⊥) × (loaded_byte load byte ≡ byte_at image byte))

-- each byte of each load and atomic is explained
abbrev pub Explains : ImageView → List Access → Type 0
Explains image order =
    (at : ℕ) (load : Access) → slice_get order at ≡ Some load → loads load.kind ≡ true
    → (byte : ℕ) → IsByteOf byte load.addr.0 (count_of load.size) → ExplainsByte image order at load byte
