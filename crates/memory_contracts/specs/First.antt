-- What memory begins with.
use Rattle.std.specs.Prelude.{◌≡◌, ℕ, ◌+◌, ◌*◌, ◌<◌, ◌^◌}
use Rattle.rsim_base.specs.Bytes.{byte_of}
use Rattle.elf64_load.specs.Image.{ImageView, byte_at}

-- the bytes of a doubleword are those of the image, as far as there are addresses
abbrev pub AreFirst : ImageView → ℕ → ℕ → Type 0
AreFirst image number value = (k : ℕ) → k < 8 → number * 8 + k < 2 ^ 64 → byte_of value 8 k ≡ byte_at image (number * 8 + k)
