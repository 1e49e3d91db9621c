-- Memory in which values were stored, byte by byte: what was stored last, and the image's bytes elsewhere.
use Rattle.std.specs.Prelude.{◌≡◌, ℕ, ◌+◌, ◌-◌, ◌%◌, ◌^◌, ◌<◌, nat_eq, nat_lt, if◌then◌else◌, Option, Some, None}
use Rattle.std.specs.HashMap.{get}
use Rattle.rsim_base.specs.Bytes.{count_of, byte_of, gap_of}
use Rattle.rsim_base.specs.declared.memory.Size.{Size}
use Rattle.elf64_load.specs.Image.{ImageView, byte_at}
use Rattle.image_memory.specs.declared.memory.Memory.{Memory}

-- the doubleword that was stored at a multiple of 8
abbrev pub doubleword_at : Memory → ℕ → Option ℕ
doubleword_at memory addr = get nat_eq memory.doublewords addr

-- a byte, where this was found of its doubleword
abbrev pub of_doubleword : ImageView → Option ℕ → ℕ → ℕ
of_doubleword image (Some value) a = byte_of value 8 (a % 8)
of_doubleword image None a = byte_at image a

-- the byte at an address
abbrev pub byte_in : ImageView → Memory → ℕ → ℕ
byte_in image memory a = of_doubleword image (doubleword_at memory (a - a % 8)) a

-- a value of this size has the bytes from an address on
abbrev pub IsValueAt : ImageView → Memory → ℕ → Size → ℕ → Type 0
IsValueAt image memory addr n value = (k : ℕ) → k < count_of n → byte_of value (count_of n) k ≡ byte_in image memory (addr + k)

-- memory after the store of a value at an address: its bytes stand there, and elsewhere all is as before
abbrev pub IsWritten : ImageView → ℕ → Size → ℕ → Memory → Memory → Type 0
IsWritten image addr n value old new = (a : ℕ) → a < 2 ^ 64
    → byte_in image new a ≡ (if nat_lt (gap_of addr a) (count_of n) then byte_of value (count_of n) (gap_of addr a) else byte_in image old a)
