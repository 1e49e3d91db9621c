-- The memory that an executable starts with: regions, the first instruction's address, and 64 stacks.
use Rattle.std.specs.Prelude.{ℕ, ◌+◌, ◌-◌, ◌*◌, ◌/◌, ◌%◌, ◌==◌, Bool, not, ◌&&◌, ◌||◌, nat_lt, nat_le, if◌then◌else◌, List, length, drop, slice_index, find, Option, None, option_map, unwrap_or}
use Rattle.std.specs.List.{list_any}
use Rattle.byteorder.specs.Endian.{big_number}
use Rattle.rsim_base.specs.Limits.{stack_bytes, stack_count, stacks_start}

-- bytes of memory in a row, with their first contents and what may be done with them
pub record RegionView : Type 0 where
  pub first : ℕ
  pub bytes : List ℕ
  pub may_read : Bool
  pub may_write : Bool
  pub may_run : Bool

-- the regions in the order of the executable's table, and the address of the first instruction
pub record ImageView : Type 0 where
  pub regions : List RegionView
  pub entry : ℕ

-- the n bytes from address a on all lie in the region
abbrev pub holds : ℕ → ℕ → RegionView → Bool
holds a n r = nat_le r.first a && nat_le (a + n) (r.first + length r.bytes)

-- instructions are fetched from it: what may be written is data, also where it may be run
abbrev pub is_text : RegionView → Bool
is_text r = r.may_run && not r.may_write

-- the first content of the byte at a
abbrev pub content_at : ℕ → RegionView → ℕ
content_at a r = slice_index r.bytes (a - r.first)

-- the first content of the four bytes at a, as a big-endian number
abbrev pub word_at : ℕ → RegionView → ℕ
word_at a r = big_number 4 (drop (a - r.first) r.bytes)

-- Stack p, where there is one, begins here, and has zeros. It may be read and written.
abbrev pub stack_start : ℕ → ℕ
stack_start p = stacks_start + p * stack_bytes

-- the n bytes from address a on all lie in one stack
abbrev pub in_one_stack : ℕ → ℕ → Bool
in_one_stack a n =
    nat_le (stack_start 0) a && nat_lt a (stack_start stack_count)
    && nat_le (a + n) (stack_start ((a - stack_start 0) / stack_bytes + 1))

-- the instruction word at pc: none where pc is no multiple of 4, or no text has its four bytes
abbrev pub fetched : ImageView → ℕ → Option ℕ
fetched image pc =
    if pc % 4 == 0 then option_map (word_at pc) (find (λ r. is_text r && holds pc 4 r) image.regions) else None

-- the first content of the byte at a: 0 in the stacks, and outside all regions
abbrev pub byte_at : ImageView → ℕ → ℕ
byte_at image a = unwrap_or (option_map (content_at a) (find (holds a 1) image.regions)) 0

-- the n bytes from address a on all lie in one region or stack that may be read
abbrev pub is_readable : ImageView → ℕ → ℕ → Bool
is_readable image a n = list_any (λ r. r.may_read && holds a n r) image.regions || in_one_stack a n

-- the same for a region or stack that may be written
abbrev pub is_writable : ImageView → ℕ → ℕ → Bool
is_writable image a n = list_any (λ r. r.may_write && holds a n r) image.regions || in_one_stack a n

-- there is memory at address a: it lies in a region or a stack
abbrev pub is_mapped : ImageView → ℕ → Bool
is_mapped image a = list_any (holds a 1) image.regions || in_one_stack a 1
