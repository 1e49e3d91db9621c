-- The image of a static executable: an ELF64 file, big-endian, for SPARC V9 (System V ABI, chapters 4
-- and 5, and its SPARC V9 supplement). Offsets and sizes are those of the ELF64 header and of its
-- program headers.
use Rattle.std.specs.Prelude.{ℕ, ◌+◌, ◌-◌, ◌*◌, ◌/◌, ◌%◌, ◌==◌, Bool, not, ◌&&◌, nat_lt, nat_le, List, ◌++◌, take, drop, map, filter, replicate, slice_index}
use Rattle.std.specs.List.{range_with_len}
use Rattle.byteorder.specs.Endian.{big_number}
use Rattle.rsim_base.specs.Limits.{stack_count}
use Rattle.elf64_load.specs.Image.{RegionView, ImageView, stack_start}
use Rattle.elf64_load.specs.declared.header.ProgramHeader.{ProgramHeader}

-- the big-endian number in n bytes of the file
abbrev pub number : ℕ → ℕ → List ℕ → ℕ
number n at file = big_number n (drop at file)

-- ---- the file's header

-- 7F, "ELF"
abbrev pub has_magic : List ℕ → Bool
has_magic file = number 4 0 file == 0x7F454C46

-- class 2 (64 bits) and data 2 (big-endian)
abbrev pub is_big_64 : List ℕ → Bool
is_big_64 file = (slice_index file 4 == 2) && (slice_index file 5 == 2)

abbrev pub entry_of : List ℕ → ℕ
entry_of file = number 8 24 file

-- where the table of program headers begins, how long a header is and how many there are
abbrev pub table_start : List ℕ → ℕ
table_start file = number 8 32 file

abbrev pub header_size : List ℕ → ℕ
header_size file = number 2 54 file

abbrev pub header_count : List ℕ → ℕ
header_count file = number 2 56 file

-- ---- the program headers

abbrev pub header_at : ℕ → List ℕ → ProgramHeader
header_at at file = record {
  kind = number 4 at file;
  flags = number 4 (at + 4) file;
  offset = number 8 (at + 8) file;
  vaddr = number 8 (at + 16) file;
  filesz = number 8 (at + 32) file;
  memsz = number 8 (at + 40) file;
}

abbrev pub headers : List ℕ → List ProgramHeader
headers file = map (λ i. header_at (table_start file + 56 * i) file) (range_with_len 0 (header_count file))

-- PT_LOAD, a segment of memory
abbrev pub is_load : ProgramHeader → Bool
is_load h = h.kind == 1

-- PT_INTERP, which asks for a dynamic linker
abbrev pub is_interp : ProgramHeader → Bool
is_interp h = h.kind == 3

-- PF_X, PF_W and PF_R
abbrev pub may_run : ProgramHeader → Bool
may_run h = h.flags % 2 == 1

abbrev pub may_write : ProgramHeader → Bool
may_write h = h.flags / 2 % 2 == 1

abbrev pub may_read : ProgramHeader → Bool
may_read h = h.flags / 4 % 2 == 1

-- it is a segment, and some byte of it is in a stack
abbrev pub meets_stacks : ProgramHeader → Bool
meets_stacks h = is_load h && nat_lt 0 h.memsz && nat_lt h.vaddr (stack_start stack_count) && nat_lt (stack_start 0) (h.vaddr + h.memsz)

-- both are segments, and they have bytes in one aligned block of 128 bytes
abbrev pub share_block : ProgramHeader → ProgramHeader → Bool
share_block g h =
    is_load g && is_load h && nat_lt 0 g.memsz && nat_lt 0 h.memsz
    && nat_le (g.vaddr / 128) ((h.vaddr + h.memsz - 1) / 128)
    && nat_le (h.vaddr / 128) ((g.vaddr + g.memsz - 1) / 128)

-- a segment that instructions are fetched from
abbrev pub has_text : ProgramHeader → Bool
has_text h = is_load h && may_run h && not (may_write h) && nat_lt 0 h.memsz

-- ---- the image

-- the bytes of the file, and zeros behind them
abbrev pub region_of : List ℕ → ProgramHeader → RegionView
region_of file h = record {
  first = h.vaddr;
  bytes = take h.filesz (drop h.offset file) ++ replicate (h.memsz - h.filesz) 0;
  may_read = may_read h;
  may_write = may_write h;
  may_run = may_run h;
}

-- a segment of no bytes is no region
abbrev pub loaded : List ℕ → ImageView
loaded file = record {
  regions = map (region_of file) (filter (λ h. nat_lt 0 h.memsz) (filter is_load (headers file)));
  entry = entry_of file;
}
