-- What can be wrong with a file that is to be loaded, and which fault is told: the first of a list of rules, each over
-- the whole file and all its program headers. Sums are of whole numbers and do not go round.
use Rattle.std.specs.Prelude.{◌≡◌, ℕ, ◌+◌, ◌*◌, ◌^◌, ◌==◌, Bool, not, nat_lt, if◌then◌else◌, List, [], ◌∷◌, length, filter, sum_by, Option, Some, None, option_map, Result, Ok, Err}
use Rattle.std.specs.List.{list_any, position, position_from}
use Rattle.std.specs.Option.{is_none, option_or}
use Rattle.elf64_load.specs.Image.{ImageView, fetched}
use Rattle.elf64_load.specs.Elf.{number, has_magic, is_big_64, table_start, header_size, header_count, headers, entry_of, is_load, is_interp, has_text, meets_stacks, share_block, loaded}
use Rattle.elf64_load.specs.declared.header.ProgramHeader.{ProgramHeader}
use Rattle.elf64_load.specs.declared.fault.ElfFault.{ElfFault}
use Rattle.elf64_load.specs.declared.fault.ElfFault.TheVariants.{Truncated, NotElf, NotBig64, NotSparcV9, NotExec, NoText, BadPhentsize, Interp, SegmentPastEnd, SegmentShort, SegmentWraps, TooLarge, StackOverlap, SharedBlock, BadEntry, Memory}

-- a fault, where something is wrong
abbrev pub when : Bool → ElfFault → Option ElfFault
when wrong fault = if wrong then Some fault else None

-- the first that there is
abbrev pub first_some : List (Option ElfFault) → Option ElfFault
first_some [] = None
first_some (fault ∷ later) = option_or fault (first_some later)

-- what is wrong with segment i of a file of this size by itself
abbrev pub segment_fault : ℕ → ℕ → ProgramHeader → Option ElfFault
segment_fault size i h = first_some (
    when (nat_lt size (h.offset + h.filesz)) (SegmentPastEnd i)
    ∷ when (nat_lt h.memsz h.filesz) (SegmentShort i)
    ∷ when (nat_lt (2 ^ 64) (h.vaddr + h.memsz)) (SegmentWraps i) ∷ [])

-- with the first segment that is wrong, of the headers from place i on
abbrev pub segments_fault : ℕ → ℕ → List ProgramHeader → Option ElfFault
segments_fault size i [] = None
segments_fault size i (h ∷ hs) =
    option_or (if is_load h then segment_fault size i h else None) (segments_fault size (i + 1) hs)

-- the first pair of segments that share a block, of the headers from place i on: the least first one, and of its
-- partners the least later one
abbrev pub shared : ℕ → List ProgramHeader → Option ElfFault
shared i [] = None
shared i (h ∷ hs) = option_or (option_map (SharedBlock i) (position_from (share_block h) (i + 1) hs)) (shared (i + 1) hs)

-- the rules, in their order
abbrev pub faults : List ℕ → List (Option ElfFault)
faults file =
    when (nat_lt (length file) 64) (Truncated (length file))
    ∷ when (not (has_magic file)) NotElf
    ∷ when (not (is_big_64 file)) NotBig64
    ∷ when (not (number 2 18 file == 43)) NotSparcV9
    ∷ when (not (number 2 16 file == 2)) NotExec
    ∷ when (header_count file == 0) NoText
    ∷ when (not (header_size file == 56)) BadPhentsize
    ∷ when (nat_lt (length file) (table_start file + 56 * header_count file)) (Truncated (length file))
    ∷ when (list_any is_interp (headers file)) Interp
    ∷ segments_fault (length file) 0 (headers file)
    ∷ when (nat_lt 16777216 (sum_by (λ h. h.memsz) (filter is_load (headers file)))) TooLarge
    ∷ option_map StackOverlap (position meets_stacks (headers file))
    ∷ shared 0 (headers file)
    ∷ when (not (list_any has_text (headers file))) NoText
    ∷ when (is_none (fetched (loaded file) (entry_of file))) BadEntry
    ∷ []

-- the first fault of a file, if it has one
abbrev pub first_fault : List ℕ → Option ElfFault
first_fault file = first_some (faults file)

-- what `load` answers: the image, exactly where the file has no fault, or the first fault; want of memory is free
abbrev pub Loads : List ℕ → Result ImageView ElfFault → Type 0
Loads file (Ok image) = (first_fault file ≡ None) × (image ≡ loaded file)
Loads file (Err Memory) = Unit {0}
Loads file (Err fault) = first_fault file ≡ Some fault
