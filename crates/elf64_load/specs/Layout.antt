-- How the regions of an image are kept: the bytes of all of them one behind the other, the segments in the order of
-- the table, and the spans of those that have bytes in the order of their addresses.
use Rattle.std.specs.Prelude.{◌≡◌, ◌≢◌, ◌<◌, ◌||◌, slice_index_or, ℕ, true, ◌+◌, ◌-◌, ◌/◌, ◌≤◌, Bool, not, ◌&&◌, nat_lt, nat_le, if◌then◌else◌, List, [], ◌∷◌, ◌++◌, length, take, drop, map, filter, replicate, count_by}
use Rattle.std.specs.List.{All}
use Rattle.std.specs.List.Sorted.{IsPermutation, IsNonDecreasingBy}
use Rattle.elf64_load.specs.Image.{RegionView}
use Rattle.elf64_load.specs.Elf.{is_load, may_read, may_write, may_run}
use Rattle.elf64_load.specs.declared.header.ProgramHeader.{ProgramHeader}
use Rattle.elf64_load.specs.declared.segment.Segment.{Segment}
use Rattle.elf64_load.specs.declared.span.Span.{Span}

-- ---- program headers

abbrev pub first_of_header : ProgramHeader → ℕ
first_of_header h = h.vaddr

-- how many bytes of memory it takes: none where it is no segment
abbrev pub size_of : ProgramHeader → ℕ
size_of h = if is_load h then h.memsz else 0

-- the first contents of these bytes
abbrev pub contents_of : List ℕ → ProgramHeader → List ℕ
contents_of file h =
    if is_load h then take h.filesz (drop h.offset file) ++ replicate (h.memsz - h.filesz) 0 else []

-- ---- segments

-- the segment of a header, with its bytes from a place on
abbrev pub segment_of : ℕ → ProgramHeader → Segment
segment_of start h = record {
  first = h.vaddr;
  start = start;
  len = size_of h;
  may_read = may_read h;
  may_write = may_write h;
  may_run = may_run h;
}

-- the segments of headers, the bytes of the first from a place on and those of each later one behind the one before
abbrev pub segments_from : ℕ → List ProgramHeader → List Segment
segments_from start [] = []
segments_from start (h ∷ hs) = segment_of start h ∷ segments_from (start + size_of h) hs

-- the n bytes from address a on all lie in the segment
abbrev pub has : ℕ → ℕ → Segment → Bool
has a n s = nat_le s.first a && nat_le (a + n) (s.first + s.len)

-- instructions are fetched from it
abbrev pub runs : Segment → Bool
runs s = s.may_run && not s.may_write

-- the region that it stands for
abbrev pub region_in : List ℕ → Segment → RegionView
region_in bytes s = record {
  first = s.first;
  bytes = take s.len (drop s.start bytes);
  may_read = s.may_read;
  may_write = s.may_write;
  may_run = s.may_run;
}

abbrev pub regions_in : List ℕ → List Segment → List RegionView
regions_in bytes segments = map (region_in bytes) (filter (λ s. nat_lt 0 s.len) segments)

-- its bytes are among so many
abbrev pub IsWithin : ℕ → Segment → Type 0
IsWithin size s = s.start + s.len ≤ size

-- where a header is of a segment, its bytes are in a file of this size, and no more than the segment has
pub record IsInFile (size : ℕ) (h : ProgramHeader) : Type 0 where
  pub bytes : is_load h ≡ true → h.offset + h.filesz ≤ size
  pub short : is_load h ≡ true → h.filesz ≤ h.memsz

-- ---- spans

-- the spans of those of a list that have bytes, with their places from i on
abbrev pub spans_from : {X : Type 0} → (X → ℕ) → (X → ℕ) → ℕ → List X → List Span
spans_from first len i [] = []
spans_from first len i (x ∷ xs) =
    if nat_lt 0 (len x) then record { first = first x; len = len x; place = i } ∷ spans_from first len (i + 1) xs else spans_from first len (i + 1) xs

-- the byte at a is in the span
abbrev pub spans : ℕ → Span → Bool
spans a s = nat_le s.first a && nat_lt a (s.first + s.len)

-- the aligned blocks of 128 bytes with the first and with the last byte
abbrev pub first_block : Span → ℕ
first_block s = s.first / 128

abbrev pub last_block : Span → ℕ
last_block s = (s.first + s.len - 1) / 128

-- they have bytes in one block
abbrev pub meet : Span → Span → Bool
meet s t = nat_le (first_block s) (last_block t) && nat_le (first_block t) (last_block s)

-- the span at k begins below a block, or the one behind it begins no later than this one ends
abbrev pub touches : List Span → ℕ → ℕ → Span → Bool
touches order k reach d =
    nat_lt (first_block (slice_index_or order k d)) reach
    || (nat_lt (k + 1) (length order) && nat_le (first_block (slice_index_or order (k + 1) d)) (last_block (slice_index_or order k d)))

-- a span with this place in the table meets another
pub record MeetsAnother (order : List Span) (place : ℕ) : Type 0 where
  pub at : ℕ
  pub other : ℕ
  pub at_in : at < length order
  pub other_in : other < length order
  pub differ : other ≢ at
  pub place_is : (d : Span) → (slice_index_or order at d).place ≡ place
  pub met : (d : Span) → meet (slice_index_or order at d) (slice_index_or order other d) ≡ true

-- these are the spans, from the lowest address up
pub record AreInOrder (table order : List Span) : Type 0 where
  pub same : IsPermutation table order
  pub rising : IsNonDecreasingBy (λ (s : Span). s.first) order

-- and no byte is in two of them
pub record AreApart (table order : List Span) : Type 0 where
  pub in_order : AreInOrder table order
  pub once : (a : ℕ) → count_by (spans a) table ≤ 1

abbrev pub spans_of_headers : List ProgramHeader → List Span
spans_of_headers hs = spans_from first_of_header size_of 0 hs

abbrev pub spans_of_segments : List Segment → List Span
spans_of_segments ss = spans_from (λ (s : Segment). s.first) (λ (s : Segment). s.len) 0 ss

-- what is kept of regions: the contents, the segments, and the spans in order
pub record AreKept (bytes : List ℕ) (segments : List Segment) (order : List Span) : Type 0 where
  pub within : All (IsWithin (length bytes)) segments
  pub apart : AreApart (spans_of_segments segments) order
