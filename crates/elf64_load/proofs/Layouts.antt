-- Regions as the parts of one list of bytes.
use Rattle.std.proofs.Common.{◌≡◌, ℕ, ◌+◌, ◌-◌, ◌<◌, ◌≤◌, Bool, true, cond, nat_lt, nat_le, List, [], ◌∷◌, ◌++◌, length, get_or, take, drop, map, filter, replicate, refl, ap, sym, subst, ◌∙◌, inl, inr, append_assoc, arith}
use Rattle.std.specs.List.{All, flat_map}
use Rattle.byteorder.specs.Endian.{big_number}
use Rattle.elf64_load.specs.Image.{RegionView}
use Rattle.elf64_load.specs.Elf.{is_load, region_of}
use Rattle.elf64_load.specs.Layout.{contents_of, first_of_header, has, region_in, regions_in, segment_of, segments_from, size_of, spans_from, IsInFile, IsWithin}
use Rattle.elf64_load.specs.declared.header.ProgramHeader.{ProgramHeader}
use Rattle.elf64_load.specs.declared.span.Span.{Span}
use Rattle.elf64_load.specs.declared.segment.Segment.{Segment}
use Rattle.std.proofs.lemmas.Bool.{cases_Bool, and_parts, leb-true, cond-true, cond-false}
use Rattle.std.proofs.lemmas.List.{get_or-drop, get_or-take, length-take-le, length-drop, length-append, length-replicate, take_at, drop_at}
use Rattle.std.proofs.lemmas.List.Elements.{All-cons, All-nil, All-head, All-tail}

get-within : (bytes : List ℕ) (start len at i : ℕ) → at + i < len → get_or (drop at (take len (drop start bytes))) i 0 ≡ get_or (drop (start + at) bytes) i 0
get-within bytes start len at i within =
    let place : start + (at + i) ≡ start + at + i = omega arith in
    get_or-drop at (take len (drop start bytes)) i 0
    ∙ get_or-take len (drop start bytes) (at + i) 0 within
    ∙ get_or-drop start bytes (at + i) 0
    ∙ ap (λ k. get_or bytes k 0) place
    ∙ sym (get_or-drop (start + at) bytes i 0)

-- a word of a part of a list of bytes is a word of the list
pub word-within : (bytes : List ℕ) (start len at : ℕ) → at + 4 ≤ len → big_number 4 (drop at (take len (drop start bytes))) ≡ big_number 4 (drop (start + at) bytes)
word-within bytes start len at within =
    let a = get-within bytes start len at 0 (omega arith) in
    let b = get-within bytes start len at 1 (omega arith) in
    let c = get-within bytes start len at 2 (omega arith) in
    let d = get-within bytes start len at 3 (omega arith) in
    omega (arith, a, b, c, d)

-- what it means that a segment has bytes
pub has-bounds : (a n : ℕ) (s : Segment) → has a n s ≡ true → (s.first ≤ a) × (a + n ≤ s.first + s.len)
has-bounds a n s h =
    let parts = and_parts (nat_le s.first a) (nat_le (a + n) (s.first + s.len)) h in
    (leb-true s.first a parts.0, leb-true (a + n) (s.first + s.len) parts.1)

-- ---- the segments of headers

pub spans-same : (i start : ℕ) (hs : List ProgramHeader) → spans_from (λ (s : Segment). s.first) (λ (s : Segment). s.len) i (segments_from start hs) ≡ spans_from first_of_header size_of i hs
spans-same i start [] = refl
spans-same i start (h ∷ hs) =
    let span : Span = record { first = h.vaddr; len = size_of h; place = i } in
    ap (λ rest. cond (nat_lt 0 (size_of h)) (span ∷ rest) rest) (spans-same (i + 1) (start + size_of h) hs)

length-contents : (file : List ℕ) (h : ProgramHeader) → IsInFile (length file) h → length (contents_of file h) ≡ size_of h
length-contents file h is =
    elim (cases_Bool (is_load h)) [
      | inl load ↦ let short = is.short load in
          let end = is.bytes load in
          let rest = length-drop h.offset file in
          let there : length (take h.filesz (drop h.offset file)) ≡ h.filesz = length-take-le h.filesz (drop h.offset file) (omega (arith, rest, end)) in
          let zeros = length-replicate {A = ℕ} (h.memsz - h.filesz) 0 in
          let both = length-append (take h.filesz (drop h.offset file)) (replicate (h.memsz - h.filesz) 0) in
          rw load (omega (arith, there, zeros, both, short))
      | inr none ↦ rw none refl
    ]

-- the bytes of the first header's segment, where they stand
first-contents : (file whole front : List ℕ) (h : ProgramHeader) (rest : List ℕ) → IsInFile (length file) h → whole ≡ front ++ (contents_of file h ++ rest) → take (size_of h) (drop (length front) whole) ≡ contents_of file h
first-contents file whole front h rest is e =
    ap (λ w. take (size_of h) (drop (length front) w)) e
    ∙ ap (take (size_of h)) (drop_at front (contents_of file h ++ rest) (length front) refl)
    ∙ take_at (contents_of file h) rest (size_of h) (length-contents file h is)

-- the same with the first header's bytes in front
next_front : (file whole front : List ℕ) (h : ProgramHeader) (hs : List ProgramHeader) → whole ≡ front ++ flat_map (contents_of file) (h ∷ hs) → whole ≡ (front ++ contents_of file h) ++ flat_map (contents_of file) hs
next_front file whole front h hs e = e ∙ sym (append_assoc front (contents_of file h) (flat_map (contents_of file) hs))

next_length : (file front : List ℕ) (h : ProgramHeader) → IsInFile (length file) h → length (front ++ contents_of file h) ≡ length front + size_of h
next_length file front h is =
    length-append front (contents_of file h) ∙ ap (λ n. length front + n) (length-contents file h is)

-- the segments' bytes are there
pub within-laid : (file whole front : List ℕ) (hs : List ProgramHeader) → All (IsInFile (length file)) hs → whole ≡ front ++ flat_map (contents_of file) hs → All (IsWithin (length whole)) (segments_from (length front) hs)
within-laid file whole front [] all e = All-nil (IsWithin (length whole))
within-laid file whole front (h ∷ hs) all e =
    let is = All-head (IsInFile (length file)) h hs all in
    let next = next_length file front h is in
    let later = within-laid file whole (front ++ contents_of file h) hs (All-tail (IsInFile (length file)) h hs all) (next_front file whole front h hs e) in
    let P : ℕ → Type 0 = λ n. All (IsWithin (length whole)) (segments_from n hs) in
    let rest = flat_map (contents_of file) hs in
    let size = ap length e ∙ length-append front (contents_of file h ++ rest) ∙ ap (λ n. length front + n) (length-append (contents_of file h) rest) in
    let own = length-contents file h is in
    All-cons (IsWithin (length whole)) (segment_of (length front) h) (segments_from (length front + size_of h) hs) (omega (arith, size, own)) (subst P next later)

-- each is the region of its header
pub regions-laid : (file whole front : List ℕ) (hs : List ProgramHeader) → All (IsInFile (length file)) hs → whole ≡ front ++ flat_map (contents_of file) hs → regions_in whole (segments_from (length front) hs) ≡ map (region_of file) (filter (λ h. nat_lt 0 h.memsz) (filter is_load hs))
regions-laid file whole front [] all e = refl
regions-laid file whole front (h ∷ hs) all e =
    let is = All-head (IsInFile (length file)) h hs all in
    let later = regions-laid file whole (front ++ contents_of file h) hs (All-tail (IsInFile (length file)) h hs all) (next_front file whole front h hs e) in
    let rest = regions_in whole (segments_from (length front + size_of h) hs) in
    let regions = map (region_of file) (filter (λ h. nat_lt 0 h.memsz) (filter is_load hs)) in
    let tail : rest ≡ regions = ap (λ n. regions_in whole (segments_from n hs)) (sym (next_length file front h is)) ∙ later in
    let contents = first-contents file whole front h (flat_map (contents_of file) hs) is e in
    let segment : Segment = segment_of (length front) h in
    let kept : List Segment = filter (λ (s : Segment). nat_lt 0 s.len) (segments_from (length front + size_of h) hs) in
    let loads : List ProgramHeader = filter is_load hs in
    let some_first : Bool → List RegionView = λ b. map (region_in whole) (cond b (segment ∷ kept) kept) in
    let load_first : Bool → List RegionView =
    λ b. map (region_of file) (filter (λ (g : ProgramHeader). nat_lt 0 g.memsz) (cond b (h ∷ loads) loads)) in
    let region_first : Bool → List RegionView =
    λ b. map (region_of file) (cond b (h ∷ filter (λ (g : ProgramHeader). nat_lt 0 g.memsz) loads) (filter (λ (g : ProgramHeader). nat_lt 0 g.memsz) loads)) in
    elim (cases_Bool (is_load h)) [
      | inl load ↦ let size : size_of h ≡ h.memsz = cond-true (is_load h) h.memsz 0 load in
          let bytes : take (size_of h) (drop (length front) whole) ≡ take h.filesz (drop h.offset file) ++ replicate (h.memsz - h.filesz) 0 =
          contents ∙ cond-true (is_load h) (take h.filesz (drop h.offset file) ++ replicate (h.memsz - h.filesz) 0) [] load in
          let region : region_in whole segment ≡ region_of file h = ap (λ (b : List ℕ). record (region_of file h) { bytes = b }) bytes in
          elim (cases_Bool (nat_lt 0 h.memsz)) [
            | inl some ↦ ap some_first (ap (nat_lt 0) size ∙ some)
                ∙ ap (λ (r : RegionView). r ∷ rest) region
                ∙ ap (λ (rs : List RegionView). region_of file h ∷ rs) tail
                ∙ sym (ap region_first some)
                ∙ sym (ap load_first load)
            | inr none ↦ ap some_first (ap (nat_lt 0) size ∙ none)
                ∙ tail
                ∙ sym (ap region_first none)
                ∙ sym (ap load_first load)
          ]
      | inr other ↦ ap some_first (ap (nat_lt 0) (cond-false (is_load h) h.memsz 0 other))
          ∙ tail
          ∙ sym (ap load_first other)
    ]
