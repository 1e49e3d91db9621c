-- The faults of an order, in the order in which they are answered. A line of the file is its place plus 4.
use Rattle.std.specs.Prelude.{ℕ, zero, suc, ◌+◌, ◌%◌, ◌^◌, ◌==◌, nat_lt, nat_le, Bool, false, not, ◌&&◌, ◌||◌, if◌then◌else◌, List, [], ◌∷◌, length, map, slice_get, slice_index, Option, None, Some, is_some, unwrap_or, option_map, option_and_then, Result, Ok, Err}
use Rattle.std.specs.List.{range_with_len}
use Rattle.std.specs.Option.{option_or}
use Rattle.rsim_base.specs.Accesses.{loads, stores}
use Rattle.rsim_base.specs.Bytes.{count_of, gap_of}
use Rattle.rsim_base.specs.Made.{Made, no_fences}
use Rattle.rsim_base.specs.declared.memory.Access.{Access}
use Rattle.rsim_base.specs.declared.memory.Kind.{Kind}
use Rattle.rsim_base.specs.declared.memory.Kind.TheVariants.{Load, Store, Atomic}
use Rattle.elf64_load.specs.Image.{ImageView, byte_at}
use Rattle.order_axioms.specs.Axioms.{needs}
use Rattle.order_certificate.specs.Certificate.{CertificateView}
use Rattle.sparc_meaning.specs.Arch.{boot, is_running}
use Rattle.sparc_meaning.specs.Run.{Ran, accesses_of, after}
use Rattle.sparc_meaning.specs.Step.{step}
use Rattle.sparc_meaning.specs.Stepped.{Stepped}
use Rattle.sparc_meaning.specs.declared.arch.Arch.{Arch}
use Rattle.order_checker.specs.declared.verdict.Part.{Part}
use Rattle.order_checker.specs.declared.verdict.Part.TheVariants as part
use Rattle.order_checker.specs.declared.verdict.Rejected.{Rejected}
use Rattle.order_checker.specs.declared.verdict.Rejected.TheVariants.{Foreign, Ended, Missing, Differs, OutOfOrder, WrongValue}
use Rattle.order_checker.specs.Firsts.{first, least, last}
use Rattle.order_checker.specs.Order.{made_at}
use Rattle.order_checker.specs.Values.{loaded_byte, stored_byte}

-- ---- lines

abbrev pub file_line : ℕ → ℕ
file_line place = place + 4

-- what stands at a place is access i of processor p
abbrev pub is_of : ℕ → ℕ → Option Access → Bool
is_of p i None = false
is_of p i (Some e) = (e.node.0 == p) && (e.index == i)

-- where the line of access i of processor p stands, among the first so many
abbrev pub place_among : List Access → ℕ → ℕ → ℕ → Option ℕ
place_among lines p i n = least (λ j. is_of p i (slice_get lines j)) n

abbrev pub place_of : List Access → ℕ → ℕ → Option ℕ
place_of lines p i = place_among lines p i (length lines)

-- the line is of none of the n processors, or an earlier line is of the same access
abbrev pub stray_of : ℕ → List Access → ℕ → Option Access → Option Rejected
stray_of n lines j None = None
stray_of n lines j (Some e) =
    if nat_le n e.node.0 || is_some (place_among lines e.node.0 e.index j) then Some (Foreign (file_line j)) else None

abbrev pub stray : ℕ → List Access → ℕ → Option Rejected
stray n lines j = stray_of n lines j (slice_get lines j)

-- ---- the steps of a processor, on the values that its lines have

abbrev pub same_kind : Kind → Kind → Bool
same_kind Load k = not (stores k)
same_kind Store k = not (loads k)
same_kind Atomic k = loads k && stores k

-- the first part in which a line differs from the access that was made
abbrev pub differing : Access → Access → Option Part
differing made e =
    if not (same_kind made.kind e.kind) then Some part.Kind
    else if not (count_of e.size == count_of made.size) then Some part.Size
    else if not (e.addr.0 == made.addr.0) then Some part.Addr
    else if not (e.stored == made.stored) then Some part.Stored
    else None

-- the fault of a step that makes these accesses, at most one, number i of processor p, whose line stands there
abbrev pub step_fault : ℕ → ℕ → List Access → Option ℕ → Option Access → Option Rejected
step_fault p i [] place line = None
step_fault p i (made ∷ more) None line = Some (Missing (record { 0 = p }) i)
step_fault p i (made ∷ more) (Some j) None = Some (Missing (record { 0 = p }) i)
step_fault p i (made ∷ more) (Some j) (Some e) = option_map (Differs (file_line j)) (differing made e)

abbrev pub unless : {A : Type 0} → Option Rejected → A → Result A Rejected
unless None x = Ok x
unless (Some r) x = Err r

abbrev pub loaded_of : Option Access → ℕ
loaded_of None = 0
loaded_of (Some e) = e.loaded

-- The next step of processor p, after s steps and i accesses. The line of the next access stands at this place, if
-- there is one, and the step takes its value where it loads.
abbrev pub next_step : ImageView → List Access → ℕ → ℕ → ℕ → Option ℕ → Arch → Result Stepped Rejected
next_step image lines p s i place arch =
    let line = option_and_then (slice_get lines) place in
    let stepped = step image arch (loaded_of line) in
    if is_running arch.end then unless (step_fault p i (accesses_of p i stepped.act) place line) stepped else Err (Ended (record { 0 = p }) s)

abbrev pub then_after : ℕ → Ran → Result Stepped Rejected → Result Ran Rejected
then_after p ran (Err r) = Err r
then_after p ran (Ok stepped) = Ok (after p ran stepped)

-- the run with one step more
abbrev pub followed : ImageView → List Access → ℕ → ℕ → Ran → Result Ran Rejected
followed image lines p s ran = then_after p ran (next_step image lines p s (length ran.accesses) (place_of lines p (length ran.accesses)) ran.state)

abbrev pub then_followed : Result Ran Rejected → (Ran → Result Ran Rejected) → Result Ran Rejected
then_followed (Err r) f = Err r
then_followed (Ok ran) f = f ran

-- k steps of processor p of n, or their first fault
abbrev pub replayed : ImageView → ℕ → List Access → ℕ → ℕ → Result Ran Rejected
replayed image n lines p zero = Ok (record { state = boot image p n; accesses = []; fences = no_fences; output = [] })
replayed image n lines p (suc k) = then_followed (replayed image n lines p k) (followed image lines p k)

-- line j is of processor p, which has made only so many accesses
abbrev pub unmade_of : ℕ → ℕ → ℕ → Option Access → Option Rejected
unmade_of p count j None = None
unmade_of p count j (Some e) = if (e.node.0 == p) && nat_le count e.index then Some (Foreign (file_line j)) else None

abbrev pub unmade : List Access → ℕ → ℕ → ℕ → Option Rejected
unmade lines p count j = unmade_of p count j (slice_get lines j)

abbrev pub run_fault_of : List Access → ℕ → Result Ran Rejected → Option Rejected
run_fault_of lines p (Err r) = Some r
run_fault_of lines p (Ok ran) = first (unmade lines p (length ran.accesses)) (length lines)

abbrev pub replay : ImageView → CertificateView → ℕ → Result Ran Rejected
replay image c p = replayed image c.processors c.lines p (slice_index c.counts p)

abbrev pub run_fault : ImageView → CertificateView → ℕ → Option Rejected
run_fault image c p = run_fault_of c.lines p (replay image c p)

-- ---- the order of the lines

abbrev pub made_by : Result Ran Rejected → List Made
made_by (Ok ran) = ran.accesses
made_by (Err r) = []

-- by processor, the accesses that its steps make
abbrev pub programs : ImageView → CertificateView → List (List Made)
programs image c = map (λ p. made_by (replay image c p)) (range_with_len 0 c.processors)

abbrev pub is_needed : ImageView → CertificateView → Option Made → Option Made → Bool
is_needed image c (Some x) (Some y) = needs c.model x y
is_needed image c (Some x) None = false
is_needed image c None y = false

-- access i of a processor is needed before its access at place j, and does not stand before it
abbrev pub is_late : ImageView → CertificateView → ℕ → Access → ℕ → Bool
is_late image c j e i =
    is_needed image c (made_at (programs image c) e.node.0 i) (made_at (programs image c) e.node.0 e.index)
    && nat_lt j (unwrap_or (place_of c.lines e.node.0 i) 0)

abbrev pub late : ImageView → CertificateView → ℕ → Access → ℕ → Option Rejected
late image c j e i = if is_late image c j e i then Some (OutOfOrder (file_line j) e.node i) else None

-- ---- the values of the lines

abbrev pub writes : ℕ → Option Access → Bool
writes byte None = false
writes byte (Some e) = stores e.kind && nat_lt (gap_of e.addr.0 byte) (count_of e.size)

abbrev pub is_earlier : Access → Option Access → Bool
is_earlier load None = false
is_earlier load (Some e) = (e.node.0 == load.node.0) && nat_lt e.index load.index

-- what was found at place k writes the byte, and the load at place `at` may read from it
abbrev pub may_read : ℕ → Access → ℕ → ℕ → Option Access → Bool
may_read at load byte k found = writes byte found && not (k == at) && (nat_lt k at || is_earlier load found)

abbrev pub byte_from : ImageView → ℕ → Option Access → ℕ
byte_from image byte None = byte_at image byte
byte_from image byte (Some e) = stored_byte e byte

-- the byte that the last of these has written, else the image's
abbrev pub source_byte : ImageView → List Access → ℕ → Access → ℕ → ℕ
source_byte image lines at load byte =
    byte_from image byte (option_and_then (slice_get lines) (last (λ k. may_read at load byte k (slice_get lines k)) (length lines)))

-- byte b of the load at place j is another than its source has written
abbrev pub wrong : ImageView → List Access → ℕ → Access → ℕ → Option Rejected
wrong image lines j e b =
    let byte = (e.addr.0 + b) % 2 ^ 64 in
    let source = source_byte image lines j e byte in
    if source == loaded_byte e byte then None else Some (WrongValue (file_line j) b source (loaded_byte e byte))

-- ---- all faults

abbrev pub line_fault_of : ImageView → CertificateView → ℕ → Option Access → Option Rejected
line_fault_of image c j None = None
line_fault_of image c j (Some e) =
    option_or (first (late image c j e) e.index) (if loads e.kind then first (wrong image c.lines j e) (count_of e.size) else None)

abbrev pub line_fault : ImageView → CertificateView → ℕ → Option Rejected
line_fault image c j = line_fault_of image c j (slice_get c.lines j)

-- The first fault: lines of no processor and of one access twice; then by processor its steps, and its lines of
-- accesses that it has not made; then by line its order and its value.
unfoldable pub first_fault : ImageView → CertificateView → Option Rejected
first_fault image c =
    option_or (first (stray c.processors c.lines) (length c.lines))
    (option_or (first (run_fault image c) c.processors) (first (line_fault image c) (length c.lines)))
