-- The walk over the lines of an order: what the code keeps when it has come to a place.
use Rattle.std.specs.Prelude.{◌≡◌, ℕ, ◌+◌, ◌%◌, ◌^◌, ◌<◌, ◌==◌, nat_lt, Bool, false, ◌&&◌, if◌then◌else◌, List, length, fold, slice_get, slice_index, Option, None, Some, option_and_then, option_map}
use Rattle.std.specs.List.{take_while}
use Rattle.rsim_base.specs.Accesses.{stores, overlap}
use Rattle.rsim_base.specs.declared.memory.Access.{Access}
use Rattle.rsim_base.specs.declared.memory.Model.{Model}
use Rattle.rsim_base.specs.declared.memory.Model.TheVariants.{Sc, Pc, Rc}
use Rattle.elf64_load.specs.Image.{ImageView}
use Rattle.image_memory.specs.Memory.{byte_in}
use Rattle.image_memory.specs.declared.memory.Memory.{Memory}
use Rattle.order_axioms.specs.Axioms.{needs}
use Rattle.order_axioms.specs.Counted.{made_after}
use Rattle.order_axioms.specs.declared.counting.Fences.{Fences}
use Rattle.order_certificate.specs.Certificate.{CertificateView, IsCertificate}
use Rattle.order_checker.specs.declared.replay.Program.{Program}
use Rattle.order_checker.specs.declared.walk.Walk.{Walk}
use Rattle.order_checker.specs.Faults.{run_fault, stray, writes, byte_from, file_line}
use Rattle.order_checker.specs.declared.verdict.Rejected.{Rejected}
use Rattle.order_checker.specs.declared.verdict.Rejected.TheVariants.{WrongValue}
use Rattle.order_checker.specs.Values.{loaded_byte, stored_byte}
use Rattle.order_checker.specs.Firsts.{first, last}
use Rattle.order_checker.specs.Programs.{IsReplayed}
use Rattle.order_checker.specs.Standing.{IsWalked}

-- ---- which access must stand before another

abbrev pub is_needed_of : Model → Option Access → Option Fences → Access → Option Fences → Bool
is_needed_of model (Some x) (Some before) e (Some now) = needs model (made_after x before) (made_after e now)
is_needed_of model (Some x) (Some before) e None = false
is_needed_of model (Some x) None e now = false
is_needed_of model None before e now = false

-- access k of the program must stand before this one of it
abbrev pub is_needed_by : Model → List Access → Program → Access → ℕ → Bool
is_needed_by model lines program e k =
    is_needed_of model (option_and_then (slice_get lines) (slice_get program.places.items k)) (slice_get program.fences.items k) e (slice_get program.fences.items e.index)

-- where the access is a load that the model lets pass earlier stores but for fences, how many of these stand before it
abbrev pub passing_load : Model → Access → Option Fences → Option ℕ
passing_load Sc e now = None
passing_load Pc e now = if stores e.kind then None else option_map (λ f. f.sl) now
passing_load Rc e now = if stores e.kind then None else option_map (λ f. f.sl) now

-- ---- memory

-- a byte as the lines before place j have left it
abbrev pub written_byte : ImageView → List Access → ℕ → ℕ → ℕ
written_byte image lines j byte = byte_from image byte (option_and_then (slice_get lines) (last (λ k. writes byte (slice_get lines k)) j))

abbrev pub HasWritten : ImageView → List Access → ℕ → Memory → Type 0
HasWritten image lines j memory = (a : ℕ) → a < 2 ^ 64 → byte_in image memory a ≡ written_byte image lines j a

-- ---- stores that are still to come

-- a store that has a byte in common with the access
abbrev pub touches : Access → Option Access → Bool
touches e None = false
touches e (Some f) = stores f.kind && overlap f e

-- the later one of two places, where the second counts
abbrev pub later : Bool → Option ℕ → Option ℕ → Option ℕ
later counts latest None = latest
later counts None (Some j) = if counts then Some j else None
later counts (Some k) (Some j) = if counts && nat_lt k j then Some j else Some k

-- the same with access k of a program, whose line passes or not
abbrev pub with_later : (Option Access → Bool) → List Access → List ℕ → Option ℕ → ℕ → Option ℕ
with_later test lines places found k = later (test (option_and_then (slice_get lines) (slice_get places k))) found (slice_get places k)

-- of these accesses of a program, the last place whose line passes
abbrev pub latest : (Option Access → Bool) → List Access → List ℕ → List ℕ → Option ℕ
latest test lines places ks = fold (with_later test lines places) None ks

-- of the accesses before this one whose lines are still to come, the last place whose line passes
abbrev pub latest_left : (Option Access → Bool) → List Access → Access → Walk → Option ℕ
latest_left test lines e w = latest test lines w.program.places.items (take_while (λ k. nat_lt k e.index) w.left.items)

-- byte b of the load at place j is another than the store has there
abbrev pub differs_from : Access → ℕ → Access → ℕ → Option Rejected
differs_from f j e b =
    let byte = (e.addr.0 + b) % 2 ^ 64 in
    if stored_byte f byte == loaded_byte e byte then None else Some (WrongValue (file_line j) b (stored_byte f byte) (loaded_byte e byte))

-- ---- the walks of all processors

-- processor p has run without a fault, and its walk has come to place j
pub record IsWalk (image : ImageView) (c : CertificateView) (p j : ℕ) (w : Walk) : Type 0 where
  pub replayed : IsReplayed image c.processors c.lines p (slice_index c.counts p) w.program.places.items w.program.fences.items
  pub fine : run_fault image c p ≡ None
  pub walked : IsWalked w.program.places.items j w.next w.left.items

-- The line at place j is this access, the walk of its processor has come to the line, and has reached the access.
pub record IsAtLine (image : ImageView) (c : CertificateView) (j : ℕ) (e : Access) (w : Walk) : Type 0 where
  pub certificate : IsCertificate c
  pub strays : first (stray c.processors c.lines) (length c.lines) ≡ None
  pub stands : slice_get c.lines j ≡ Some e
  pub walk : IsWalk image c e.node.0 j w
  pub reached : e.index < w.next

pub record AreWalks (image : ImageView) (c : CertificateView) (n j : ℕ) (walks : List Walk) : Type 0 where
  pub count : length walks ≡ n
  pub each : (p : ℕ) (w : Walk) → slice_get walks p ≡ Some w → IsWalk image c p j w

-- the lines are of the processors' accesses, each once, and the walks and memory have come to place j
pub record HasWalked (image : ImageView) (c : CertificateView) (j : ℕ) (walks : List Walk) (memory : Memory) : Type 0 where
  pub certificate : IsCertificate c
  pub strays : first (stray c.processors c.lines) (length c.lines) ≡ None
  pub each : AreWalks image c c.processors j walks
  pub written : HasWritten image c.lines j memory
