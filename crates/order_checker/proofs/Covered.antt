-- A load whose bytes are all from one store that is still to come, or all from memory.
use Rattle.std.proofs.Common.{◌≡◌, ◌<◌, ◌≤◌, ◌+◌, ◌%◌, ◌^◌, nat_lt, ℕ, Bool, true, false, Option, None, Some, slice_get, if◌then◌else◌, ◌==◌, refl, sym, ap, subst, ⊎_elim, ◌∙◌, arith}
use Rattle.std.proofs.lemmas.Bool.{and_parts, and_from, or_left, or_right, ltb-true, lt-ltb, cases_lt, false≢true}
use Rattle.rsim_base.specs.Accesses.{stores, overlap}
use Rattle.rsim_base.specs.Bytes.{Covers, IsByteOf, Overlaps, count_of, gap_of}
use Rattle.rsim_base.specs.ByteSets.{IsByteOf-from_gap, gap_of-IsByteOf, gaps_of-Overlaps, count_of-bounds}
use Rattle.rsim_base.specs.declared.memory.Access.{Access}
use Rattle.elf64_load.specs.Image.{ImageView}
use Rattle.order_certificate.specs.Certificate.{CertificateView}
use Rattle.order_checker.specs.declared.verdict.Rejected.TheVariants.{WrongValue}
use Rattle.order_checker.specs.declared.walk.Walk.{Walk}
use Rattle.order_checker.specs.Faults.{file_line, writes, wrong, source_byte}
use Rattle.order_checker.specs.Firsts.{first}
use Rattle.order_checker.specs.Standing.{stands_from}
use Rattle.order_checker.specs.Values.{loaded_byte, stored_byte}
use Rattle.order_checker.specs.Walking.{IsAtLine, differs_from, latest_left, touches}
use Rattle.order_checker.proofs.FirstOnes.{first-same}
use Rattle.order_checker.proofs.Latest.{LatestOf, LatestOf-walk, found_own, source_own}

-- the address of an access in a line
addr_fits : (image : ImageView) (c : CertificateView) (j k : ℕ) (e f : Access) (w : Walk) → IsAtLine image c j e w → slice_get c.lines k ≡ Some f → f.addr.0 < 2 ^ 64
addr_fits image c j k e f w at is = (at.certificate.in_text k f is).printable.addr

-- a store that writes a byte of the load has it in common with the load
touches_from : (e f : Access) (byte : ℕ) → e.addr.0 < 2 ^ 64 → f.addr.0 < 2 ^ 64 → byte < 2 ^ 64 → IsByteOf byte e.addr.0 (count_of e.size) → writes byte (Some f) ≡ true → touches e (Some f) ≡ true
touches_from e f byte e_fits f_fits fits of_e wrote =
    let parts = and_parts (stores f.kind) (nat_lt (gap_of f.addr.0 byte) (count_of f.size)) wrote in
    let of_f : IsByteOf byte f.addr.0 (count_of f.size) = IsByteOf-from_gap byte f.addr.0 (count_of f.size) fits f_fits (ltb-true _ _ parts.1) in
    let both : Overlaps f.addr.0 (count_of f.size) e.addr.0 (count_of e.size) = (byte, of_f, of_e) in
    and_from (stores f.kind) _ parts.0 (⊎_elim
    (λ near. or_right (nat_lt (gap_of f.addr.0 e.addr.0) (count_of f.size)) _ (lt-ltb (gap_of e.addr.0 f.addr.0) (count_of e.size) near))
    (λ far. or_left _ (nat_lt (gap_of e.addr.0 f.addr.0) (count_of e.size)) (lt-ltb (gap_of f.addr.0 e.addr.0) (count_of f.size) (gaps_of-Overlaps f.addr.0 (count_of f.size) e.addr.0 (count_of e.size) f_fits e_fits (count_of-bounds f.size).1 (count_of-bounds e.size).1 both far)))
    (cases_lt (gap_of e.addr.0 f.addr.0) (count_of e.size)))

-- what the code finds at a place that passes
at_place : (c : CertificateView) (test : Option Access → Bool) (q : ℕ) (o : Option Access) → slice_get c.lines q ≡ o → (test None ≡ false) → test o ≡ true → (f : Access) × (slice_get c.lines q ≡ Some f)
at_place c test q None at none is = absurd (false≢true (sym none ∙ is))
at_place c test q (Some f) at none is = (f, at)

abbrev byte_at_place : Access → ℕ → ℕ
byte_at_place e b = (e.addr.0 + b) % 2 ^ 64

in_64 : (e : Access) (b : ℕ) → byte_at_place e b < 2 ^ 64
in_64 e b = omega arith

-- the accesses before the load that are left
abbrev LeftOf : CertificateView → Walk → ℕ → Access → (Option Access → Bool) → Option ℕ → Type 0
LeftOf c w j e test o = LatestOf c.lines w.program.places.items test (stands_from w.program.places.items j) e.index o

-- where none of them has a byte in common with the load none writes one
pub none_writes : (image : ImageView) (c : CertificateView) (j : ℕ) (e : Access) (w : Walk) → IsAtLine image c j e w → latest_left (touches e) c.lines e w ≡ None → (b : ℕ) → b < count_of e.size → found_own c e w (byte_at_place e b) ≡ None
none_writes image c j e w at none b below = by_found (found_own c e w byte) refl (LatestOf-walk image c j e w (writes byte) at)
  where
    byte : ℕ
    byte = byte_at_place e b

    none_touches : LeftOf c w j e (touches e) None
    none_touches = subst (LeftOf c w j e (touches e)) none (LatestOf-walk image c j e w (touches e) at)

    by_found : (o : Option ℕ) → found_own c e w byte ≡ o → LeftOf c w j e (writes byte) o → found_own c e w byte ≡ None
    by_found None is found = is
    by_found (Some q) is found =
        let f = at_place c (writes byte) q (slice_get c.lines q) refl refl found.writes_it in
        let touch = touches_from e f.0 byte (addr_fits image c j j e e w at at.stands) (addr_fits image c j q e f.0 w at f.1) (in_64 e b) (b, below, refl) (ap (writes byte) (sym f.1) ∙ found.writes_it) in
        absurd (false≢true (sym (none_touches found.access q found.below found.passes found.place) ∙ ap (touches e) f.1 ∙ touch))

-- where the last of them covers the load each byte is from it
pub one_writes : (image : ImageView) (c : CertificateView) (j : ℕ) (e : Access) (w : Walk) (q : ℕ) (f : Access) → IsAtLine image c j e w → latest_left (touches e) c.lines e w ≡ Some q → slice_get c.lines q ≡ Some f →
    Covers f.addr.0 (count_of f.size) e.addr.0 (count_of e.size) → (b : ℕ) → b < count_of e.size → found_own c e w (byte_at_place e b) ≡ Some q
one_writes image c j e w q f at is stands covers b below = by_found (found_own c e w byte) refl (LatestOf-walk image c j e w (writes byte) at)
  where
    byte : ℕ
    byte = byte_at_place e b

    latest : LeftOf c w j e (touches e) (Some q)
    latest = subst (LeftOf c w j e (touches e)) is (LatestOf-walk image c j e w (touches e) at)

    wrote : writes byte (slice_get c.lines q) ≡ true
    wrote =
        let touch = and_parts (stores f.kind) (overlap f e) (ap (touches e) (sym stands) ∙ latest.writes_it) in
        ap (writes byte) stands ∙ and_from (stores f.kind) _ touch.0 (lt-ltb _ _ (gap_of-IsByteOf byte f.addr.0 (count_of f.size) (addr_fits image c j q e f w at stands) (count_of-bounds f.size).1 (covers byte (b, below, refl))))

    by_found : (o : Option ℕ) → found_own c e w byte ≡ o → LeftOf c w j e (writes byte) o → found_own c e w byte ≡ Some q
    by_found None is found = absurd (false≢true (sym (found latest.access q latest.below latest.passes latest.place) ∙ wrote))
    by_found (Some k) is found =
        let g = at_place c (writes byte) k (slice_get c.lines k) refl refl found.writes_it in
        let touch = touches_from e g.0 byte (addr_fits image c j j e e w at at.stands) (addr_fits image c j k e g.0 w at g.1) (in_64 e b) (b, below, refl) (ap (writes byte) (sym g.1) ∙ found.writes_it) in
        let low : k ≤ q = latest.last found.access k found.below found.passes found.place (ap (touches e) g.1 ∙ touch) in
        let high : q ≤ k = found.last latest.access q latest.below latest.passes latest.place wrote in
        let same : k ≡ q = omega (arith, low, high) in
        is ∙ ap Some same

-- so its first wrong byte is the first in which it differs from that store
pub wrong_from_store : (image : ImageView) (c : CertificateView) (j : ℕ) (e : Access) (w : Walk) (q : ℕ) (f : Access) → IsAtLine image c j e w → latest_left (touches e) c.lines e w ≡ Some q → slice_get c.lines q ≡ Some f →
    Covers f.addr.0 (count_of f.size) e.addr.0 (count_of e.size) → first (differs_from f j e) (count_of e.size) ≡ first (wrong image c.lines j e) (count_of e.size)
wrong_from_store image c j e w q f at is stands covers = first-same (differs_from f j e) (wrong image c.lines j e) (count_of e.size) (λ b below. same b below)
  where
    same : (b : ℕ) → b < count_of e.size → differs_from f j e b ≡ wrong image c.lines j e b
    same b below =
        let byte = byte_at_place e b in
        let source : source_byte image c.lines j e byte ≡ stored_byte f byte = source_own image c j e w byte q f at (one_writes image c j e w q f at is stands covers b below) stands in
        ap (λ s. if s == loaded_byte e byte then None else Some (WrongValue (file_line j) b s (loaded_byte e byte))) (sym source)

-- the store that is found is there
pub overlap_stands : (image : ImageView) (c : CertificateView) (j : ℕ) (e : Access) (w : Walk) (q : ℕ) → IsAtLine image c j e w → latest_left (touches e) c.lines e w ≡ Some q → (f : Access) × (slice_get c.lines q ≡ Some f) × (f.addr.0 < 2 ^ 64)
overlap_stands image c j e w q at is =
    let latest : LeftOf c w j e (touches e) (Some q) = subst (LeftOf c w j e (touches e)) is (LatestOf-walk image c j e w (touches e) at) in
    let f = at_place c (touches e) q (slice_get c.lines q) refl refl latest.writes_it in
    (f.0, f.1, addr_fits image c j q e f.0 w at f.1)

-- each byte of a load is where the store that covers it has bytes
pub covered_gap : (e f : Access) (b : ℕ) → Covers f.addr.0 (count_of f.size) e.addr.0 (count_of e.size) → f.addr.0 < 2 ^ 64 → b < count_of e.size → gap_of f.addr.0 ((e.addr.0 + b) % 2 ^ 64) < count_of f.size
covered_gap e f b covers fits below = gap_of-IsByteOf (byte_at_place e b) f.addr.0 (count_of f.size) fits (count_of-bounds f.size).1 (covers (byte_at_place e b) (b, below, refl))
