-- What is known at a line that a walk has come to: which access of its processor it is, and where the others stand.
use Rattle.std.proofs.Common.{◌≡◌, ◌<◌, ℕ, length, None, Some, slice_get, slice_index, refl, sym, ap, subst, ◌∙◌}
use Rattle.std.proofs.lemmas.Option.{slice_get_within, get_or_from_slice_get}
use Rattle.rsim_base.specs.Made.{Made}
use Rattle.rsim_base.specs.declared.memory.Access.{Access}
use Rattle.elf64_load.specs.Image.{ImageView}
use Rattle.order_axioms.specs.Counted.{counts}
use Rattle.order_axioms.specs.declared.counting.Fences.{Fences}
use Rattle.order_certificate.specs.Certificate.{CertificateView, IsCertificate}
use Rattle.order_checker.specs.declared.walk.Walk.{Walk}
use Rattle.order_checker.specs.Faults.{place_of, programs, run_fault_of, stray, unmade}
use Rattle.order_checker.specs.Firsts.{first}
use Rattle.order_checker.specs.Order.{made_at}
use Rattle.order_checker.specs.Walking.{IsWalk, IsAtLine}
use Rattle.order_checker.proofs.Aligned.{IsAlignedAccess, replayed_aligned}
use Rattle.order_checker.proofs.Clean.{AreInText-certificate, made_at-replay, count_above}
use Rattle.order_checker.proofs.FirstOnes.{first_none-at}
use Rattle.order_checker.proofs.LinePlaces.{AreOnce, AreOnce-from, stray_none, place_is, place_once}
use Rattle.list_facts.specs.Places.{slice_get_below, slice_get_unmapped, slice_get_mapped}
use Rattle.list_facts.specs.Options.{Some-injective}
use Rattle.order_checker.proofs.Replays.{replayed_lines}

-- an access of the walk's processor: what it made, where its line stands, and the fences before it
pub record IsOwnAccess (image : ImageView) (c : CertificateView) (p i : ℕ) (w : Walk) : Type 0 where
  pub made : Made
  pub is_made : made_at (programs image c) p i ≡ Some made
  pub place : ℕ
  pub is_place : place_of c.lines p i ≡ Some place
  pub stands : slice_get c.lines place ≡ Some made.access
  pub kept : slice_get w.program.places.items i ≡ Some place
  pub fences : Fences
  pub are_fences : slice_get w.program.fences.items i ≡ Some fences
  pub counted : counts fences ≡ made.fences
  pub aligned : IsAlignedAccess made.access

pub record IsAt (image : ImageView) (c : CertificateView) (j : ℕ) (e : Access) (w : Walk) : Type 0 where
  pub once : AreOnce c.lines
  pub within : e.index < length w.program.places.items
  pub own : (i : ℕ) → i < length w.program.places.items → IsOwnAccess image c e.node.0 i w
  pub here : place_of c.lines e.node.0 e.index ≡ Some j
  pub aligned : IsAlignedAccess e

-- where no line is a stray, no two are of one access
pub AreOnce-strays : (c : CertificateView) → first (stray c.processors c.lines) (length c.lines) ≡ None → AreOnce c.lines
AreOnce-strays c none = AreOnce-from c.processors c.lines (λ j below. first_none-at (stray c.processors c.lines) (length c.lines) j none below)

pub node_below : (c : CertificateView) (j : ℕ) (e : Access) → first (stray c.processors c.lines) (length c.lines) ≡ None → slice_get c.lines j ≡ Some e → e.node.0 < c.processors
node_below c j e none at = (stray_none c.processors c.lines j e at (first_none-at (stray c.processors c.lines) (length c.lines) j none (slice_get_within c.lines j e at))).0

pub IsOwnAccess-walk : (image : ImageView) (c : CertificateView) (p i j : ℕ) (w : Walk) → IsCertificate c → IsWalk image c p j w → p < c.processors → i < length w.program.places.items → IsOwnAccess image c p i w
IsOwnAccess-walk image c p i j w certificate walk below within =
    let run = walk.replayed in
    let made_within : i < length run.ran.accesses = subst (λ n. i < n) run.made.count within in
    let m = slice_get_below run.ran.accesses i made_within in
    let line = replayed_lines image c.processors c.lines p (slice_index c.counts p) run.ran (AreInText-certificate c certificate) run.is i m.0 m.1 in
    let fence = slice_get_unmapped counts w.program.fences.items i m.0.fences (ap (λ xs. slice_get xs i) run.made.fenced ∙ slice_get_mapped (λ (n : Made). n.fences) run.ran.accesses i m.0 m.1) in
    record {
      made = m.0;
      is_made = made_at-replay image c p i run.ran below run.is ∙ m.1;
      place = line.place;
      is_place = line.is_place;
      stands = line.line.stands;
      kept = run.made.stand i made_within ∙ line.is_place;
      fences = fence.0;
      are_fences = fence.1;
      counted = sym fence.2;
      aligned = replayed_aligned image c.processors c.lines p (slice_index c.counts p) run.ran run.is i m.0 m.1;
    }

-- a line's access is among those that its processor made
pub index_within : (image : ImageView) (c : CertificateView) (j : ℕ) (e : Access) (w : Walk) → first (stray c.processors c.lines) (length c.lines) ≡ None → slice_get c.lines j ≡ Some e → IsWalk image c e.node.0 j w → e.index < length w.program.places.items
index_within image c j e w strays stands walk =
    let run = walk.replayed in
    let none : first (unmade c.lines e.node.0 (length run.ran.accesses)) (length c.lines) ≡ None = ap (run_fault_of c.lines e.node.0) (sym run.is) ∙ walk.fine in
    subst (λ n. e.index < n) (sym run.made.count) (count_above c.lines e.node.0 (length run.ran.accesses) j e stands refl (first_none-at (unmade c.lines e.node.0 (length run.ran.accesses)) (length c.lines) j none (slice_get_within c.lines j e stands)))

pub IsAt-from : (image : ImageView) (c : CertificateView) (j : ℕ) (e : Access) (w : Walk) → IsAtLine image c j e w → IsAt image c j e w
IsAt-from image c j e w at =
    let once = AreOnce-strays c at.strays in
    let below = node_below c j e at.strays at.stands in
    let within = index_within image c j e w at.strays at.stands at.walk in
    let here = place_once c.lines e.node.0 e.index j e once (record { stands = at.stands; node = refl; index = refl }) in
    let own = IsOwnAccess-walk image c e.node.0 e.index j w at.certificate at.walk below within in
    let same : own.made.access ≡ e = Some-injective (sym own.stands ∙ ap (slice_get c.lines) (Some-injective (sym own.is_place ∙ here)) ∙ at.stands) in
    record {
      once = once;
      within = within;
      own = λ i lt. IsOwnAccess-walk image c e.node.0 i j w at.certificate at.walk below lt;
      here = here;
      aligned = subst IsAlignedAccess same own.aligned;
    }

-- its line stands where the walk has come to, and no other's does
pub here_is : (image : ImageView) (c : CertificateView) (j : ℕ) (e : Access) (w : Walk) → IsAtLine image c j e w → slice_index w.program.places.items e.index ≡ j
here_is image c j e w at =
    let is = IsAt-from image c j e w at in
    let here = is.own e.index is.within in
    get_or_from_slice_get w.program.places.items e.index here.place 0 here.kept ∙ Some-injective (sym here.is_place ∙ is.here)

pub here_alone : (image : ImageView) (c : CertificateView) (p j : ℕ) (e : Access) (v : Walk) → IsCertificate c → slice_get c.lines j ≡ Some e → IsWalk image c p j v → p < c.processors → (k : ℕ) → k < length v.program.places.items → slice_index v.program.places.items k ≡ j → (e.node.0 ≡ p) × (e.index ≡ k)
here_alone image c p j e v certificate stands walk below k within is =
    let x = IsOwnAccess-walk image c p k j v certificate walk below within in
    let place : x.place ≡ j = sym (get_or_from_slice_get v.program.places.items k x.place 0 x.kept) ∙ is in
    place_is c.lines p k j e (x.is_place ∙ ap Some place) stands
