-- A node awaits the line exactly while its register is open, and an answer exactly while it is leaving.
use Rattle.std.proofs.Common.{◌≡◌, ℕ, ◌+◌, Bool, true, false, cond, ◌&&◌, ◌==◌, List, Option, None, Some, is_some, refl, sym, ap, ◌∙◌, subst, true≢false}
use Rattle.std.proofs.lemmas.Bool.{eqb-true, eqb-false}
use Rattle.memory_contracts.specs.Protocol.Lines.{Phase, Idle, Collecting, Recalling, Granting, Stance, Cell}
use Rattle.memory_contracts.specs.Protocol.HomeTable.{is_owner}
use Rattle.memory_contracts.specs.Protocol.Roles.{Role, Free, Invalidated, Answered, Owning, Served, Recalled, Granted, listed, role}
use Rattle.memory_contracts.specs.Protocol.Coherent.{Fits, free, listing, to_invalidate, invalidated, answered, keeping, serving, to_recall, recalled_kept, recalled, to_grant, granted_owned, granted_shared, HomeFits, IsBare, at_rest, asking, IsAway, bare, emptied, noted, noted_empty, IsSharing, without, reading, upgrading, IsKeeping, owning, leaving, IsPromised, fresh, upgraded}
use Rattle.memory_contracts.specs.Protocol.Awaited.{number, count_gets, count_puts, is_leaving, has_grant, is_served_now}
use Rattle.memory_contracts.specs.Protocol.Laws.{LeavingAwaitsAnswer, RegisterAwaitsLine}

at_stance : (P : Stance → Type 0) {s t : Stance} → s ≡ t → P t → P s
at_stance P e p = subst P (sym e) p

-- ---- who is leaving

abbrev Leaves : Stance → Type 0
Leaves s = count_puts s.asked + s.acks ≡ number (is_leaving s.copy)

leaves_bare : (s : Stance) → IsBare s → Leaves s
leaves_bare s (at_rest e) = at_stance Leaves e refl
leaves_bare s (asking false e) = at_stance Leaves e refl
leaves_bare s (asking true e) = at_stance Leaves e refl

leaves_away : (s : Stance) → IsAway s → Leaves s
leaves_away s (bare b) = leaves_bare s b
leaves_away s (emptied bytes e) = at_stance Leaves e refl
leaves_away s (noted bytes e) = at_stance Leaves e refl
leaves_away s (noted_empty e) = at_stance Leaves e refl

leaves_sharing : (g : List ℕ) (s : Stance) → IsSharing g s → Leaves s
leaves_sharing g s (without b) = leaves_bare s b
leaves_sharing g s (reading e) = at_stance Leaves e refl
leaves_sharing g s (upgrading e) = at_stance Leaves e refl

leaves_keeping : (g : List ℕ) (s : Stance) → IsKeeping g s → Leaves s
leaves_keeping g s (owning e) = at_stance Leaves e refl
leaves_keeping g s (leaving e) = at_stance Leaves e refl

leaves_promised : (g : List ℕ) (may : Bool) (s : Stance) → IsPromised g may s → Leaves s
leaves_promised g may s (fresh e) = at_stance Leaves e refl
leaves_promised g _ s (upgraded e) = at_stance Leaves e refl

leaves_row : (g : List ℕ) (c : Cell) (r : Role) → Fits g c r → Leaves c.stance
leaves_row g c _ (free w s) = leaves_away c.stance s
leaves_row g c _ (listing w s) = leaves_sharing g c.stance s
leaves_row g c _ (to_invalidate w s) = leaves_sharing g c.stance s
leaves_row g c _ (invalidated w s) = leaves_bare c.stance s
leaves_row g c _ (answered w s) = leaves_bare c.stance s
leaves_row g c _ (keeping w s) = leaves_keeping g c.stance s
leaves_row g c _ (serving own sharer w s) = leaves_promised g _ c.stance s
leaves_row g c _ (to_recall own w s) = leaves_keeping g c.stance s
leaves_row g c _ (recalled_kept w s) = leaves_sharing g c.stance s
leaves_row g c _ (recalled own w s) = leaves_away c.stance s
leaves_row g c _ (to_grant own memory m w s) = leaves_promised g _ c.stance s
leaves_row g c _ (granted_owned memory w s) = leaves_keeping g c.stance s
leaves_row g c _ (granted_shared memory m w s) = leaves_sharing g c.stance s

pub leaving_awaits : LeavingAwaitsAnswer
leaving_awaits n g l x co below = leaves_row g (l.at x) (role l.home x) (co.nodes x below)

-- ---- who waits for the line: k, whether its request is served

abbrev Waits : Bool → Stance → Type 0
Waits k s = count_gets s.asked + number k ≡ number s.register

waits_bare : (s : Stance) → IsBare s → Waits false s
waits_bare s (at_rest e) = at_stance (Waits false) e refl
waits_bare s (asking false e) = at_stance (Waits false) e refl
waits_bare s (asking true e) = at_stance (Waits false) e refl

waits_away : (s : Stance) → IsAway s → Waits false s
waits_away s (bare b) = waits_bare s b
waits_away s (emptied bytes e) = at_stance (Waits false) e refl
waits_away s (noted bytes e) = at_stance (Waits false) e refl
waits_away s (noted_empty e) = at_stance (Waits false) e refl

waits_sharing : (g : List ℕ) (s : Stance) → IsSharing g s → Waits false s
waits_sharing g s (without b) = waits_bare s b
waits_sharing g s (reading e) = at_stance (Waits false) e refl
waits_sharing g s (upgrading e) = at_stance (Waits false) e refl

waits_keeping : (g : List ℕ) (s : Stance) → IsKeeping g s → Waits false s
waits_keeping g s (owning e) = at_stance (Waits false) e refl
waits_keeping g s (leaving e) = at_stance (Waits false) e refl

waits_promised : (g : List ℕ) (may : Bool) (s : Stance) → IsPromised g may s → Waits true s
waits_promised g may s (fresh e) = at_stance (Waits true) e refl
waits_promised g _ s (upgraded e) = at_stance (Waits true) e refl

waits_listed : (g : List ℕ) (c : Cell) (s : Bool) → Fits g c (listed s) → Waits false c.stance
waits_listed g c true (listing w s) = waits_sharing g c.stance s
waits_listed g c false (free w s) = waits_away c.stance s

waits_idle : (g : List ℕ) (c : Cell) (u s : Bool) → Fits g c (cond u Owning (listed s)) → Waits false c.stance
waits_idle g c true s (keeping w k) = waits_keeping g c.stance k
waits_idle g c false s f = waits_listed g c s f

waits_collecting : (g : List ℕ) (c : Cell) (u l s : Bool) → Fits g c (cond u (Served true s) (cond l Invalidated (cond s Answered Free))) → Waits u c.stance
waits_collecting g c true l s (serving own sharer w k) = waits_promised g _ c.stance k
waits_collecting g c false true s (to_invalidate w k) = waits_sharing g c.stance k
waits_collecting g c false true s (invalidated w k) = waits_bare c.stance k
waits_collecting g c false false true (answered w k) = waits_bare c.stance k
waits_collecting g c false false false (free w k) = waits_away c.stance k

waits_recalled : (g : List ℕ) (c : Cell) (own : Bool) → Fits g c (Recalled own) → Waits false c.stance
waits_recalled g c own (to_recall _ w k) = waits_keeping g c.stance k
waits_recalled g c _ (recalled_kept w k) = waits_sharing g c.stance k
waits_recalled g c own (recalled _ w k) = waits_away c.stance k

waits_recalling : (g : List ℕ) (c : Cell) (own u v s : Bool) → (u ≡ true → v ≡ false) → Fits g c (cond u (Recalled own) (cond v (Served own s) (listed s))) → Waits v c.stance
waits_recalling g c own true true s apart f = absurd (true≢false (apart refl))
waits_recalling g c own true false s apart f = waits_recalled g c own f
waits_recalling g c own false true s apart (serving _ _ w k) = waits_promised g _ c.stance k
waits_recalling g c own false false s apart f = waits_listed g c s f

waits_granting : (g : List ℕ) (c : Cell) (own : Bool) (memory : List ℕ) (v s : Bool) → Fits g c (cond v (Granted own memory) (listed s)) → Waits (v && has_grant c.words) c.stance
waits_granting g c own memory true s (to_grant _ _ m w k) = subst (λ b. Waits b c.stance) (sym (ap has_grant w)) (waits_promised g own c.stance k)
waits_granting g c _ memory true s (granted_owned _ w k) = subst (λ b. Waits b c.stance) (sym (ap has_grant w)) (waits_keeping g c.stance k)
waits_granting g c _ memory true s (granted_shared _ m w k) = subst (λ b. Waits b c.stance) (sym (ap has_grant w)) (waits_sharing g c.stance k)
waits_granting g c own memory false s f = waits_listed g c s f

not_served : (q p x : ℕ) → (q == p) ≡ false → (q == x) ≡ true → (p == x) ≡ false
not_served q p x other is = by (p == x) refl
  where
    by : (t : Bool) → (p == x) ≡ t → (p == x) ≡ false
    by true e = absurd (eqb-false q p other (eqb-true q x is ∙ sym (eqb-true p x e)))
    by false e = e

waits_in : (n : ℕ) (g : List ℕ) (c : Cell) (phase : Phase) (owner : Option ℕ) (sharers : ℕ → Bool) (memory : List ℕ) (x : ℕ)
    → HomeFits n g (record { phase = phase; owner = owner; sharers = sharers; memory = memory }) phase owner
    → Fits g c (role (record { phase = phase; owner = owner; sharers = sharers; memory = memory }) x)
    → Waits (is_served_now phase x c.words) c.stance
waits_in n g c Idle owner sharers memory x fits f = waits_idle g c (is_owner owner x) (sharers x) f
waits_in n g c (Collecting p left) owner sharers memory x fits f = waits_collecting g c (p == x) (left x) (sharers x) f
waits_in n g c (Recalling q p own) None sharers memory x fits f = absurd fits
waits_in n g c (Recalling q p own) (Some o) sharers memory x fits f = waits_recalling g c own (q == x) (p == x) (sharers x) (not_served q p x fits.3) f
waits_in n g c (Granting p) owner sharers memory x fits f = waits_granting g c (is_some owner) memory (p == x) (sharers x) f

pub register_awaits : RegisterAwaitsLine
register_awaits n g l x co below = waits_in n g (l.at x) l.home.phase l.home.owner l.home.sharers l.home.memory x co.home (co.nodes x below)
