-- The order of the messages under way does not count: in a coherent line each node has at most one of a kind.
use Rattle.std.proofs.Common.{◌≡◌, ℕ, zero, suc, ◌≤◌, Bool, List, [], ◌∷◌, length, All, refl, sym, ap, subst, arith}
use Rattle.std.specs.List.Sorted.{IsPermutation}
use Rattle.std.proofs.lemmas.List.{nil_from_length}
use Rattle.std.proofs.lemmas.List.Sorted.{length_permutation, All-permutation}
use Rattle.memory_contracts.specs.Protocol.Messages.{Message}
use Rattle.memory_contracts.specs.Protocol.Lines.{Stance, Cell}
use Rattle.memory_contracts.specs.Protocol.Alike.{IsAlike}
use Rattle.memory_contracts.specs.Protocol.Roles.{Role, role}
use Rattle.memory_contracts.specs.Protocol.Coherent.{Fits, free, listing, to_invalidate, invalidated, answered, keeping, serving, to_recall, recalled_kept, recalled, to_grant, granted_owned, granted_shared, HomeFits, IsBare, at_rest, asking, IsAway, bare, emptied, noted, noted_empty, IsSharing, without, reading, upgrading, IsKeeping, owning, leaving, IsPromised, fresh, upgraded}
use Rattle.memory_contracts.specs.Protocol.Laws.{OrderIsFree}
use Rattle.memory_contracts.proofs.Protocol.Cells.{words_of, words_are}

-- ---- lists of at most one

all_one : (a : Message) → All (λ z. z ≡ a) (a ∷ [])
all_one a zero d below = refl
all_one a (suc k) d below = absurd (omega (arith, below))

single : (a : Message) (ys : List Message) → length ys ≡ 1 → All (λ z. z ≡ a) ys → a ∷ [] ≡ ys
single a [] one all = absurd (omega (arith, one))
single a (y ∷ []) one all = ap (λ z. z ∷ []) (sym (all 0 a (omega arith)))
single a (y ∷ z ∷ zs) one all = absurd (omega (arith, one))

few_same : (xs ys : List Message) → length xs ≤ 1 → IsPermutation xs ys → xs ≡ ys
few_same [] ys few p = sym (nil_from_length ys (length_permutation [] ys p))
few_same (a ∷ []) ys few p = single a ys (length_permutation (a ∷ []) ys p) (All-permutation (λ z. z ≡ a) (a ∷ []) ys p (all_one a))
few_same (a ∷ b ∷ xs) ys few p = absurd (omega (arith, few))

few : {ws vs : List Message} → ws ≡ vs → length vs ≤ 1 → length ws ≤ 1
few e known = subst (λ ws. length ws ≤ 1) (sym e) known

-- ---- the messages of a row

few_bare : (s : Stance) → IsBare s → length s.asked ≤ 1
few_bare s (at_rest e) = few (ap (λ s. s.asked) e) (omega arith)
few_bare s (asking own e) = few (ap (λ s. s.asked) e) (omega arith)

few_away : (s : Stance) → IsAway s → length s.asked ≤ 1
few_away s (bare b) = few_bare s b
few_away s (emptied bytes e) = few (ap (λ s. s.asked) e) (omega arith)
few_away s (noted bytes e) = few (ap (λ s. s.asked) e) (omega arith)
few_away s (noted_empty e) = few (ap (λ s. s.asked) e) (omega arith)

few_sharing : (g : List ℕ) (s : Stance) → IsSharing g s → length s.asked ≤ 1
few_sharing g s (without b) = few_bare s b
few_sharing g s (reading e) = few (ap (λ s. s.asked) e) (omega arith)
few_sharing g s (upgrading e) = few (ap (λ s. s.asked) e) (omega arith)

few_keeping : (g : List ℕ) (s : Stance) → IsKeeping g s → length s.asked ≤ 1
few_keeping g s (owning e) = few (ap (λ s. s.asked) e) (omega arith)
few_keeping g s (leaving e) = few (ap (λ s. s.asked) e) (omega arith)

few_promised : (g : List ℕ) (may : Bool) (s : Stance) → IsPromised g may s → length s.asked ≤ 1
few_promised g may s (fresh e) = few (ap (λ s. s.asked) e) (omega arith)
few_promised g _ s (upgraded e) = few (ap (λ s. s.asked) e) (omega arith)

few_asked : (g : List ℕ) (c : Cell) (r : Role) → Fits g c r → length c.stance.asked ≤ 1
few_asked g c _ (free w s) = few_away c.stance s
few_asked g c _ (listing w s) = few_sharing g c.stance s
few_asked g c _ (to_invalidate w s) = few_sharing g c.stance s
few_asked g c _ (invalidated w s) = few_bare c.stance s
few_asked g c _ (answered w s) = few_bare c.stance s
few_asked g c _ (keeping w s) = few_keeping g c.stance s
few_asked g c _ (serving own sharer w s) = few_promised g _ c.stance s
few_asked g c _ (to_recall own w s) = few_keeping g c.stance s
few_asked g c _ (recalled_kept w s) = few_sharing g c.stance s
few_asked g c _ (recalled own w s) = few_away c.stance s
few_asked g c _ (to_grant own memory m w s) = few_promised g _ c.stance s
few_asked g c _ (granted_owned memory w s) = few_keeping g c.stance s
few_asked g c _ (granted_shared memory m w s) = few_sharing g c.stance s

few_known : {g : List ℕ} {c : Cell} {r : Role} (f : Fits g c r) → length (words_of f) ≤ 1
few_known (free w s) = omega arith
few_known (listing w s) = omega arith
few_known (to_invalidate w s) = omega arith
few_known (invalidated w s) = omega arith
few_known (answered w s) = omega arith
few_known (keeping w s) = omega arith
few_known (serving own sharer w s) = omega arith
few_known (to_recall own w s) = omega arith
few_known (recalled_kept w s) = omega arith
few_known (recalled own w s) = omega arith
few_known (to_grant own memory m w s) = omega arith
few_known (granted_owned memory w s) = omega arith
few_known (granted_shared memory m w s) = omega arith

-- ---- a row, and the line

pub alike_same : (g : List ℕ) (c d : Cell) (r : Role) → IsAlike c d → Fits g c r → c ≡ d
alike_same g c d r alike f =
    let asked : c.stance.asked ≡ d.stance.asked = few_same c.stance.asked d.stance.asked (few_asked g c r f) alike.asked in
    let words : c.words ≡ d.words = few_same c.words d.words (few (words_are f) (few_known f)) alike.words in
    λ i. record { stance = record { copy = alike.copy i; register = alike.register i; asked = asked i; acks = alike.acks i }; words = words i }

pub alike_row : (g : List ℕ) (c d : Cell) (r : Role) → IsAlike c d → Fits g c r → Fits g d r
alike_row g c d r alike f = subst (λ e. Fits g e r) (alike_same g c d r alike f) f

pub order_free : OrderIsFree
order_free n g l k alike co = record {
  home = subst (λ h. HomeFits n g h h.phase h.owner) alike.home co.home;
  nodes = λ x below. subst (λ h. Fits g (k.at x) (role h x)) alike.home (alike_row g (l.at x) (k.at x) (role l.home x) (alike.nodes x below) (co.nodes x below));
}
