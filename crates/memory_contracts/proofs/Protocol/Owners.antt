-- A node with an owned copy is alone with the line, so that a write concerns no other node.
use Rattle.std.proofs.Common.{◌≡◌, ℕ, ◌<◌, Bool, true, false, cond, ◌==◌, eqb, List, Option, None, Some, refl, sym, ap, ◌∙◌, true≢false}
use Rattle.std.proofs.lemmas.Bool.{eqb-true}
use Rattle.memory_contracts.specs.Protocol.Lines.{Phase, Idle, Collecting, Recalling, Granting, HomeRecord, Copy, Owned, Stance, Cell, cell}
use Rattle.memory_contracts.specs.Protocol.NodeTable.{after_write, is_held}
use Rattle.memory_contracts.specs.Protocol.Roles.{Role, Free, Invalidated, Answered, Owning, Served, Recalled, Granted, listed, role}
use Rattle.memory_contracts.specs.Protocol.Coherent.{Fits, free, listing, to_invalidate, invalidated, answered, keeping, serving, to_recall, recalled_kept, recalled, to_grant, granted_owned, granted_shared, HomeFits, IsBare, at_rest, asking, IsAway, bare, emptied, noted, noted_empty, IsSharing, without, reading, upgrading, IsKeeping, owning, leaving, IsPromised, fresh, upgraded}
use Rattle.memory_contracts.specs.Protocol.Content.{bytes_of}
use Rattle.memory_contracts.proofs.Protocol.Cells.{differ, copy_kind}

-- ---- the rows with an owned copy

-- a stance with another copy
pub copied_other : {A : Type 0} {s t : Stance} {k : Copy} (a b : ℕ) → s.copy ≡ k → s ≡ t → copy_kind k ≡ a → copy_kind t.copy ≡ b → eqb a b ≡ false → A
copied_other a b has e is_a is_b test = differ a b test (sym is_a ∙ sym (ap copy_kind has) ∙ ap (λ u. copy_kind u.copy) e ∙ is_b)

module _ (s : Stance) (bytes : List ℕ) (has : s.copy ≡ Owned bytes) where
  no_bare : {A : Type 0} → IsBare s → A
  no_bare (at_rest e) = copied_other 2 0 has e refl refl refl
  no_bare (asking own e) = copied_other 2 0 has e refl refl refl

  no_away : {A : Type 0} → IsAway s → A
  no_away (bare b) = no_bare b
  no_away (emptied b e) = copied_other 2 4 has e refl refl refl
  no_away (noted b e) = copied_other 2 3 has e refl refl refl
  no_away (noted_empty e) = copied_other 2 4 has e refl refl refl

  no_sharing : {A : Type 0} (g : List ℕ) → IsSharing g s → A
  no_sharing g (without b) = no_bare b
  no_sharing g (reading e) = copied_other 2 1 has e refl refl refl
  no_sharing g (upgrading e) = copied_other 2 1 has e refl refl refl

  no_promised : {A : Type 0} (g : List ℕ) (may : Bool) → IsPromised g may s → A
  no_promised g may (fresh e) = copied_other 2 0 has e refl refl refl
  no_promised g _ (upgraded e) = copied_other 2 1 has e refl refl refl

  written : (g f : List ℕ) → IsKeeping g s → IsKeeping f (after_write f s)
  written g f (owning e) = owning (ap (after_write f) e)
  written g f (leaving e) = copied_other 2 3 has e refl refl refl

-- whether a node of this role may have an owned copy
abbrev pub may_own : Role → Bool
may_own Owning = true
may_own (Recalled own) = true
may_own (Granted own memory) = own
may_own r = false

pub owned_row : (g : List ℕ) (c : Cell) (bytes : List ℕ) (r : Role) → c.stance.copy ≡ Owned bytes → Fits g c r → may_own r ≡ true
owned_row g c bytes _ has (keeping w s) = refl
owned_row g c bytes _ has (to_recall own w s) = refl
owned_row g c bytes _ has (granted_owned memory w s) = refl
owned_row g c bytes _ has (recalled_kept w s) = refl
owned_row g c bytes _ has (recalled own w s) = refl
owned_row g c bytes _ has (free w s) = no_away c.stance bytes has s
owned_row g c bytes _ has (listing w s) = no_sharing c.stance bytes has g s
owned_row g c bytes _ has (to_invalidate w s) = no_sharing c.stance bytes has g s
owned_row g c bytes _ has (invalidated w s) = no_bare c.stance bytes has s
owned_row g c bytes _ has (answered w s) = no_bare c.stance bytes has s
owned_row g c bytes _ has (serving own sharer w s) = no_promised c.stance bytes has g _ s
owned_row g c bytes _ has (to_grant own memory m w s) = no_promised c.stance bytes has g _ s
owned_row g c bytes _ has (granted_shared memory m w s) = no_sharing c.stance bytes has g s

-- after a write the row has the new content
pub written_row : (g f : List ℕ) (c : Cell) (bytes : List ℕ) (r : Role) → c.stance.copy ≡ Owned bytes → Fits g c r → Fits f (cell (after_write f c.stance) c.words) r
written_row g f c bytes _ has (keeping w s) = keeping w (written c.stance bytes has g f s)
written_row g f c bytes _ has (to_recall own w s) = to_recall own w (written c.stance bytes has g f s)
written_row g f c bytes _ has (granted_owned memory w s) = granted_owned memory w (written c.stance bytes has g f s)
written_row g f c bytes _ has (recalled_kept w s) = no_sharing c.stance bytes has g s
written_row g f c bytes _ has (recalled own w s) = no_away c.stance bytes has s
written_row g f c bytes _ has (free w s) = no_away c.stance bytes has s
written_row g f c bytes _ has (listing w s) = no_sharing c.stance bytes has g s
written_row g f c bytes _ has (to_invalidate w s) = no_sharing c.stance bytes has g s
written_row g f c bytes _ has (invalidated w s) = no_bare c.stance bytes has s
written_row g f c bytes _ has (answered w s) = no_bare c.stance bytes has s
written_row g f c bytes _ has (serving own sharer w s) = no_promised c.stance bytes has g _ s
written_row g f c bytes _ has (to_grant own memory m w s) = no_promised c.stance bytes has g _ s
written_row g f c bytes _ has (granted_shared memory m w s) = no_sharing c.stance bytes has g s

-- an owned copy has the content
keeping_content : (g : List ℕ) (s : Stance) (bytes : List ℕ) → s.copy ≡ Owned bytes → IsKeeping g s → bytes ≡ g
keeping_content g s bytes has (owning e) = ap bytes_of (sym has ∙ ap (λ s. s.copy) e)
keeping_content g s bytes has (leaving e) = copied_other 2 3 has e refl refl refl

pub owned_content : (g : List ℕ) (c : Cell) (bytes : List ℕ) (r : Role) → c.stance.copy ≡ Owned bytes → Fits g c r → bytes ≡ g
owned_content g c bytes _ has (keeping w s) = keeping_content g c.stance bytes has s
owned_content g c bytes _ has (to_recall own w s) = keeping_content g c.stance bytes has s
owned_content g c bytes _ has (granted_owned memory w s) = keeping_content g c.stance bytes has s
owned_content g c bytes _ has (recalled_kept w s) = no_sharing c.stance bytes has g s
owned_content g c bytes _ has (recalled own w s) = no_away c.stance bytes has s
owned_content g c bytes _ has (free w s) = no_away c.stance bytes has s
owned_content g c bytes _ has (listing w s) = no_sharing c.stance bytes has g s
owned_content g c bytes _ has (to_invalidate w s) = no_sharing c.stance bytes has g s
owned_content g c bytes _ has (invalidated w s) = no_bare c.stance bytes has s
owned_content g c bytes _ has (answered w s) = no_bare c.stance bytes has s
owned_content g c bytes _ has (serving own sharer w s) = no_promised c.stance bytes has g _ s
owned_content g c bytes _ has (to_grant own memory m w s) = no_promised c.stance bytes has g _ s
owned_content g c bytes _ has (granted_shared memory m w s) = no_sharing c.stance bytes has g s

-- ---- all others

-- a role whose rows say nothing of the content, nor allow a copy that may be read
pub data IsOutside : Role → Type 0 where
  is_free : IsOutside Free
  is_served : (own : Bool) → IsOutside (Served own false)

pub outside_row : (g f : List ℕ) (c : Cell) (r : Role) → IsOutside r → Fits g c r → Fits f c r
outside_row g f c _ is_free (free w s) = free w s
outside_row g f c _ (is_served own) (serving _ _ w (fresh e)) = serving own false w (fresh e)

pub outside_not_held : (g : List ℕ) (c : Cell) (r : Role) → IsOutside r → Fits g c r → is_held c.stance.copy ≡ false
outside_not_held g c _ is_free (free w (bare (at_rest e))) = ap (λ s. is_held s.copy) e
outside_not_held g c _ is_free (free w (bare (asking own e))) = ap (λ s. is_held s.copy) e
outside_not_held g c _ is_free (free w (emptied b e)) = ap (λ s. is_held s.copy) e
outside_not_held g c _ is_free (free w (noted b e)) = ap (λ s. is_held s.copy) e
outside_not_held g c _ is_free (free w (noted_empty e)) = ap (λ s. is_held s.copy) e
outside_not_held g c _ (is_served own) (serving _ _ w (fresh e)) = ap (λ s. is_held s.copy) e

idle_outside : (u s : Bool) → u ≡ false → s ≡ false → IsOutside (cond u Owning (listed s))
idle_outside true s no_u no_s = absurd (true≢false no_u)
idle_outside false true no_u no_s = absurd (true≢false no_s)
idle_outside false false no_u no_s = is_free

recalling_outside : (own u v s : Bool) → u ≡ false → s ≡ false → IsOutside (cond u (Recalled own) (cond v (Served own s) (listed s)))
recalling_outside own true v s no_u no_s = absurd (true≢false no_u)
recalling_outside own false v true no_u no_s = absurd (true≢false no_s)
recalling_outside own false true false no_u no_s = is_served own
recalling_outside own false false false no_u no_s = is_free

granting_outside : (memory : List ℕ) (v s : Bool) → v ≡ false → s ≡ false → IsOutside (cond v (Granted true memory) (listed s))
granting_outside memory true s no_v no_s = absurd (true≢false no_v)
granting_outside memory false true no_v no_s = absurd (true≢false no_s)
granting_outside memory false false no_v no_s = is_free

-- ---- the node that may have an owned copy

idle_owner : (u s : Bool) → may_own (cond u Owning (listed s)) ≡ true → u ≡ true
idle_owner true s may = refl
idle_owner false true may = may
idle_owner false false may = may

recalled_owner : (own u v s : Bool) → may_own (cond u (Recalled own) (cond v (Served own s) (listed s))) ≡ true → u ≡ true
recalled_owner own true v s may = refl
recalled_owner own false true s may = may
recalled_owner own false false true may = may
recalled_owner own false false false may = may

granted_owner : (own : Bool) (memory : List ℕ) (v s : Bool) → may_own (cond v (Granted own memory) (listed s)) ≡ true → (v ≡ true) × (own ≡ true)
granted_owner own memory true s may = (refl, may)
granted_owner own memory false true may = absurd (true≢false (sym may))
granted_owner own memory false false may = absurd (true≢false (sym may))

no_owner_collecting : (u l s : Bool) → may_own (cond u (Served true s) (cond l Invalidated (cond s Answered Free))) ≡ true → ⊥
no_owner_collecting true l s may = true≢false (sym may)
no_owner_collecting false true s may = true≢false (sym may)
no_owner_collecting false false true may = true≢false (sym may)
no_owner_collecting false false false may = true≢false (sym may)

-- node x may have an owned copy: nobody else has one that may be read, the home has noted it, and its part says nothing of
-- the content
pub record IsAlone (n : ℕ) (h : HomeRecord) (x : ℕ) : Type 0 where
  pub others : (y : ℕ) → y < n → (x == y) ≡ false → IsOutside (role h y)
  pub owner : h.owner ≡ Some x
  pub home : (f : List ℕ) → HomeFits n f h h.phase h.owner

abbrev recorded : Phase → Option ℕ → (ℕ → Bool) → List ℕ → HomeRecord
recorded phase owner sharers memory = record { phase = phase; owner = owner; sharers = sharers; memory = memory }

moved : (q x y : ℕ) → (q == x) ≡ true → (x == y) ≡ false → (q == y) ≡ false
moved q x y is other = ap (λ z. z == y) (eqb-true q x is) ∙ other

alone_in : (n : ℕ) (g : List ℕ) (phase : Phase) (owner : Option ℕ) (sharers : ℕ → Bool) (memory : List ℕ) (x : ℕ)
    → HomeFits n g (recorded phase owner sharers memory) phase owner
    → may_own (role (recorded phase owner sharers memory) x) ≡ true
    → IsAlone n (recorded phase owner sharers memory) x
alone_in n g Idle None sharers memory x fits may = absurd (true≢false (sym (idle_owner false (sharers x) may)))
alone_in n g Idle (Some q) sharers memory x fits may = record {
  others = λ y known other. idle_outside (q == y) (sharers y) (moved q x y (idle_owner (q == x) (sharers x) may) other) (fits.1 y known);
  owner = ap Some (eqb-true q x (idle_owner (q == x) (sharers x) may));
  home = λ f. fits;
}
alone_in n g (Collecting p left) None sharers memory x fits may = absurd (no_owner_collecting (p == x) (left x) (sharers x) may)
alone_in n g (Collecting p left) (Some o) sharers memory x fits may = absurd fits
alone_in n g (Recalling q p own) None sharers memory x fits may = absurd fits
alone_in n g (Recalling q p own) (Some o) sharers memory x fits may = record {
  others = λ y known other. recalling_outside own (q == y) (p == y) (sharers y) (moved q x y (recalled_owner own (q == x) (p == x) (sharers x) may) other) (fits.4 y known);
  owner = ap Some (fits.2 ∙ eqb-true q x (recalled_owner own (q == x) (p == x) (sharers x) may));
  home = λ f. fits;
}
alone_in n g (Granting p) None sharers memory x fits may = absurd (true≢false (sym ((granted_owner false memory (p == x) (sharers x) may).1)))
alone_in n g (Granting p) (Some o) sharers memory x fits may = record {
  others = λ y known other. granting_outside memory (p == y) (sharers y) (moved p x y ((granted_owner true memory (p == x) (sharers x) may).0) other) (fits.2 y known);
  owner = ap Some (fits.1 ∙ eqb-true p x ((granted_owner true memory (p == x) (sharers x) may).0));
  home = λ f. fits;
}

pub alone : (n : ℕ) (g : List ℕ) (h : HomeRecord) (x : ℕ) → HomeFits n g h h.phase h.owner → may_own (role h x) ≡ true → IsAlone n h x
alone n g h x fits may = alone_in n g h.phase h.owner h.sharers h.memory x fits may
