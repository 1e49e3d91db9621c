-- What may be relied on where a line is coherent.
use Rattle.std.proofs.Common.{◌≡◌, ℕ, ◌+◌, ◌≤◌, Bool, true, false, cond, ◌==◌, ◌⊎◌, inl, inr, List, [], ◌∷◌, Option, None, Some, refl, sym, ap, ◌∙◌, subst, true≢false, arith}
use Rattle.std.proofs.lemmas.Bool.{eqb-true, eq-eqb}
use Rattle.memory_contracts.specs.Protocol.Promised.{promised_waits}
use Rattle.memory_contracts.specs.Protocol.Messages.{Message, Recall, Grant, RecallAck, Done}
use Rattle.memory_contracts.specs.Protocol.Lines.{Phase, Idle, Collecting, Recalling, Granting, Shared, Stance, Cell, LineState}
use Rattle.memory_contracts.specs.Protocol.Roles.{Role, Owning, Served, Recalled, Granted, listed, role}
use Rattle.memory_contracts.specs.Protocol.Coherent.{Fits, free, listing, to_invalidate, invalidated, answered, keeping, serving, to_recall, recalled_kept, recalled, to_grant, granted_owned, granted_shared, Coherent, IsBare, at_rest, asking, IsAway, bare, emptied, noted, noted_empty, IsSharing, without, reading, upgrading, IsKeeping, owning, leaving, IsPromised, fresh, upgraded}
use Rattle.memory_contracts.specs.Protocol.Content.{bytes_of, called_back, given, current, StandsIn, count_to_node, from_home}
use Rattle.memory_contracts.specs.Protocol.Laws.{CurrentIsContent, ContentStands, SharedHasContent, OwnedHasContent, OwnedIsAlone, OwnedIsNoted, OneFromHome, GrantsAreAwaited}
use Rattle.memory_contracts.proofs.Protocol.Cells.{kind, foreign}
use Rattle.memory_contracts.proofs.Protocol.Owners.{copied_other, IsAlone, alone, owned_row, owned_content, outside_not_held}

-- ---- the content

keeping_bytes : (g : List ℕ) (s : Stance) → IsKeeping g s → bytes_of s.copy ≡ g
keeping_bytes g s (owning e) = ap (λ s. bytes_of s.copy) e
keeping_bytes g s (leaving e) = ap (λ s. bytes_of s.copy) e

recalled_bytes : (g : List ℕ) (c : Cell) (own : Bool) → Fits g c (Recalled own) → called_back c.words c.stance.copy ≡ g
recalled_bytes g c own (to_recall _ w s) = ap (λ ws. called_back ws c.stance.copy) w ∙ keeping_bytes g c.stance s
recalled_bytes g c _ (recalled_kept w s) = ap (λ ws. called_back ws c.stance.copy) w
recalled_bytes g c own (recalled _ w s) = ap (λ ws. called_back ws c.stance.copy) w

granted_bytes : (g : List ℕ) (c : Cell) (memory : List ℕ) → Fits g c (Granted true memory) → given c.words c.stance.copy memory ≡ g
granted_bytes g c memory (to_grant _ _ m w s) = ap (λ ws. given ws c.stance.copy memory) w ∙ m
granted_bytes g c memory (granted_owned _ w s) = ap (λ ws. given ws c.stance.copy memory) w ∙ keeping_bytes g c.stance s

owner_bytes : (g : List ℕ) (c : Cell) → Fits g c Owning → bytes_of c.stance.copy ≡ g
owner_bytes g c (keeping w s) = keeping_bytes g c.stance s

same : (x : ℕ) → (x == x) ≡ true
same x = eq-eqb x x refl

module _ (n : ℕ) (g : List ℕ) (at : ℕ → Cell) (sharers : ℕ → Bool) (memory : List ℕ) where
  abbrev line : Phase → Option ℕ → LineState
  line phase owner = record { home = record { phase = phase; owner = owner; sharers = sharers; memory = memory }; at = at }

  pub content_in : (phase : Phase) (owner : Option ℕ) → Coherent n g (line phase owner) → current (line phase owner) ≡ g
  content_in Idle None co = co.home
  content_in Idle (Some q) co =
      owner_bytes g (at q) (subst (λ t. Fits g (at q) (cond t Owning (listed (sharers q)))) (same q) (co.nodes q co.home.0))
  content_in (Collecting p left) None co = co.home.1
  content_in (Collecting p left) (Some o) co = absurd co.home
  content_in (Recalling q p own) None co = absurd co.home
  content_in (Recalling q p own) (Some o) co =
      recalled_bytes g (at q) own (subst (λ t. Fits g (at q) (cond t (Recalled own) (cond (p == q) (Served own (sharers q)) (listed (sharers q))))) (same q) (co.nodes q co.home.0))
  content_in (Granting p) None co = co.home.1
  content_in (Granting p) (Some o) co =
      granted_bytes g (at p) memory (subst (λ t. Fits g (at p) (cond t (Granted true memory) (listed (sharers p)))) (same p) (co.nodes p co.home.0))

pub current_is : CurrentIsContent
current_is n g l co = content_in n g l.at l.home.sharers l.home.memory l.home.phase l.home.owner co

-- ---- where the content stands

owner_stands : (g : List ℕ) (c : Cell) → Fits g c Owning → IsKeeping g c.stance
owner_stands g c (keeping w s) = s

recalled_stands : (g : List ℕ) (c : Cell) (own : Bool) → Fits g c (Recalled own) → ((c.words ≡ Recall own ∷ []) × IsKeeping g c.stance) ⊎ ((kept : Bool) × (c.words ≡ RecallAck kept g ∷ []))
recalled_stands g c own (to_recall _ w s) = inl (w, s)
recalled_stands g c _ (recalled_kept w s) = inr (true, w)
recalled_stands g c own (recalled _ w s) = inr (false, w)

shared_stands : (g : List ℕ) (c : Cell) (memory : List ℕ) → Fits g c (Granted false memory) → (c.words ≡ Grant false g ∷ []) ⊎ (c.words ≡ Done ∷ [])
shared_stands g c memory (to_grant _ _ m w s) = inl w
shared_stands g c memory (granted_shared _ m w s) = inr w

owned_stands : (g : List ℕ) (c : Cell) (memory : List ℕ) → Fits g c (Granted true memory) → ((memory ≡ g) × (c.words ≡ Grant true g ∷ [])) ⊎ ((c.words ≡ Done ∷ []) × IsKeeping g c.stance)
owned_stands g c memory (to_grant _ _ m w s) = inl (m, w)
owned_stands g c memory (granted_owned _ w s) = inr (w, s)

module _ (n : ℕ) (g : List ℕ) (at : ℕ → Cell) (sharers : ℕ → Bool) (memory : List ℕ) where
  abbrev line' : Phase → Option ℕ → LineState
  line' phase owner = record { home = record { phase = phase; owner = owner; sharers = sharers; memory = memory }; at = at }

  pub stands_in : (phase : Phase) (owner : Option ℕ) → Coherent n g (line' phase owner) → StandsIn g (line' phase owner) phase owner
  stands_in Idle None co = co.home
  stands_in Idle (Some q) co =
      owner_stands g (at q) (subst (λ t. Fits g (at q) (cond t Owning (listed (sharers q)))) (same q) (co.nodes q co.home.0))
  stands_in (Collecting p left) None co = co.home.1
  stands_in (Collecting p left) (Some o) co = absurd co.home
  stands_in (Recalling q p own) None co = absurd co.home
  stands_in (Recalling q p own) (Some o) co =
      recalled_stands g (at q) own (subst (λ t. Fits g (at q) (cond t (Recalled own) (cond (p == q) (Served own (sharers q)) (listed (sharers q))))) (same q) (co.nodes q co.home.0))
  stands_in (Granting p) None co =
      (co.home.1, shared_stands g (at p) memory (subst (λ t. Fits g (at p) (cond t (Granted false memory) (listed (sharers p)))) (same p) (co.nodes p co.home.0)))
  stands_in (Granting p) (Some o) co =
      owned_stands g (at p) memory (subst (λ t. Fits g (at p) (cond t (Granted true memory) (listed (sharers p)))) (same p) (co.nodes p co.home.0))

pub content_stands : ContentStands
content_stands n g l co = stands_in n g l.at l.home.sharers l.home.memory l.home.phase l.home.owner co

-- ---- copies

module _ (s : Stance) (bytes : List ℕ) (has : s.copy ≡ Shared bytes) where
  no_bare : {A : Type 0} → IsBare s → A
  no_bare (at_rest e) = copied_other 1 0 has e refl refl refl
  no_bare (asking own e) = copied_other 1 0 has e refl refl refl

  no_away : {A : Type 0} → IsAway s → A
  no_away (bare b) = no_bare b
  no_away (emptied b e) = copied_other 1 4 has e refl refl refl
  no_away (noted b e) = copied_other 1 3 has e refl refl refl
  no_away (noted_empty e) = copied_other 1 4 has e refl refl refl

  no_keeping : {A : Type 0} (g : List ℕ) → IsKeeping g s → A
  no_keeping g (owning e) = copied_other 1 2 has e refl refl refl
  no_keeping g (leaving e) = copied_other 1 3 has e refl refl refl

  sharing_content : (g : List ℕ) → IsSharing g s → bytes ≡ g
  sharing_content g (without b) = no_bare b
  sharing_content g (reading e) = ap bytes_of (sym has ∙ ap (λ s. s.copy) e)
  sharing_content g (upgrading e) = ap bytes_of (sym has ∙ ap (λ s. s.copy) e)

  promised_content : (g : List ℕ) (may : Bool) → IsPromised g may s → bytes ≡ g
  promised_content g may (fresh e) = copied_other 1 0 has e refl refl refl
  promised_content g _ (upgraded e) = ap bytes_of (sym has ∙ ap (λ s. s.copy) e)

shared_row : (g : List ℕ) (c : Cell) (bytes : List ℕ) (r : Role) → c.stance.copy ≡ Shared bytes → Fits g c r → bytes ≡ g
shared_row g c bytes _ has (free w s) = no_away c.stance bytes has s
shared_row g c bytes _ has (listing w s) = sharing_content c.stance bytes has g s
shared_row g c bytes _ has (to_invalidate w s) = sharing_content c.stance bytes has g s
shared_row g c bytes _ has (invalidated w s) = no_bare c.stance bytes has s
shared_row g c bytes _ has (answered w s) = no_bare c.stance bytes has s
shared_row g c bytes _ has (keeping w s) = no_keeping c.stance bytes has g s
shared_row g c bytes _ has (serving own sharer w s) = promised_content c.stance bytes has g _ s
shared_row g c bytes _ has (to_recall own w s) = no_keeping c.stance bytes has g s
shared_row g c bytes _ has (recalled_kept w s) = sharing_content c.stance bytes has g s
shared_row g c bytes _ has (recalled own w s) = no_away c.stance bytes has s
shared_row g c bytes _ has (to_grant own memory m w s) = promised_content c.stance bytes has g _ s
shared_row g c bytes _ has (granted_owned memory w s) = no_keeping c.stance bytes has g s
shared_row g c bytes _ has (granted_shared memory m w s) = sharing_content c.stance bytes has g s

pub shared_is : SharedHasContent
shared_is n g bytes l x co below has = shared_row g (l.at x) bytes (role l.home x) has (co.nodes x below)

pub owned_is : OwnedHasContent
owned_is n g bytes l x co below has = owned_content g (l.at x) bytes (role l.home x) has (co.nodes x below)

pub owned_alone : OwnedIsAlone
owned_alone n g bytes l x y co below known has held = by (x == y) refl
  where
    lone : IsAlone n l.home x
    lone = alone n g l.home x co.home (owned_row g (l.at x) bytes (role l.home x) has (co.nodes x below))

    by : (t : Bool) → (x == y) ≡ t → y ≡ x
    by true is = sym (eqb-true x y is)
    by false other = absurd (true≢false (sym held ∙ outside_not_held g (l.at y) (role l.home y) (lone.others y known other) (co.nodes y known)))

pub owned_noted : OwnedIsNoted
owned_noted n g bytes l x co below has =
    let lone : IsAlone n l.home x = alone n g l.home x co.home (owned_row g (l.at x) bytes (role l.home x) has (co.nodes x below)) in
    lone.owner

-- ---- messages

bare_acks : (s : Stance) → IsBare s → s.acks ≡ 0
bare_acks s (at_rest e) = ap (λ s. s.acks) e
bare_acks s (asking own e) = ap (λ s. s.acks) e

away_acks : (s : Stance) → IsAway s → s.acks ≤ 1
away_acks s (bare b) = let e = bare_acks s b in omega (arith, e)
away_acks s (emptied bytes e) = let a : s.acks ≡ 0 = ap (λ s. s.acks) e in omega (arith, a)
away_acks s (noted bytes e) = let a : s.acks ≡ 1 = ap (λ s. s.acks) e in omega (arith, a)
away_acks s (noted_empty e) = let a : s.acks ≡ 1 = ap (λ s. s.acks) e in omega (arith, a)

sharing_acks : (g : List ℕ) (s : Stance) → IsSharing g s → s.acks ≡ 0
sharing_acks g s (without b) = bare_acks s b
sharing_acks g s (reading e) = ap (λ s. s.acks) e
sharing_acks g s (upgrading e) = ap (λ s. s.acks) e

keeping_acks : (g : List ℕ) (s : Stance) → IsKeeping g s → s.acks ≡ 0
keeping_acks g s (owning e) = ap (λ s. s.acks) e
keeping_acks g s (leaving e) = ap (λ s. s.acks) e

promised_acks : (g : List ℕ) (may : Bool) (s : Stance) → IsPromised g may s → s.acks ≡ 0
promised_acks g may s (fresh e) = ap (λ s. s.acks) e
promised_acks g _ s (upgraded e) = ap (λ s. s.acks) e

-- a word, and no answer
word_alone : (ws : List Message) (k : ℕ) (acks : ℕ) → count_to_node ws ≡ k → k ≤ 1 → acks ≡ 0 → count_to_node ws + acks ≤ 1
word_alone ws k acks e few none = omega (arith, e, few, none)

-- an answer, and no word
ack_alone : (ws : List Message) (acks : ℕ) → count_to_node ws ≡ 0 → acks ≤ 1 → count_to_node ws + acks ≤ 1
ack_alone ws acks e few = omega (arith, e, few)

one_row : (g : List ℕ) (c : Cell) (r : Role) → Fits g c r → from_home c ≤ 1
one_row g c _ (free w s) = ack_alone c.words c.stance.acks (ap count_to_node w) (away_acks c.stance s)
one_row g c _ (listing w s) = word_alone c.words 0 c.stance.acks (ap count_to_node w) (omega arith) (sharing_acks g c.stance s)
one_row g c _ (to_invalidate w s) = word_alone c.words 1 c.stance.acks (ap count_to_node w) (omega arith) (sharing_acks g c.stance s)
one_row g c _ (invalidated w s) = word_alone c.words 0 c.stance.acks (ap count_to_node w) (omega arith) (bare_acks c.stance s)
one_row g c _ (answered w s) = word_alone c.words 0 c.stance.acks (ap count_to_node w) (omega arith) (bare_acks c.stance s)
one_row g c _ (keeping w s) = word_alone c.words 0 c.stance.acks (ap count_to_node w) (omega arith) (keeping_acks g c.stance s)
one_row g c _ (serving own sharer w s) = word_alone c.words 0 c.stance.acks (ap count_to_node w) (omega arith) (promised_acks g _ c.stance s)
one_row g c _ (to_recall own w s) = word_alone c.words 1 c.stance.acks (ap count_to_node w) (omega arith) (keeping_acks g c.stance s)
one_row g c _ (recalled_kept w s) = word_alone c.words 0 c.stance.acks (ap count_to_node w) (omega arith) (sharing_acks g c.stance s)
one_row g c _ (recalled own w s) = ack_alone c.words c.stance.acks (ap count_to_node w) (away_acks c.stance s)
one_row g c _ (to_grant own memory m w s) = word_alone c.words 1 c.stance.acks (ap count_to_node w) (omega arith) (promised_acks g _ c.stance s)
one_row g c _ (granted_owned memory w s) = word_alone c.words 0 c.stance.acks (ap count_to_node w) (omega arith) (keeping_acks g c.stance s)
one_row g c _ (granted_shared memory m w s) = word_alone c.words 0 c.stance.acks (ap count_to_node w) (omega arith) (sharing_acks g c.stance s)

pub one_from_home : OneFromHome
one_from_home n g l x co below = one_row g (l.at x) (role l.home x) (co.nodes x below)

abbrev bytes_granted : List Message → List ℕ
bytes_granted (Grant own bytes ∷ ms) = bytes
bytes_granted ms = []

grant_row : (g : List ℕ) (c : Cell) (own : Bool) (bytes : List ℕ) (r : Role) → c.words ≡ Grant own bytes ∷ [] → Fits g c r → (c.stance.register ≡ true) × (bytes ≡ g)
grant_row g c own bytes _ is (to_grant _ memory m w s) = (promised_waits g _ c.stance s, ap bytes_granted (sym is ∙ w))
grant_row g c own bytes r is f = foreign f 6 (ap kind is) refl

pub grants_awaited : GrantsAreAwaited
grants_awaited n g bytes own l x co below is = grant_row g (l.at x) own bytes (role l.home x) is (co.nodes x below)
