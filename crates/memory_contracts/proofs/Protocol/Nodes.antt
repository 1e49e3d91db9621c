-- The events of a node keep its row.
use Rattle.std.proofs.Common.{◌≡◌, ℕ, pred, Bool, true, false, List, [], ◌∷◌, refl, sym, ap, ◌∙◌, subst, true≢false, suc-ne-zero}
use Rattle.memory_contracts.specs.Protocol.Messages.{Message, Inv, Recall, Grant, PutAck, RecallAck}
use Rattle.memory_contracts.specs.Protocol.Lines.{Copy, Absent, Owned, Evicting, Emptied, Stance, stance, Cell, cell, mailed}
use Rattle.memory_contracts.specs.Protocol.NodeTable.{after_message, after_start, after_eviction, may_start}
use Rattle.memory_contracts.specs.Protocol.Roles.{Role, Free, Invalidated, Recalled, Granted}
use Rattle.memory_contracts.specs.Protocol.Coherent.{Fits, free, listing, to_invalidate, invalidated, answered, keeping, serving, to_recall, recalled_kept, recalled, to_grant, granted_owned, granted_shared, IsBare, at_rest, asking, IsAway, bare, emptied, noted, noted_empty, IsSharing, without, reading, upgrading, IsKeeping, owning, leaving, IsPromised, fresh, upgraded}
use Rattle.memory_contracts.specs.Protocol.Events.{is_to_node}
use Rattle.memory_contracts.proofs.Protocol.Cells.{at_cell, first, others, foreign, KeepsClasses}

-- ---- an order to give up a shared copy

inv_sharing : (g : List ℕ) (c : Cell) → c.words ≡ [] → IsSharing g c.stance → Fits g (after_message Inv c) Invalidated
inv_sharing g c w (without (at_rest e)) = at_cell (λ d. Fits g (after_message Inv d) Invalidated) c e w (invalidated refl (at_rest refl))
inv_sharing g c w (without (asking own e)) = at_cell (λ d. Fits g (after_message Inv d) Invalidated) c e w (invalidated refl (asking own refl))
inv_sharing g c w (reading e) = at_cell (λ d. Fits g (after_message Inv d) Invalidated) c e w (invalidated refl (at_rest refl))
inv_sharing g c w (upgrading e) = at_cell (λ d. Fits g (after_message Inv d) Invalidated) c e w (invalidated refl (asking true refl))

inv_keeps : (g : List ℕ) (c : Cell) (r : Role) → Fits g (mailed Inv c) r → Fits g (after_message Inv c) r
inv_keeps g c _ (to_invalidate w s) = inv_sharing g c (ap others w) s
inv_keeps g c r f = foreign f 4 refl refl

-- ---- an order to give back the line

recall_keeping : (g : List ℕ) (c : Cell) (own : Bool) → c.words ≡ [] → IsKeeping g c.stance → Fits g (after_message (Recall own) c) (Recalled own)
recall_keeping g c false w (owning e) = at_cell (λ d. Fits g (after_message (Recall false) d) (Recalled false)) c e w (recalled_kept refl (reading refl))
recall_keeping g c true w (owning e) = at_cell (λ d. Fits g (after_message (Recall true) d) (Recalled true)) c e w (recalled true refl (bare (at_rest refl)))
recall_keeping g c false w (leaving e) = at_cell (λ d. Fits g (after_message (Recall false) d) (Recalled false)) c e w (recalled false refl (emptied g refl))
recall_keeping g c true w (leaving e) = at_cell (λ d. Fits g (after_message (Recall true) d) (Recalled true)) c e w (recalled true refl (emptied g refl))

recall_keeps : (g : List ℕ) (c : Cell) (own : Bool) (r : Role) → Fits g (mailed (Recall own) c) r → Fits g (after_message (Recall own) c) r
recall_keeps g c own _ (to_recall own' w s) =
    subst (λ m. Fits g (after_message m c) (Recalled own')) (sym (ap first w)) (recall_keeping g c own' (ap others w) s)
recall_keeps g c own r f = foreign f 5 refl refl

-- ---- the line that was asked for

grant_promised : (g : List ℕ) (c : Cell) (own : Bool) (memory : List ℕ) → memory ≡ g → c.words ≡ [] → IsPromised g own c.stance → Fits g (after_message (Grant own g) c) (Granted own memory)
grant_promised g c false memory m w (fresh e) = at_cell (λ d. Fits g (after_message (Grant false g) d) (Granted false memory)) c e w (granted_shared memory m refl (reading refl))
grant_promised g c true memory m w (fresh e) = at_cell (λ d. Fits g (after_message (Grant true g) d) (Granted true memory)) c e w (granted_owned memory refl (owning refl))
grant_promised g c _ memory m w (upgraded e) = at_cell (λ d. Fits g (after_message (Grant true g) d) (Granted true memory)) c e w (granted_owned memory refl (owning refl))

grant_keeps : (g : List ℕ) (c : Cell) (own : Bool) (bytes : List ℕ) (r : Role) → Fits g (mailed (Grant own bytes) c) r → Fits g (after_message (Grant own bytes) c) r
grant_keeps g c own bytes _ (to_grant own' memory m w s) =
    subst (λ m. Fits g (after_message m c) (Granted own' memory)) (sym (ap first w)) (grant_promised g c own' memory m (ap others w) s)
grant_keeps g c own bytes r f = foreign f 6 refl refl

-- ---- the answer to what was put back

-- it comes to none but those who are away
no_ack_bare : {A : Type 0} (c : Cell) → IsBare (mailed PutAck c).stance → A
no_ack_bare c (at_rest e) = absurd (suc-ne-zero _ (ap (λ t. t.acks) e))
no_ack_bare c (asking own e) = absurd (suc-ne-zero _ (ap (λ t. t.acks) e))

no_ack_sharing : {A : Type 0} (g : List ℕ) (c : Cell) → IsSharing g (mailed PutAck c).stance → A
no_ack_sharing g c (without s) = no_ack_bare c s
no_ack_sharing g c (reading e) = absurd (suc-ne-zero _ (ap (λ t. t.acks) e))
no_ack_sharing g c (upgrading e) = absurd (suc-ne-zero _ (ap (λ t. t.acks) e))

no_ack_keeping : {A : Type 0} (g : List ℕ) (c : Cell) → IsKeeping g (mailed PutAck c).stance → A
no_ack_keeping g c (owning e) = absurd (suc-ne-zero _ (ap (λ t. t.acks) e))
no_ack_keeping g c (leaving e) = absurd (suc-ne-zero _ (ap (λ t. t.acks) e))

no_ack_promised : {A : Type 0} (g : List ℕ) (c : Cell) (may : Bool) → IsPromised g may (mailed PutAck c).stance → A
no_ack_promised g c may (fresh e) = absurd (suc-ne-zero _ (ap (λ t. t.acks) e))
no_ack_promised g c _ (upgraded e) = absurd (suc-ne-zero _ (ap (λ t. t.acks) e))

-- what is left of those who are away, whatever is under way
pub ack_away : (P : Cell → Type 0) (c : Cell) (ws : List Message) → c.words ≡ ws → IsAway (mailed PutAck c).stance → P (cell (stance Absent false [] 0) ws) → P (after_message PutAck c)
ack_away P c ws w (bare s) p = no_ack_bare c s
ack_away P c ws w (emptied bytes e) p = absurd (suc-ne-zero _ (ap (λ t. t.acks) e))
ack_away P c ws w (noted bytes e) p = at_cell (λ d. P (after_message PutAck d)) c (ap (λ (t : Stance). record t { acks = pred t.acks }) e) w p
ack_away P c ws w (noted_empty e) p = at_cell (λ d. P (after_message PutAck d)) c (ap (λ (t : Stance). record t { acks = pred t.acks }) e) w p

ack_keeps : (g : List ℕ) (c : Cell) (r : Role) → Fits g (mailed PutAck c) r → Fits g (after_message PutAck c) r
ack_keeps g c _ (free w s) = ack_away (λ d. Fits g d Free) c [] w s (free refl (bare (at_rest refl)))
ack_keeps g c _ (recalled own w s) = ack_away (λ d. Fits g d (Recalled own)) c (RecallAck false g ∷ []) w s (recalled own refl (bare (at_rest refl)))
ack_keeps g c _ (listing w s) = no_ack_sharing g c s
ack_keeps g c _ (to_invalidate w s) = no_ack_sharing g c s
ack_keeps g c _ (invalidated w s) = no_ack_bare c s
ack_keeps g c _ (answered w s) = no_ack_bare c s
ack_keeps g c _ (keeping w s) = no_ack_keeping g c s
ack_keeps g c _ (serving own sharer w s) = no_ack_promised g c _ s
ack_keeps g c _ (to_recall own w s) = no_ack_keeping g c s
ack_keeps g c _ (recalled_kept w s) = no_ack_sharing g c s
ack_keeps g c _ (to_grant own memory m w s) = no_ack_promised g c _ s
ack_keeps g c _ (granted_owned memory w s) = no_ack_keeping g c s
ack_keeps g c _ (granted_shared memory m w s) = no_ack_sharing g c s

-- ---- any message of the home

pub message_keeps : (g : List ℕ) (c : Cell) (m : Message) (r : Role) → is_to_node m ≡ true → Fits g (mailed m c) r → Fits g (after_message m c) r
message_keeps g c Inv r known f = inv_keeps g c r f
message_keeps g c (Recall own) r known f = recall_keeps g c own r f
message_keeps g c (Grant own bytes) r known f = grant_keeps g c own bytes r f
message_keeps g c PutAck r known f = ack_keeps g c r f
message_keeps g c m r known f = absurd (true≢false (sym known))

-- ---- a wish starts

module _ (g : List ℕ) (own : Bool) (s : Stance) (may : may_start own s.copy ≡ true) (shut : s.register ≡ false) where
  waits_already : {A : Type 0} → s.register ≡ true → A
  waits_already e = absurd (true≢false (sym e ∙ shut))

  may_not : {A : Type 0} (k : Copy) → may_start own k ≡ false → s.copy ≡ k → A
  may_not k barred e = absurd (true≢false (sym may ∙ ap (may_start own) e ∙ barred))

  start_bare : IsBare s → IsBare (after_start own s)
  start_bare (at_rest e) = asking own (ap (after_start own) e)
  start_bare (asking o e) = waits_already (ap (λ t. t.register) e)

  start_away : IsAway s → IsAway (after_start own s)
  start_away (bare b) = bare (start_bare b)
  start_away (emptied bytes e) = may_not Emptied refl (ap (λ t. t.copy) e)
  start_away (noted bytes e) = may_not (Evicting bytes) refl (ap (λ t. t.copy) e)
  start_away (noted_empty e) = may_not Emptied refl (ap (λ t. t.copy) e)

  start_sharing : IsSharing g s → IsSharing g (after_start own s)
  start_sharing (without b) = without (start_bare b)
  start_sharing (reading e) =
      let owns : own ≡ true = sym (ap (λ t. may_start own t.copy) e) ∙ may in
      subst (λ o. IsSharing g (after_start o s)) (sym owns) (upgrading (ap (after_start true) e))
  start_sharing (upgrading e) = waits_already (ap (λ t. t.register) e)

  start_keeping : IsKeeping g s → IsKeeping g (after_start own s)
  start_keeping (owning e) = may_not (Owned g) refl (ap (λ t. t.copy) e)
  start_keeping (leaving e) = may_not (Evicting g) refl (ap (λ t. t.copy) e)

  start_promised : (b : Bool) → IsPromised g b s → IsPromised g b (after_start own s)
  start_promised b (fresh e) = waits_already (ap (λ t. t.register) e)
  start_promised _ (upgraded e) = waits_already (ap (λ t. t.register) e)

  pub start_classes : KeepsClasses g s (after_start own s)
  start_classes = record { as_bare = start_bare; as_away = start_away; as_sharing = start_sharing; as_keeping = start_keeping; as_promised = start_promised }

-- ---- a copy is evicted

module _ (g : List ℕ) (s : Stance) where
  evict_bare : IsBare s → IsBare (after_eviction s)
  evict_bare (at_rest e) = at_rest (ap after_eviction e)
  evict_bare (asking own e) = asking own (ap after_eviction e)

  evict_away : IsAway s → IsAway (after_eviction s)
  evict_away (bare b) = bare (evict_bare b)
  evict_away (emptied bytes e) = emptied bytes (ap after_eviction e)
  evict_away (noted bytes e) = noted bytes (ap after_eviction e)
  evict_away (noted_empty e) = noted_empty (ap after_eviction e)

  evict_sharing : IsSharing g s → IsSharing g (after_eviction s)
  evict_sharing (without b) = without (evict_bare b)
  evict_sharing (reading e) = without (at_rest (ap after_eviction e))
  evict_sharing (upgrading e) = without (asking true (ap after_eviction e))

  evict_keeping : IsKeeping g s → IsKeeping g (after_eviction s)
  evict_keeping (owning e) = leaving (ap after_eviction e)
  evict_keeping (leaving e) = leaving (ap after_eviction e)

  evict_promised : (b : Bool) → IsPromised g b s → IsPromised g b (after_eviction s)
  evict_promised b (fresh e) = fresh (ap after_eviction e)
  evict_promised _ (upgraded e) = fresh (ap after_eviction e)

  pub evict_classes : KeepsClasses g s (after_eviction s)
  evict_classes = record { as_bare = evict_bare; as_away = evict_away; as_sharing = evict_sharing; as_keeping = evict_keeping; as_promised = evict_promised }
