-- What a message to the home does to the row of each node: the tests that compare nodes are truth values here.
use Rattle.std.proofs.Common.{◌≡◌, ℕ, suc, Bool, true, false, cond, not, ◌&&◌, ◌||◌, eqb, List, [], ◌∷◌, refl, sym, ap, ap₂, ◌∙◌, subst, true≢false}
use Rattle.memory_contracts.specs.Protocol.Messages.{Message, GetS, GetM, Put, Inv, Recall, Grant, PutAck, InvAck, RecallAck, Done, get}
use Rattle.memory_contracts.specs.Protocol.Lines.{Stance, Cell, mailed, all_mailed}
use Rattle.memory_contracts.specs.Protocol.Roles.{Free, Invalidated, Answered, Owning, Served, Recalled, Granted, listed}
use Rattle.memory_contracts.specs.Protocol.Coherent.{Fits, free, listing, to_invalidate, invalidated, answered, keeping, serving, to_recall, recalled_kept, recalled, to_grant, granted_owned, granted_shared, IsBare, at_rest, asking, bare, emptied, noted, noted_empty, without, reading, upgrading, IsKeeping, owning, leaving, IsPromised, fresh, upgraded}
use Rattle.memory_contracts.proofs.Protocol.Cells.{differ, kind, others}

-- ---- what a node has asked

-- a stance of another request than the one that stands first
asked_other : {A : Type 0} {s t : Stance} (a b : ℕ) → s ≡ t → kind s.asked ≡ a → kind t.asked ≡ b → eqb a b ≡ false → A
asked_other a b e is_a is_b test = differ a b test (sym is_a ∙ ap (λ u. kind u.asked) e ∙ is_b)

-- a stance without the request that stands first
abbrev unasked : Stance → Stance
unasked s = record s { asked = others s.asked }

-- a node that keeps the line asks for no line
no_get_keeping : {A : Type 0} (g : List ℕ) (c : Cell) (own : Bool) → IsKeeping g (mailed (get own) c).stance → A
no_get_keeping g c false (owning e) = asked_other 1 0 e refl refl refl
no_get_keeping g c false (leaving e) = asked_other 1 3 e refl refl refl
no_get_keeping g c true (owning e) = asked_other 2 0 e refl refl refl
no_get_keeping g c true (leaving e) = asked_other 2 3 e refl refl refl

-- a request of a node that is at rest, or shares the line, is served: the line is promised
gets_bare : (g : List ℕ) (may : Bool) (c : Cell) → IsBare (mailed GetS c).stance → IsPromised g may c.stance
gets_bare g may c (at_rest e) = asked_other 1 0 e refl refl refl
gets_bare g may c (asking false e) = fresh (ap unasked e)
gets_bare g may c (asking true e) = asked_other 1 2 e refl refl refl

getm_bare : (g : List ℕ) (may : Bool) (c : Cell) → IsBare (mailed GetM c).stance → IsPromised g may c.stance
getm_bare g may c (at_rest e) = asked_other 2 0 e refl refl refl
getm_bare g may c (asking false e) = asked_other 2 1 e refl refl refl
getm_bare g may c (asking true e) = fresh (ap unasked e)

pub gets_served : (g : List ℕ) (c : Cell) (s : Bool) → Fits g (mailed GetS c) (listed s) → Fits g c (Served false s)
gets_served g c false (free w (bare b)) = serving false false w (gets_bare g false c b)
gets_served g c false (free w (emptied bytes e)) = asked_other 1 3 e refl refl refl
gets_served g c false (free w (noted bytes e)) = asked_other 1 0 e refl refl refl
gets_served g c false (free w (noted_empty e)) = asked_other 1 0 e refl refl refl
gets_served g c true (listing w (without b)) = serving false true w (gets_bare g false c b)
gets_served g c true (listing w (reading e)) = asked_other 1 0 e refl refl refl
gets_served g c true (listing w (upgrading e)) = asked_other 1 2 e refl refl refl

pub getm_served : (g : List ℕ) (c : Cell) (s : Bool) → Fits g (mailed GetM c) (listed s) → Fits g c (Served true s)
getm_served g c false (free w (bare b)) = serving true false w (getm_bare g false c b)
getm_served g c false (free w (emptied bytes e)) = asked_other 2 3 e refl refl refl
getm_served g c false (free w (noted bytes e)) = asked_other 2 0 e refl refl refl
getm_served g c false (free w (noted_empty e)) = asked_other 2 0 e refl refl refl
getm_served g c true (listing w (without b)) = serving true true w (getm_bare g true c b)
getm_served g c true (listing w (reading e)) = asked_other 2 0 e refl refl refl
getm_served g c true (listing w (upgrading e)) = serving true true w (upgraded (ap unasked e))

get_served : (g : List ℕ) (c : Cell) (own s : Bool) → Fits g (mailed (get own) c) (listed s) → Fits g c (Served own s)
get_served g c false s f = gets_served g c s f
get_served g c true s f = getm_served g c s f

-- ---- a node whose request is served is given the line

promised_owned : (g : List ℕ) (may : Bool) (s : Stance) → IsPromised g may s → IsPromised g true s
promised_owned g may s (fresh e) = fresh e
promised_owned g _ s (upgraded e) = upgraded e

grant_owned : (g : List ℕ) (c : Cell) (own s : Bool) (memory : List ℕ) → memory ≡ g → Fits g c (Served own s) → Fits g (mailed (Grant true memory) c) (Granted true memory)
grant_owned g c _ _ memory m (serving own s w p) =
    to_grant true memory m (ap₂ (λ b ws. Grant true b ∷ ws) m w) (promised_owned g (s && own) c.stance p)

grant_shared : (g : List ℕ) (c : Cell) (s : Bool) (memory : List ℕ) → memory ≡ g → Fits g c (Served false s) → Fits g (mailed (Grant false memory) c) (Granted false memory)
grant_shared g c _ memory m (serving _ false w p) = to_grant false memory m (ap₂ (λ b ws. Grant false b ∷ ws) m w) p
grant_shared g c _ memory m (serving _ true w p) = to_grant false memory m (ap₂ (λ b ws. Grant false b ∷ ws) m w) p

-- ---- one lemma a row. Of node y: t, whether it is the one that speaks; s, whether it is a sharer

pub shared_at : (g : List ℕ) (c : Cell) (memory : List ℕ) (t s : Bool) → memory ≡ g
    → Fits g (cond t (mailed GetS c) c) (listed s)
    → Fits g (all_mailed (cond t (Grant false memory ∷ []) []) c) (cond t (Granted false memory) (listed (t || s)))
shared_at g c memory true s m f = grant_shared g c s memory m (gets_served g c s f)
shared_at g c memory false s m f = f

pub exclusive_at : (g : List ℕ) (c : Cell) (memory : List ℕ) (t s : Bool) → memory ≡ g
    → Fits g (cond t (mailed GetS c) c) (listed s)
    → Fits g (all_mailed (cond t (Grant true memory ∷ []) []) c) (cond t (Granted true memory) (listed s))
exclusive_at g c memory true s m f = grant_owned g c false s memory m (gets_served g c s f)
exclusive_at g c memory false s m f = f

pub owned_at : (g : List ℕ) (c : Cell) (memory : List ℕ) (t s : Bool) → memory ≡ g → (not t && s) ≡ false
    → Fits g (cond t (mailed GetM c) c) (listed s)
    → Fits g (all_mailed (cond t (Grant true memory ∷ []) []) c) (cond t (Granted true memory) Free)
owned_at g c memory true s m no_other f = grant_owned g c true s memory m (getm_served g c s f)
owned_at g c memory false s m no_other f = subst (λ s. Fits g c (listed s)) no_other f

pub collect_at : (g : List ℕ) (c : Cell) (t s : Bool)
    → Fits g (cond t (mailed GetM c) c) (listed s)
    → Fits g (all_mailed (cond (not t && s) (Inv ∷ []) []) c) (cond t (Served true s) (cond (not t && s) Invalidated (cond s Answered Free)))
collect_at g c true s f = getm_served g c s f
collect_at g c false false f = f
collect_at g c false true (listing w s) = to_invalidate (ap (λ ws. Inv ∷ ws) w) s

-- u: whether it is the owner
pub asks_not_owner : (g : List ℕ) (c : Cell) (own u s : Bool) → Fits g (mailed (get own) c) (cond u Owning (listed s)) → u ≡ false
asks_not_owner g c own true s (keeping w k) = no_get_keeping g c own k
asks_not_owner g c own false s f = refl

pub recall_at : (g : List ℕ) (c : Cell) (own t u s : Bool)
    → Fits g (cond t (mailed (get own) c) c) (cond u Owning (listed s))
    → Fits g (all_mailed (cond u (Recall own ∷ []) []) c) (cond u (Recalled own) (cond t (Served own s) (listed s)))
recall_at g c own true true s (keeping w k) = no_get_keeping g c own k
recall_at g c own true false s f = get_served g c own s f
recall_at g c own false true s (keeping w k) = to_recall own (ap (λ ws. Recall own ∷ ws) w) k
recall_at g c own false false s f = f

-- the owner puts back the line
put_keeping : (g : List ℕ) (c : Cell) (bytes : List ℕ) → c.words ≡ [] → IsKeeping g (mailed (Put bytes) c).stance → Fits g (mailed PutAck c) Free
put_keeping g c bytes w (owning e) = asked_other 3 0 e refl refl refl
put_keeping g c bytes w (leaving e) = free w (noted g (ap (λ (s : Stance). record s { asked = others s.asked; acks = suc s.acks }) e))

abbrev bytes_put : List Message → List ℕ
bytes_put (Put bytes ∷ ms) = bytes
bytes_put ms = []

pub put_bytes : (g : List ℕ) (c : Cell) (bytes : List ℕ) (u s : Bool) → u ≡ true → Fits g (mailed (Put bytes) c) (cond u Owning (listed s)) → bytes ≡ g
put_bytes g c bytes true s is (keeping w (owning e)) = asked_other 3 0 e refl refl refl
put_bytes g c bytes true s is (keeping w (leaving e)) = ap (λ t. bytes_put t.asked) e
put_bytes g c bytes false s is f = absurd (true≢false (sym is))

pub put_at : (g : List ℕ) (c : Cell) (bytes : List ℕ) (t s : Bool) → s ≡ false
    → Fits g (cond t (mailed (Put bytes) c) c) (cond t Owning (listed s))
    → Fits g (all_mailed (cond t (PutAck ∷ []) []) c) (listed s)
put_at g c bytes true s none (keeping w k) = subst (λ s. Fits g (mailed PutAck c) (listed s)) (sym none) (put_keeping g c bytes w k)
put_at g c bytes false s none f = f

-- another node had put it back
late_put : (g : List ℕ) (c : Cell) (bytes : List ℕ) (s : Bool) → Fits g (mailed (Put bytes) c) (listed s) → Fits g (mailed PutAck c) (listed s)
late_put g c bytes false (free w (bare (at_rest e))) = asked_other 3 0 e refl refl refl
late_put g c bytes false (free w (bare (asking false e))) = asked_other 3 1 e refl refl refl
late_put g c bytes false (free w (bare (asking true e))) = asked_other 3 2 e refl refl refl
late_put g c bytes false (free w (emptied b e)) = free w (noted_empty (ap (λ (s : Stance). record s { asked = others s.asked; acks = suc s.acks }) e))
late_put g c bytes false (free w (noted b e)) = asked_other 3 0 e refl refl refl
late_put g c bytes false (free w (noted_empty e)) = asked_other 3 0 e refl refl refl
late_put g c bytes true (listing w (without (at_rest e))) = asked_other 3 0 e refl refl refl
late_put g c bytes true (listing w (without (asking false e))) = asked_other 3 1 e refl refl refl
late_put g c bytes true (listing w (without (asking true e))) = asked_other 3 2 e refl refl refl
late_put g c bytes true (listing w (reading e)) = asked_other 3 0 e refl refl refl
late_put g c bytes true (listing w (upgrading e)) = asked_other 3 2 e refl refl refl

pub late_put_at : (g : List ℕ) (c : Cell) (bytes : List ℕ) (t u s : Bool) → (t ≡ true → u ≡ false)
    → Fits g (cond t (mailed (Put bytes) c) c) (cond u Owning (listed s))
    → Fits g (all_mailed (cond t (PutAck ∷ []) []) c) (cond u Owning (listed s))
late_put_at g c bytes true true s apart f = absurd (true≢false (apart refl))
late_put_at g c bytes true false s apart f = late_put g c bytes s f
late_put_at g c bytes false u s apart f = f

-- u: whether its request is served; l: whether it has still to answer
pub answer_at : (g : List ℕ) (c : Cell) (t u l s : Bool)
    → Fits g (cond t (mailed InvAck c) c) (cond u (Served true s) (cond l Invalidated (cond s Answered Free)))
    → Fits g c (cond u (Served true s) (cond (not t && l) Invalidated (cond s Answered Free)))
answer_at g c true true l s (serving own sharer w p) = differ 8 0 refl (ap kind w)
answer_at g c true false true s (to_invalidate w k) = differ 8 4 refl (ap kind w)
answer_at g c true false true true (invalidated w k) = answered (ap others w) k
answer_at g c true false true false (invalidated w k) = free (ap others w) (bare k)
answer_at g c true false false true (answered w k) = differ 8 0 refl (ap kind w)
answer_at g c true false false false (free w k) = differ 8 0 refl (ap kind w)
answer_at g c false u l s f = f

free_after : (g : List ℕ) (c : Cell) (s : Bool) → Fits g c (cond s Answered Free) → Fits g c Free
free_after g c true (answered w k) = free w (bare k)
free_after g c false f = f

pub last_answer_at : (g : List ℕ) (c : Cell) (memory : List ℕ) (t u l s : Bool) → memory ≡ g → (not t && l) ≡ false
    → Fits g (cond t (mailed InvAck c) c) (cond u (Served true s) (cond l Invalidated (cond s Answered Free)))
    → Fits g (all_mailed (cond u (Grant true memory ∷ []) []) c) (cond u (Granted true memory) Free)
last_answer_at g c memory t u l s m none f = given u (subst (λ b. Fits g c (cond u (Served true s) (cond b Invalidated (cond s Answered Free)))) none (answer_at g c t u l s f))
  where
    given : (u : Bool) → Fits g c (cond u (Served true s) (cond s Answered Free)) → Fits g (all_mailed (cond u (Grant true memory ∷ []) []) c) (cond u (Granted true memory) Free)
    given true k = grant_owned g c true s memory m k
    given false k = free_after g c s k

-- the line comes back: v, whether its request is served
abbrev bytes_back : List Message → List ℕ
bytes_back (RecallAck kept bytes ∷ ms) = bytes
bytes_back ms = []

abbrev kept_back : List Message → Bool
kept_back (RecallAck kept bytes ∷ ms) = kept
kept_back ms = false

pub back_bytes : (g : List ℕ) (c : Cell) (kept : Bool) (bytes : List ℕ) (own u v s : Bool)
    → Fits g (mailed (RecallAck kept bytes) c) (cond u (Recalled own) (cond v (Served own s) (listed s))) → bytes ≡ g
back_bytes g c kept bytes own true v s (to_recall _ w k) = differ 9 5 refl (ap kind w)
back_bytes g c kept bytes _ true v s (recalled_kept w k) = ap bytes_back w
back_bytes g c kept bytes own true v s (recalled _ w k) = ap bytes_back w
back_bytes g c kept bytes own false true s (serving _ _ w k) = differ 9 0 refl (ap kind w)
back_bytes g c kept bytes own false false true (listing w k) = differ 9 0 refl (ap kind w)
back_bytes g c kept bytes own false false false (free w k) = differ 9 0 refl (ap kind w)

pub back_from : (g : List ℕ) (c : Cell) (kept : Bool) (bytes : List ℕ) (own u v s : Bool)
    → Fits g (mailed (RecallAck kept bytes) c) (cond u (Recalled own) (cond v (Served own s) (listed s))) → u ≡ true
back_from g c kept bytes own true v s f = refl
back_from g c kept bytes own false true s (serving _ _ w k) = differ 9 0 refl (ap kind w)
back_from g c kept bytes own false false true (listing w k) = differ 9 0 refl (ap kind w)
back_from g c kept bytes own false false false (free w k) = differ 9 0 refl (ap kind w)

-- whether the node that gave it back is still a sharer
abbrev pub still : Bool → Bool → Bool
still kept t = cond kept (t || false) false

back_kept : (g : List ℕ) (c : Cell) (kept : Bool) (bytes : List ℕ) → Fits g (mailed (RecallAck kept bytes) c) (Recalled false) → Fits g c (listed (still kept true))
back_kept g c kept bytes (to_recall _ w k) = differ 9 5 refl (ap kind w)
back_kept g c true bytes (recalled_kept w k) = listing (ap others w) k
back_kept g c false bytes (recalled_kept w k) = absurd (true≢false (sym (ap kept_back w)))
back_kept g c true bytes (recalled _ w k) = absurd (true≢false (ap kept_back w))
back_kept g c false bytes (recalled _ w k) = free (ap others w) k

not_still : (kept : Bool) → still kept false ≡ false
not_still true = refl
not_still false = refl

pub back_shared_at : (g : List ℕ) (c : Cell) (kept : Bool) (bytes : List ℕ) (t v s : Bool) → bytes ≡ g → s ≡ false → (t ≡ true → v ≡ false)
    → Fits g (cond t (mailed (RecallAck kept bytes) c) c) (cond t (Recalled false) (cond v (Served false s) (listed s)))
    → Fits g (all_mailed (cond v (Grant false bytes ∷ []) []) c) (cond v (Granted false bytes) (listed (v || still kept t)))
back_shared_at g c kept bytes true true s m none apart f = absurd (true≢false (apart refl))
back_shared_at g c kept bytes true false s m none apart f = back_kept g c kept bytes f
back_shared_at g c kept bytes false true s m none apart f = grant_shared g c s bytes m f
back_shared_at g c kept bytes false false s m none apart f = subst (λ b. Fits g c (listed b)) (none ∙ sym (not_still kept)) f

back_owned : (g : List ℕ) (c : Cell) (kept : Bool) (bytes : List ℕ) → Fits g (mailed (RecallAck kept bytes) c) (Recalled true) → Fits g c Free
back_owned g c kept bytes (to_recall _ w k) = differ 9 5 refl (ap kind w)
back_owned g c kept bytes (recalled _ w k) = free (ap others w) k

pub back_owned_at : (g : List ℕ) (c : Cell) (kept : Bool) (bytes : List ℕ) (t v s : Bool) → bytes ≡ g → s ≡ false → (t ≡ true → v ≡ false)
    → Fits g (cond t (mailed (RecallAck kept bytes) c) c) (cond t (Recalled true) (cond v (Served true s) (listed s)))
    → Fits g (all_mailed (cond v (Grant true bytes ∷ []) []) c) (cond v (Granted true bytes) Free)
back_owned_at g c kept bytes true true s m none apart f = absurd (true≢false (apart refl))
back_owned_at g c kept bytes true false s m none apart f = back_owned g c kept bytes f
back_owned_at g c kept bytes false true s m none apart f = grant_owned g c true s bytes m f
back_owned_at g c kept bytes false false s m none apart f = subst (λ b. Fits g c (listed b)) none f

-- the line has come
pub done_by : (g : List ℕ) (c : Cell) (memory : List ℕ) (own v s : Bool) → Fits g (mailed Done c) (cond v (Granted own memory) (listed s)) → v ≡ true
done_by g c memory own true s f = refl
done_by g c memory own false true (listing w k) = differ 10 0 refl (ap kind w)
done_by g c memory own false false (free w k) = differ 10 0 refl (ap kind w)

pub done_shared_at : (g : List ℕ) (c : Cell) (memory : List ℕ) (t s : Bool) → (t ≡ true → s ≡ true)
    → Fits g (cond t (mailed Done c) c) (cond t (Granted false memory) (listed s)) → Fits g c (listed s)
done_shared_at g c memory true s shares (to_grant _ _ m w k) = differ 10 6 refl (ap kind w)
done_shared_at g c memory true s shares (granted_shared _ m w k) = subst (λ b. Fits g c (listed b)) (sym (shares refl)) (listing (ap others w) k)
done_shared_at g c memory false s shares f = f

pub done_owned_at : (g : List ℕ) (c : Cell) (memory : List ℕ) (t s : Bool)
    → Fits g (cond t (mailed Done c) c) (cond t (Granted true memory) (listed s)) → Fits g c (cond t Owning (listed s))
done_owned_at g c memory true s (to_grant _ _ m w k) = differ 10 6 refl (ap kind w)
done_owned_at g c memory true s (granted_owned _ w k) = keeping (ap others w) k
done_owned_at g c memory false s f = f

-- ---- words that never come

pub silent_idle : {A : Type 0} (g : List ℕ) (c : Cell) (k : ℕ) (u s : Bool) → kind c.words ≡ k → eqb k 0 ≡ false
    → Fits g c (cond u Owning (listed s)) → A
silent_idle g c k true s is test (keeping w p) = differ k 0 test (sym is ∙ ap kind w)
silent_idle g c k false true is test (listing w p) = differ k 0 test (sym is ∙ ap kind w)
silent_idle g c k false false is test (free w p) = differ k 0 test (sym is ∙ ap kind w)

pub silent_collecting : {A : Type 0} (g : List ℕ) (c : Cell) (k : ℕ) (u l s : Bool) → kind c.words ≡ k → eqb k 0 ≡ false → eqb k 4 ≡ false → eqb k 8 ≡ false
    → Fits g c (cond u (Served true s) (cond l Invalidated (cond s Answered Free))) → A
silent_collecting g c k true l s is no_0 no_4 no_8 (serving _ _ w p) = differ k 0 no_0 (sym is ∙ ap kind w)
silent_collecting g c k false true s is no_0 no_4 no_8 (to_invalidate w p) = differ k 4 no_4 (sym is ∙ ap kind w)
silent_collecting g c k false true s is no_0 no_4 no_8 (invalidated w p) = differ k 8 no_8 (sym is ∙ ap kind w)
silent_collecting g c k false false true is no_0 no_4 no_8 (answered w p) = differ k 0 no_0 (sym is ∙ ap kind w)
silent_collecting g c k false false false is no_0 no_4 no_8 (free w p) = differ k 0 no_0 (sym is ∙ ap kind w)

pub silent_recalling : {A : Type 0} (g : List ℕ) (c : Cell) (own : Bool) (k : ℕ) (u v s : Bool) → kind c.words ≡ k → eqb k 0 ≡ false → eqb k 5 ≡ false → eqb k 9 ≡ false
    → Fits g c (cond u (Recalled own) (cond v (Served own s) (listed s))) → A
silent_recalling g c own k true v s is no_0 no_5 no_9 (to_recall _ w p) = differ k 5 no_5 (sym is ∙ ap kind w)
silent_recalling g c _ k true v s is no_0 no_5 no_9 (recalled_kept w p) = differ k 9 no_9 (sym is ∙ ap kind w)
silent_recalling g c own k true v s is no_0 no_5 no_9 (recalled _ w p) = differ k 9 no_9 (sym is ∙ ap kind w)
silent_recalling g c own k false true s is no_0 no_5 no_9 (serving _ _ w p) = differ k 0 no_0 (sym is ∙ ap kind w)
silent_recalling g c own k false false true is no_0 no_5 no_9 (listing w p) = differ k 0 no_0 (sym is ∙ ap kind w)
silent_recalling g c own k false false false is no_0 no_5 no_9 (free w p) = differ k 0 no_0 (sym is ∙ ap kind w)

pub silent_granting : {A : Type 0} (g : List ℕ) (c : Cell) (own : Bool) (memory : List ℕ) (k : ℕ) (v s : Bool) → kind c.words ≡ k → eqb k 0 ≡ false → eqb k 6 ≡ false → eqb k 10 ≡ false
    → Fits g c (cond v (Granted own memory) (listed s)) → A
silent_granting g c own memory k true s is no_0 no_6 no_10 (to_grant _ _ m w p) = differ k 6 no_6 (sym is ∙ ap kind w)
silent_granting g c _ memory k true s is no_0 no_6 no_10 (granted_owned _ w p) = differ k 10 no_10 (sym is ∙ ap kind w)
silent_granting g c _ memory k true s is no_0 no_6 no_10 (granted_shared _ m w p) = differ k 10 no_10 (sym is ∙ ap kind w)
silent_granting g c own memory k false true is no_0 no_6 no_10 (listing w p) = differ k 0 no_0 (sym is ∙ ap kind w)
silent_granting g c own memory k false false is no_0 no_6 no_10 (free w p) = differ k 0 no_0 (sym is ∙ ap kind w)
