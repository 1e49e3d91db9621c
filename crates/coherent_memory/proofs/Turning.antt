-- A turn tells the lines that leave its node.
use Rattle.std.proofs.Common.{◌≡◌, ◌≢◌, ℕ, ◌<◌, ◌≤◌, ◌==◌, Bool, true, false, cond, ◌&&◌, not, List, [], ◌++◌, length, refl, sym, ap, subst, ◌∙◌, true≢false, arith, length-append}
use Rattle.std.proofs.lemmas.Bool.{eqb-true, eq-eqb, ne_eqb}
use Rattle.rsim_base.specs.declared.memory.Line.{Line}
use Rattle.rsim_base.specs.declared.memory.Node.{Node}
use Rattle.memory_contracts.specs.Carrier.{CarrierView}
use Rattle.memory_contracts.specs.Protocol.NodeTable.{is_held}
use Rattle.memory_contracts.specs.Letters.{Letter, letter_of}
use Rattle.node_memory.specs.Nodes.{NodeView, awaits, copy_of, left_from, without_first_mail}
use Rattle.node_memory.specs.Rows.{after_message, is_grant, lost_at}
use Rattle.node_memory.specs.Sides.{Side, side_of}
use Rattle.node_memory.specs.Sound.{IsSound}
use Rattle.node_memory.specs.Starting.{begins}
use Rattle.coherent_memory.specs.SystemInvariants.{IsFine}
use Rattle.coherent_memory.specs.Laws.{BeginKeeps, GrantsAwaited}
use Rattle.coherent_memory.specs.Lost.{AreGone, TurnTells, holds}
use Rattle.coherent_memory.specs.Systems.{System}
use Rattle.coherent_memory.specs.Turns.{HomeSends, NodeSends, ends, refused, sends, posted, without_post, without_mail, Receives, full, nothing, by_home, by_node, begun, lost_at_begin, with_carrier, with_node, without_flight}
use Rattle.coherent_memory.proofs.Lost.{AreOneWay, gone-from_node, gone-joined, gone-none, left-length}
use Rattle.coherent_memory.proofs.NodeLaws.{NodeLaws}
use Rattle.coherent_memory.proofs.Leaving.{LeavesOne, LeavesWith, begin-leaves, message-leaves}
use Rattle.coherent_memory.proofs.Places.{with_at-other, with_at-same}

-- ---- what is sent changes no copy

home-sends : (p now : ℕ) (s t : System) → HomeSends p now s t → t.nodes ≡ s.nodes
home-sends p now _ _ (ends s none) = refl
home-sends p now _ _ (refused s mail next is_full) = refl
home-sends p now _ _ (sends s t mail next free rest) = home-sends p now (without_post p (posted p mail s)) t rest

-- other nodes stay, and all copies
record KeepsCopies (p : ℕ) (s t : System) : Type 0 where
  pub others : (q : ℕ) → q ≢ p → t.nodes q ≡ s.nodes q
  pub copies : (q l : ℕ) → copy_of (t.nodes q) l ≡ copy_of (s.nodes q) l

keeps-mail : (p : ℕ) (s : System) → KeepsCopies p s (without_mail p s)
keeps-mail p s = record {
  others = λ q other. with_at-other s.nodes p (without_first_mail (s.nodes p)) q (ne_eqb q p other);
  copies = λ q l. by q l (q == p) refl;
}
  where
    by : (q l : ℕ) (b : Bool) → (q == p) ≡ b → copy_of (cond b (without_first_mail (s.nodes p)) (s.nodes q)) l ≡ copy_of (s.nodes q) l
    by q l true e = ap (λ x. copy_of (s.nodes x) l) (sym (eqb-true q p e))
    by q l false e = refl

node-sends : (p : ℕ) (s t : System) → NodeSends p s t → KeepsCopies p s t
node-sends p _ _ (ends s none) = record { others = λ q other. refl; copies = λ q l. refl }
node-sends p _ _ (refused s mail next is_full) = record { others = λ q other. refl; copies = λ q l. refl }
node-sends p _ _ (sends s t mail next free rest) =
    let first = keeps-mail p (posted p mail s) in
    let more = node-sends p (without_mail p (posted p mail s)) t rest in
    record { others = λ q other. more.others q other ∙ first.others q other; copies = λ q l. more.copies q l ∙ first.copies q l }

-- ---- a node begins

module _ (laws : NodeLaws) (n p now : ℕ) (s : System) (fine : IsFine n s) (below : p < n) (sound : IsSound (s.nodes p)) where
  others-begun : (q : ℕ) → q ≢ p → (begun p now s).nodes q ≡ s.nodes q
  others-begun q other = with_at-other s.nodes p (begins now (s.nodes p)).after q (ne_eqb q p other)

  begun-leaves : LeavesOne (side_of (s.nodes p)) (side_of ((begun p now s).nodes p)) (begins now (s.nodes p)).lost
  begun-leaves =
      let v = s.nodes p in
      let b = begins now v in
      subst (λ (w : NodeView). LeavesOne (side_of v) (side_of w) b.lost) (sym (with_at-same s.nodes p b.after))
      (begin-leaves v.wishes (side_of v) (side_of b.after) b.lost (laws.begin now v sound))

  begun-gone : AreGone s (begun p now s) (lost_at_begin p now s)
  begun-gone =
      let lost = (begins now (s.nodes p)).lost in
      subst (λ x. AreGone s (begun p now s) (left_from x lost)) (sym (fine.right.nodes p below).at)
      (gone-from_node p s (begun p now s) lost others-begun begun-leaves.exactly begun-leaves.few)

-- ---- a message is taken, or none

record HasTaken (p : ℕ) (s t : System) (gone : List (Node × Line)) : Type 0 where
  pub told : AreGone s t gone
  pub few : length gone ≤ 1
  pub others : (q : ℕ) → q ≢ p → t.nodes q ≡ s.nodes q
  pub comes : (l : ℕ) → holds s p l ≡ false → holds t p l ≡ true → awaits (s.nodes p) l ≡ true

-- where no node changes
taken-none : (p : ℕ) (s t : System) → t.nodes ≡ s.nodes → HasTaken p s t []
taken-none p s t same = record {
  told = gone-none s t (λ q l. ap (λ (nodes : ℕ → NodeView). is_held (copy_of (nodes q) l)) same);
  few = omega arith;
  others = λ q other. ap (λ (nodes : ℕ → NodeView). nodes q) same;
  comes = λ l gone there. absurd (true≢false (sym there ∙ ap (λ (nodes : ℕ → NodeView). is_held (copy_of (nodes p) l)) same ∙ gone));
}

-- by the node
module _ (laws : NodeLaws) (n p : ℕ) (s : System) (fine : IsFine n s) (below : p < n) (sound : IsSound (s.nodes p))
    (m : Letter) (awaited : is_grant m.message ≡ true → awaits (s.nodes p) m.line ≡ true) (carrier : CarrierView) where
  after-taking : System
  after-taking = with_node p (after_message m (s.nodes p)) (with_carrier carrier s)

  node-leaves : LeavesWith m (side_of (s.nodes p)) (side_of (after-taking.nodes p)) (lost_at m (s.nodes p))
  unfolding after-taking
  node-leaves =
      let v = s.nodes p in
      subst (λ (w : NodeView). LeavesWith m (side_of v) (side_of w) (lost_at m v)) (sym (with_at-same s.nodes p (after_message m v)))
      (subst (λ (a : Side). LeavesWith m (side_of v) a (lost_at m v)) (sym (laws.message m v sound awaited)) (message-leaves m (side_of v)))

  others-taking : (q : ℕ) → q ≢ p → after-taking.nodes q ≡ s.nodes q
  unfolding after-taking
  others-taking q other = with_at-other s.nodes p (after_message m (s.nodes p)) q (ne_eqb q p other)

  node-taken : HasTaken p s after-taking (left_from (s.nodes p).at (lost_at m (s.nodes p)))
  node-taken = record {
    told =
        subst (λ x. AreGone s after-taking (left_from x (lost_at m (s.nodes p)))) (sym (fine.right.nodes p below).at)
        (gone-from_node p s after-taking (lost_at m (s.nodes p)) others-taking node-leaves.exactly node-leaves.few);
    few = let long = left-length (s.nodes p).at (lost_at m (s.nodes p)) in let one = node-leaves.few in omega (arith, long, one);
    others = others-taking;
    comes = λ l gone there. let (same, grants) = node-leaves.comes l gone there in ap (awaits (s.nodes p)) same ∙ awaited grants;
  }

module _ (laws : NodeLaws) (granted_awaited : GrantsAwaited) (n p now : ℕ) (s : System) (fine : IsFine n s) (below : p < n) (sound : IsSound (s.nodes p)) where
  receives-taken : (t : System) (gone : List (Node × Line)) → Receives p now s t gone → HasTaken p s t gone
  unfolding after-taking
  receives-taken t _ (full no_room same) = taken-none p s t (ap (λ (s : System). s.nodes) same)
  receives-taken t _ (nothing has_room none same) = taken-none p s t (ap (λ (s : System). s.nodes) same)
  receives-taken t _ (by_home i f has_room next stands to kind takes) = taken-none p s t (ap (λ (s : System). s.nodes) takes.2)
  receives-taken t _ (by_node i f has_room next stands to kind same) =
      subst (λ (t : System). HasTaken p s t (left_from (s.nodes p).at (lost_at (letter_of f.message) (s.nodes p)))) (sym same)
      (node-taken laws n p s fine below sound (letter_of f.message) (λ grants. granted_awaited n p i f s fine below stands to grants) (without_flight i s).carrier)

-- ---- the turn

-- what leaves at the begin does not come with the message: it is not awaited
one-way : (p : ℕ) (s b t : System) (lost : List ℕ) (told : List (Node × Line)) → LeavesOne (side_of (s.nodes p)) (side_of (b.nodes p)) lost → ((q : ℕ) → q ≢ p → b.nodes q ≡ s.nodes q) → HasTaken p b t told → AreOneWay s b t
one-way p s b t lost told leaves others taken = record {
  comes = λ q l gone there. absurd (true≢false (sym there ∙ stays q l (q == p) refl gone));
  leaves = λ q l there gone. away q l (q == p) refl there gone;
}
  where
    stays : (q l : ℕ) (same : Bool) → (q == p) ≡ same → holds s q l ≡ false → holds b q l ≡ false
    stays q l true e gone =
        let node = eqb-true q p e in
        ap (λ x. holds b x l) node ∙ leaves.comes l (ap (λ x. holds s x l) (sym node) ∙ gone)
    stays q l false e gone = ap (λ v. is_held (copy_of v l)) (others q (λ same. true≢false (sym (eq-eqb q p same) ∙ e))) ∙ gone

    away-here : (l : ℕ) (c : Bool) → holds t p l ≡ c → holds s p l ≡ true → holds b p l ≡ false → c ≡ false
    away-here l true e there gone = absurd (true≢false (sym (taken.comes l gone e) ∙ leaves.awaited l there gone))
    away-here l false e there gone = refl

    away : (q l : ℕ) (same : Bool) → (q == p) ≡ same → holds s q l ≡ true → holds b q l ≡ false → holds t q l ≡ false
    away q l true e there gone =
        let node = eqb-true q p e in
        ap (λ x. holds t x l) node ∙ away-here l (holds t p l) refl (ap (λ x. holds s x l) (sym node) ∙ there) (ap (λ x. holds b x l) (sym node) ∙ gone)
    away q l false e there gone = ap (λ v. is_held (copy_of v l)) (taken.others q (λ same. true≢false (sym (eq-eqb q p same) ∙ e))) ∙ gone

-- after a step that changes no copy, the same lines are gone
gone-kept : (p : ℕ) (s t u : System) (gone : List (Node × Line)) → AreGone s t gone → KeepsCopies p t u → AreGone s u gone
gone-kept p s t u gone told keeps = record {
  exactly = λ q l. told.exactly q l ∙ ap (λ c. holds s q l && not (is_held c)) (sym (keeps.copies q l));
  once = told.once;
}

keeps-sent : (p now : ℕ) (s t u : System) → HomeSends p now s t → NodeSends p t u → KeepsCopies p s u
keeps-sent p now s t u home node =
    let nodes = home-sends p now s t home in
    let more = node-sends p t u node in
    record {
      others = λ q other. more.others q other ∙ ap (λ (nodes : ℕ → NodeView). nodes q) nodes;
      copies = λ q l. more.copies q l ∙ ap (λ (nodes : ℕ → NodeView). copy_of (nodes q) l) nodes;
    }

pub turn-tells : NodeLaws → BeginKeeps → GrantsAwaited → TurnTells
turn-tells laws begin_keeps granted_awaited n p now s t gone fine sound later below turn =
    let b = begun p now s in
    let lost = (begins now (s.nodes p)).lost in
    let leaves = begun-leaves laws n p now s fine below sound in
    let others = others-begun laws n p now s fine below sound in
    let first = begun-gone laws n p now s fine below sound in
    let taken = receives-taken laws granted_awaited n p now b (begin_keeps n p now s fine below sound).fine below later turn.taken turn.told turn.receives in
    let told = gone-joined s b turn.taken (lost_at_begin p now s) turn.told (one-way p s b turn.taken lost turn.told leaves others taken) first taken.told in
    let keeps = keeps-sent p now turn.taken turn.sent t turn.home turn.node in
    let long = ap length turn.lost ∙ length-append (lost_at_begin p now s) turn.told in
    let left = left-length (s.nodes p).at lost in
    let few_lost = leaves.few in
    let few_told = taken.few in
    record {
      told = subst (λ gone. AreGone s t gone) (sym turn.lost) (gone-kept p s turn.taken t (lost_at_begin p now s ++ turn.told) told keeps);
      others = λ q other. keeps.others q other ∙ taken.others q other ∙ others q other;
      few = omega (arith, long, left, few_lost, few_told);
    }
