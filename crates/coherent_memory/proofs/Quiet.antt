-- What a turn leaves as it is: other nodes, the carrier's time, how many bytes a line has; and what it fetches it fetches now.
use Rattle.std.proofs.Common.{◌≡◌, ◌≢◌, ℕ, suc, false, cond, List, [], ◌∷◌, Option, None, Some, refl, sym, ap, subst, ◌∙◌, arith}
use Rattle.std.specs.Option.{option_map_or}
use Rattle.std.proofs.lemmas.Bool.{cond_both, ne_eqb}
use Rattle.rsim_base.specs.declared.memory.Line.{Line}
use Rattle.rsim_base.specs.declared.memory.Node.{Node}
use Rattle.memory_contracts.specs.Carrier.{CarrierView, after_send}
use Rattle.memory_contracts.specs.Letters.{Letter, letter_of, message_of}
use Rattle.memory_contracts.specs.Store.{Wish}
use Rattle.cache_sets.specs.Caches.{reserved_slot, room_for, with_reserved}
use Rattle.cache_sets.specs.Ways.{Way}
use Rattle.cache_levels.specs.Levels.{LevelsView, brought, evicted, held, with_room, without_victim}
use Rattle.cache_levels.specs.declared.levels.Evicted.{Evicted}
use Rattle.node_memory.specs.Fetched.{begins-before}
use Rattle.node_memory.specs.Nodes.{Coming, NodeView, copy_of, with_mails, without_first_mail}
use Rattle.node_memory.specs.Rows.{after_message, change_at, levels_after}
use Rattle.node_memory.specs.Sound.{AreBefore}
use Rattle.node_memory.specs.Starting.{Arrival, Begun, arrive, arrived, begins, first_begins, has_to_wait, is_absent, is_due, meets, met, near_if_held, put_for, slots_with, starts, starts_absent, starts_shared, uncovered}
use Rattle.node_memory.specs.declared.table.Change.{Change}
use Rattle.node_memory.specs.declared.table.Change.TheVariants.{Nothing, Lose, Share, Fill, EmptySlot, FreeSlot}
use Rattle.coherent_memory.specs.Systems.{System}
use Rattle.coherent_memory.specs.Turns.{HomeSends, NodeSends, Receives, Turn, begun, by_home, by_node, ends, full, nothing, posted, refused, sends, without_mail, without_post}
use Rattle.coherent_memory.proofs.Places.{with_at-other, with_at-same}

-- ---- the node whose turn it is

-- what holds of a node before its turn, and after each part of it
pub record Lasts (now : ℕ) (P Q : NodeView → Type 0) : Type 0 where
  pub begin : (v : NodeView) → P v → Q (begins now v).after
  pub message : (m : Letter) (v : NodeView) → Q v → Q (after_message m v)
  pub sent : (v : NodeView) → Q v → Q (without_first_mail v)

module _ (now : ℕ) (P Q : NodeView → Type 0) (lasts : Lasts now P Q) (p : ℕ) where
  at_begin : (s : System) → P (s.nodes p) → Q ((begun p now s).nodes p)
  at_begin s is = subst Q (sym (with_at-same s.nodes p (begins now (s.nodes p)).after)) (lasts.begin (s.nodes p) is)

  at_receive : (s t : System) (told : List (Node × Line)) → Receives p now s t told → Q (s.nodes p) → Q (t.nodes p)
  at_receive s t _ (full packed same) is = subst (λ (u : System). Q (u.nodes p)) (sym same) is
  at_receive s t _ (nothing free none same) is = subst (λ (u : System). Q (u.nodes p)) (sym same) is
  at_receive s t _ (by_home i f free next stands to kind takes) is = let (home, serves, same) = takes in subst (λ (u : System). Q (u.nodes p)) (sym same) is
  at_receive s t _ (by_node i f free next stands to kind same) is =
      subst (λ (u : System). Q (u.nodes p)) (sym same) (subst Q (sym (with_at-same s.nodes p (after_message (letter_of f.message) (s.nodes p)))) (lasts.message (letter_of f.message) (s.nodes p) is))

  at_home : (s t : System) → HomeSends p now s t → Q (s.nodes p) → Q (t.nodes p)
  at_home _ _ (ends s none) is = is
  at_home _ _ (refused s mail next packed) is = is
  at_home _ _ (sends s t mail next free rest) is = at_home (without_post p (posted p mail s)) t rest is

  at_node : (s t : System) → NodeSends p s t → Q (s.nodes p) → Q (t.nodes p)
  at_node _ _ (ends s none) is = is
  at_node _ _ (refused s mail next packed) is = is
  at_node _ _ (sends s t mail next free rest) is =
      at_node (without_mail p (posted p mail s)) t rest (subst Q (sym (with_at-same s.nodes p (without_first_mail (s.nodes p)))) (lasts.sent (s.nodes p) is))

  pub turn-node : (s t : System) (gone : List (Node × Line)) → Turn p now s t gone → P (s.nodes p) → Q (t.nodes p)
  turn-node s t gone turn is = at_node turn.sent t turn.node (at_home turn.taken turn.sent turn.home (at_receive (begun p now s) turn.taken turn.told turn.receives (at_begin s is)))

-- ---- other nodes

module _ (p : ℕ) (q : ℕ) (other : q ≢ p) where
  receive-others : (now : ℕ) (s t : System) (told : List (Node × Line)) → Receives p now s t told → t.nodes q ≡ s.nodes q
  receive-others now s t _ (full packed same) = ap (λ (u : System). u.nodes q) same
  receive-others now s t _ (nothing free none same) = ap (λ (u : System). u.nodes q) same
  receive-others now s t _ (by_home i f free next stands to kind takes) = let (home, serves, same) = takes in ap (λ (u : System). u.nodes q) same
  receive-others now s t _ (by_node i f free next stands to kind same) =
      ap (λ (u : System). u.nodes q) same ∙ with_at-other s.nodes p (after_message (letter_of f.message) (s.nodes p)) q (ne_eqb q p other)

  home-others : (now : ℕ) (s t : System) → HomeSends p now s t → t.nodes q ≡ s.nodes q
  home-others now _ _ (ends s none) = refl
  home-others now _ _ (refused s mail next packed) = refl
  home-others now _ _ (sends s t mail next free rest) = home-others now (without_post p (posted p mail s)) t rest

  node-others : (s t : System) → NodeSends p s t → t.nodes q ≡ s.nodes q
  node-others _ _ (ends s none) = refl
  node-others _ _ (refused s mail next packed) = refl
  node-others _ _ (sends s t mail next free rest) =
      node-others (without_mail p (posted p mail s)) t rest ∙ with_at-other s.nodes p (without_first_mail (s.nodes p)) q (ne_eqb q p other)

  pub turn-others : (now : ℕ) (s t : System) (gone : List (Node × Line)) → Turn p now s t gone → t.nodes q ≡ s.nodes q
  turn-others now s t gone turn =
      node-others turn.sent t turn.node
      ∙ (home-others now turn.taken turn.sent turn.home
      ∙ (receive-others now (begun p now s) turn.taken turn.told turn.receives ∙ with_at-other s.nodes p (begins now (s.nodes p)).after q (ne_eqb q p other)))

-- ---- the carrier's time

send-ticks : (c : CarrierView) (p to : ℕ) (m : _) → (after_send c p to m).ticks ≡ c.ticks
send-ticks c p to m = cond_both _ c _ (λ (d : CarrierView). d.ticks ≡ c.ticks) (λ _. refl) (λ _. refl)

receive-ticks : (p now : ℕ) (s t : System) (told : List (Node × Line)) → Receives p now s t told → t.carrier.ticks ≡ s.carrier.ticks
receive-ticks p now s t _ (full packed same) = ap (λ (u : System). u.carrier.ticks) same
receive-ticks p now s t _ (nothing free none same) = ap (λ (u : System). u.carrier.ticks) same
receive-ticks p now s t _ (by_home i f free next stands to kind takes) = let (home, serves, same) = takes in ap (λ (u : System). u.carrier.ticks) same
receive-ticks p now s t _ (by_node i f free next stands to kind same) = ap (λ (u : System). u.carrier.ticks) same

home-ticks : (p now : ℕ) (s t : System) → HomeSends p now s t → t.carrier.ticks ≡ s.carrier.ticks
home-ticks p now _ _ (ends s none) = refl
home-ticks p now _ _ (refused s mail next packed) = refl
home-ticks p now _ _ (sends s t mail next free rest) = home-ticks p now (without_post p (posted p mail s)) t rest ∙ send-ticks s.carrier p mail.to (message_of p mail)

node-ticks : (p : ℕ) (s t : System) → NodeSends p s t → t.carrier.ticks ≡ s.carrier.ticks
node-ticks p _ _ (ends s none) = refl
node-ticks p _ _ (refused s mail next packed) = refl
node-ticks p _ _ (sends s t mail next free rest) = node-ticks p (without_mail p (posted p mail s)) t rest ∙ send-ticks s.carrier p mail.to (message_of p mail)

pub turn-ticks : (p now : ℕ) (s t : System) (gone : List (Node × Line)) → Turn p now s t gone → t.carrier.ticks ≡ s.carrier.ticks
turn-ticks p now s t gone turn = node-ticks p turn.sent t turn.node ∙ (home-ticks p now turn.taken turn.sent turn.home ∙ receive-ticks p now (begun p now s) turn.taken turn.told turn.receives)

-- ---- the beginning of a turn, by the parts of a node: the caches keep the size of lines

-- the size of lines through a choice
chosen-bytes : (o : Option Way) (f : Way → LevelsView) (levels : LevelsView) → ((way : Way) → (f way).line_bytes ≡ levels.line_bytes) → (option_map_or f o levels).line_bytes ≡ levels.line_bytes
chosen-bytes None f levels same = refl
chosen-bytes (Some way) f levels same = same way

room-bytes : (line : ℕ) (levels : LevelsView) → (with_room line levels).line_bytes ≡ levels.line_bytes
room-bytes line levels =
    chosen-bytes (room_for line levels.second) (λ way. record levels { first = without_victim way.line levels.first; second = with_reserved line levels.second }) levels (λ way. refl)

near-bytes : (line : ℕ) (levels : LevelsView) → (near_if_held line levels).line_bytes ≡ levels.line_bytes
near-bytes line levels = cond_both (held line levels) (brought line levels) levels (λ (x : LevelsView). x.line_bytes ≡ levels.line_bytes) (λ _. refl) (λ _. refl)

arrive-bytes : (latency now : ℕ) (coming : List Coming) (levels : LevelsView) → (arrive latency now coming levels).levels.line_bytes ≡ levels.line_bytes
arrive-bytes latency now [] levels = refl
arrive-bytes latency now (c ∷ cs) levels =
    cond_both (is_due latency now c) (arrive latency now cs (near_if_held c.line levels)) (record { levels = levels; coming = c ∷ cs }) (λ (a : Arrival). a.levels.line_bytes ≡ levels.line_bytes)
    (λ _. arrive-bytes latency now cs (near_if_held c.line levels) ∙ near-bytes c.line levels) (λ _. refl)

filled-bytes : (slot : Option ℕ) (f : ℕ → LevelsView) (levels : LevelsView) → ((k : ℕ) → (f k).line_bytes ≡ levels.line_bytes) → (option_map_or f slot levels).line_bytes ≡ levels.line_bytes
filled-bytes None f levels same = refl
filled-bytes (Some k) f levels same = same k

change-bytes : (change : Change) (line : ℕ) (levels : LevelsView) → (levels_after change line levels).line_bytes ≡ levels.line_bytes
change-bytes Nothing line levels = refl
change-bytes Lose line levels = refl
change-bytes Share line levels = refl
change-bytes (Fill own bytes) line levels = filled-bytes (reserved_slot line levels.second) _ levels (λ slot. refl)
change-bytes EmptySlot line levels = refl
change-bytes FreeSlot line levels = refl

-- a line that leaves is put back
put-bytes : (line : Option Line) (f : Line → NodeView) (v : NodeView) → ((l : Line) → (f l).levels.line_bytes ≡ v.levels.line_bytes) → (option_map_or f line v).levels.line_bytes ≡ v.levels.line_bytes
put-bytes None f v same = refl
put-bytes (Some l) f v same = same l

absent-bytes : (w : Wish) (e : Option Evicted) (v : NodeView) → (starts_absent w e v).after.levels.line_bytes ≡ v.levels.line_bytes
absent-bytes w None v = refl
absent-bytes w (Some e) v =
    let room = record v { levels = with_room w.line v.levels; misses = slots_with e v.misses } in
    put-bytes e.line (λ line. with_mails line.0 (put_for e) room) room (λ line. refl) ∙ room-bytes w.line v.levels

start-bytes : (w : Wish) (v : NodeView) → (starts w v).after.levels.line_bytes ≡ v.levels.line_bytes
start-bytes w v =
    cond_both (is_absent (copy_of v w.line)) (starts_absent w (evicted w.line v.levels) v) (starts_shared w v) (λ (b : Begun). b.after.levels.line_bytes ≡ v.levels.line_bytes)
    (λ _. absent-bytes w (evicted w.line v.levels) v) (λ _. refl)

first-bytes : (now : ℕ) (ws : List Wish) (v : NodeView) → (first_begins now ws v).after.levels.line_bytes ≡ v.levels.line_bytes
first-bytes now [] v = refl
first-bytes now (w ∷ ws) v =
    let rest : NodeView = record v { wishes = ws } in
    let waits : Begun = record { answer = false; after = record v { wishes = w ∷ ws }; lost = [] } in
    let Same : Begun → Type 0 = λ b. b.after.levels.line_bytes ≡ v.levels.line_bytes in
    cond_both (meets w.own (copy_of v w.line)) (met now w rest) (cond (has_to_wait w v) waits (starts w rest)) Same (λ _. refl)
    (λ _. cond_both (has_to_wait w v) waits (starts w rest) Same (λ _. refl) (λ _. start-bytes w rest))

-- ---- what lasts through turns

-- a line has so many bytes
pub bytes-last : (now lb : ℕ) → Lasts now (λ v. v.levels.line_bytes ≡ lb) (λ v. v.levels.line_bytes ≡ lb)
bytes-last now lb = record {
  begin = λ v is.
      let u = arrived now v in
      first-bytes now (uncovered u.misses u.wishes) u ∙ (arrive-bytes v.latency now v.coming v.levels ∙ is);
  message = λ m v is. change-bytes (change_at m v) m.line v.levels ∙ is;
  sent = λ v is. is;
}

-- what is on its way was fetched before
pub coming-lasts : (now : ℕ) → Lasts now (λ v. AreBefore now v.coming) (λ v. AreBefore (suc now) v.coming)
coming-lasts now = record {
  begin = λ v is k d below. omega (arith, begins-before now v is k d below);
  message = λ m v is. is;
  sent = λ v is. is;
}
