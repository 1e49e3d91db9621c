-- A tick is determined: of two results of the same tick everything is equal.
use Rattle.std.proofs.Common.{◌≡◌, ℕ, zero, suc, Bool, true, false, List, [], ◌++◌, Option, None, Some, slice_get, refl, sym, ap, subst, ◌∙◌}
use Rattle.std.specs.List.{remove}
use Rattle.rsim_base.specs.declared.memory.Line.{Line}
use Rattle.rsim_base.specs.declared.memory.Node.{Node}
use Rattle.memory_contracts.specs.Carrier.{CarrierView, Flight, next_for}
use Rattle.memory_contracts.specs.Protocol.Events.{is_to_home}
use Rattle.memory_contracts.specs.Letters.{Letter, Mail, letter_of, said}
use Rattle.memory_contracts.specs.declared.message.Message.{Message}
use Rattle.directory.specs.Homes.{HomeView, Serves, ServesOne, home_after}
use Rattle.node_memory.specs.Nodes.{left_from}
use Rattle.node_memory.specs.Rows.{lost_at}
use Rattle.coherent_memory.specs.Determined.{MovesOnce, TicksOnce}
use Rattle.coherent_memory.specs.Stores.{Memory, MemoryTicks, Shape}
use Rattle.coherent_memory.specs.Systems.{System}
use Rattle.coherent_memory.specs.Turns.{HasTicked, HomeSends, HomeTakes, NodeSends, Receives, ServesAll, Turn, Turns, before, begun, by_home, by_node, ends, full, is_refused, lost_at_begin, more, next, next_mail, next_post, node_takes, none, nothing, posted, refused, rooms, sends, with_carrier, with_home, without_flight, without_mail, without_post}

some-once : {A : Type 0} (o : Option A) (x y : A) → o ≡ Some x → o ≡ Some y → x ≡ y
some-once o x y e f = cc

some-or-none : {A : Type 0} (o : Option A) (x : A) → o ≡ Some x → o ≡ None → ⊥
some-or-none o x e f = cc

true-or-false : (b : Bool) → b ≡ true → b ≡ false → ⊥
true-or-false b e f = cc

-- ---- requests that have waited

serves-once : (line now : ℕ) (u v w : HomeView) → ServesOne line now u v → ServesOne line now u w → v ≡ w
serves-once line now u v w a b =
    let places : a.place ≡ b.place = some-once _ a.place b.place a.first b.first in
    let letters : a.letter ≡ b.letter =
    some-once (slice_get u.waiting b.place) a.letter b.letter (subst (λ (k : ℕ). slice_get u.waiting k ≡ Some a.letter) places a.stands) b.stands in
    let taken : ℕ → Letter → HomeView = λ k letter. home_after letter now (record u { waiting = remove u.waiting k }) in
    a.after ∙ ((λ i. taken (places i) (letters i)) ∙ sym b.after)

-- where none is served any more, none was
all-ends : (line now : ℕ) (u v w : HomeView) → Serves line now u v false → ServesAll line now u w → v ≡ w
all-ends line now u v w last (none other) = last.0 ∙ sym other.0
all-ends line now u v w last (more {v = t} one rest) = absurd (some-or-none _ one.place one.first (last.1 one.idle))

-- where one is served, the rest follows
all-goes : (line now : ℕ) (u v w : HomeView) → ServesOne line now u v → ServesAll line now u w → ServesAll line now v w
all-goes line now u v w one (none last) = absurd (some-or-none _ one.place one.first (last.1 one.idle))
all-goes line now u v w one (more {v = t} other rest) = subst (λ (x : HomeView). ServesAll line now x w) (sym (serves-once line now u v t one other)) rest

all-once : (line now : ℕ) (u v w : HomeView) → ServesAll line now u v → ServesAll line now u w → v ≡ w
all-once line now u v w (none last) other = all-ends line now u v w last other
all-once line now u v w (more {v = t} one rest) other = all-once line now t v w rest (all-goes line now u t w one other)

takes-once : (p now : ℕ) (m : Message) (s t u : System) → HomeTakes p now m s t → HomeTakes p now m s u → t ≡ u
takes-once p now m s t u (home, served, is) (other, told, equal) =
    is ∙ (ap (λ (h : HomeView). with_home p h s) (all-once m.line.0 now _ home other served told) ∙ sym equal)

-- ---- a message

abbrev AreSame : System → List (Node × Line) → System → List (Node × Line) → Type 0
AreSame t gone u told = (t ≡ u) × (gone ≡ told)

module _ (p now : ℕ) (s : System) where
  receives-full : (t u : System) (told : List (Node × Line)) → rooms p s ≡ false → t ≡ s → Receives p now s u told → AreSame t [] u told
  receives-full t u _ room is (full other equal) = (is ∙ sym equal, refl)
  receives-full t u _ room is (nothing other empty equal) = absurd (true-or-false _ other room)
  receives-full t u _ room is (by_home i f other chosen stands to kind takes) = absurd (true-or-false _ other room)
  receives-full t u _ room is (by_node i f other chosen stands to kind equal) = absurd (true-or-false _ other room)

  receives-nothing : (t u : System) (told : List (Node × Line)) → rooms p s ≡ true → next_for p s.carrier.flights ≡ None → t ≡ s → Receives p now s u told → AreSame t [] u told
  receives-nothing t u _ room empty is (full other equal) = absurd (true-or-false _ room other)
  receives-nothing t u _ room empty is (nothing other also equal) = (is ∙ sym equal, refl)
  receives-nothing t u _ room empty is (by_home i f other chosen stands to kind takes) = absurd (some-or-none _ i chosen empty)
  receives-nothing t u _ room empty is (by_node i f other chosen stands to kind equal) = absurd (some-or-none _ i chosen empty)

  -- the same message is taken
  flights-once : (i j : ℕ) (f g : Flight) → next_for p s.carrier.flights ≡ Some i → next_for p s.carrier.flights ≡ Some j → slice_get s.carrier.flights i ≡ Some f → slice_get s.carrier.flights j ≡ Some g → (i ≡ j) × (f ≡ g)
  flights-once i j f g first second at there =
      let places : i ≡ j = some-once _ i j first second in
      (places, some-once (slice_get s.carrier.flights j) f g (subst (λ (k : ℕ). slice_get s.carrier.flights k ≡ Some f) places at) there)

  receives-home : (i : ℕ) (f : Flight) (t u : System) (told : List (Node × Line)) → rooms p s ≡ true → next_for p s.carrier.flights ≡ Some i → slice_get s.carrier.flights i ≡ Some f → is_to_home (said f.message) ≡ true → HomeTakes p now f.message (without_flight i s) t → Receives p now s u told → AreSame t [] u told
  receives-home i f t u _ room chosen stands kind takes (full other equal) = absurd (true-or-false _ room other)
  receives-home i f t u _ room chosen stands kind takes (nothing other empty equal) = absurd (some-or-none _ i chosen empty)
  receives-home i f t u _ room chosen stands kind takes (by_home j g other first there to also gives) =
      let (places, flights) = flights-once i j f g chosen first stands there in
      let same : HomeTakes p now g.message (without_flight j s) t =
      subst (λ (k : ℕ). HomeTakes p now g.message (without_flight k s) t) places (subst (λ (h : Flight). HomeTakes p now h.message (without_flight i s) t) flights takes) in
      (takes-once p now g.message (without_flight j s) t u same gives, refl)
  receives-home i f t u _ room chosen stands kind takes (by_node j g other first there to also equal) =
      let (places, flights) = flights-once i j f g chosen first stands there in
      absurd (true-or-false _ (subst (λ (h : Flight). is_to_home (said h.message) ≡ true) flights kind) also)

  receives-node : (i : ℕ) (f : Flight) (t u : System) (told : List (Node × Line)) → rooms p s ≡ true → next_for p s.carrier.flights ≡ Some i → slice_get s.carrier.flights i ≡ Some f → is_to_home (said f.message) ≡ false → t ≡ node_takes p f.message (without_flight i s) → Receives p now s u told → AreSame t (left_from (s.nodes p).at (lost_at (letter_of f.message) (s.nodes p))) u told
  receives-node i f t u _ room chosen stands kind is (full other equal) = absurd (true-or-false _ room other)
  receives-node i f t u _ room chosen stands kind is (nothing other empty equal) = absurd (some-or-none _ i chosen empty)
  receives-node i f t u _ room chosen stands kind is (by_home j g other first there to also takes) =
      let (places, flights) = flights-once i j f g chosen first stands there in
      absurd (true-or-false _ also (subst (λ (h : Flight). is_to_home (said h.message) ≡ false) flights kind))
  receives-node i f t u _ room chosen stands kind is (by_node j g other first there to also equal) =
      let (places, flights) = flights-once i j f g chosen first stands there in (
        is ∙ ((λ k. node_takes p ((flights k).message) (without_flight (places k) s)) ∙ sym equal),
        ap (λ (h : Flight). left_from (s.nodes p).at (lost_at (letter_of h.message) (s.nodes p))) flights,
      )

  receives-once : (t u : System) (gone told : List (Node × Line)) → Receives p now s t gone → Receives p now s u told → AreSame t gone u told
  receives-once t u _ told (full room is) other = receives-full t u told room is other
  receives-once t u _ told (nothing room empty is) other = receives-nothing t u told room empty is other
  receives-once t u _ told (by_home i f room chosen stands to kind takes) other = receives-home i f t u told room chosen stands kind takes other
  receives-once t u _ told (by_node i f room chosen stands to kind is) other = receives-node i f t u told room chosen stands kind is other

-- ---- what is sent

module _ (p now : ℕ) where
  home-ends : (s t : System) → next_post p now s ≡ None → HomeSends p now s t → t ≡ s
  home-ends _ _ empty (ends s last) = refl
  home-ends _ _ empty (refused s mail chosen room) = refl
  home-ends _ _ empty (sends s t mail chosen room rest) = absurd (some-or-none _ mail chosen empty)

  home-stops : (s t : System) (mail : Mail) → next_post p now s ≡ Some mail → is_refused p mail s ≡ true → HomeSends p now s t → t ≡ s
  home-stops _ _ mail first packed (ends s last) = refl
  home-stops _ _ mail first packed (refused s other chosen room) = refl
  home-stops _ _ mail first packed (sends s t other chosen room rest) =
      absurd (true-or-false _ (subst (λ (m : Mail). is_refused p m s ≡ true) (some-once _ mail other first chosen) packed) room)

  home-goes : (s t : System) (mail : Mail) → next_post p now s ≡ Some mail → is_refused p mail s ≡ false → HomeSends p now s t → HomeSends p now (without_post p (posted p mail s)) t
  home-goes _ _ mail first free (ends s last) = absurd (some-or-none _ mail first last)
  home-goes _ _ mail first free (refused s other chosen room) =
      absurd (true-or-false _ room (subst (λ (m : Mail). is_refused p m s ≡ false) (some-once _ mail other first chosen) free))
  home-goes _ _ mail first free (sends s t other chosen room rest) =
      subst (λ (m : Mail). HomeSends p now (without_post p (posted p m s)) t) (some-once _ other mail chosen first) rest

  home-once : (s t u : System) → HomeSends p now s t → HomeSends p now s u → t ≡ u
  home-once _ _ u (ends s last) other = sym (home-ends s u last other)
  home-once _ _ u (refused s mail chosen room) other = sym (home-stops s u mail chosen room other)
  home-once _ _ u (sends s t mail chosen room rest) other = home-once (without_post p (posted p mail s)) t u rest (home-goes s u mail chosen room other)

  node-ends : (s t : System) → next_mail p s ≡ None → NodeSends p s t → t ≡ s
  node-ends _ _ empty (ends s last) = refl
  node-ends _ _ empty (refused s mail chosen room) = refl
  node-ends _ _ empty (sends s t mail chosen room rest) = absurd (some-or-none _ mail chosen empty)

  node-stops : (s t : System) (mail : Mail) → next_mail p s ≡ Some mail → is_refused p mail s ≡ true → NodeSends p s t → t ≡ s
  node-stops _ _ mail first packed (ends s last) = refl
  node-stops _ _ mail first packed (refused s other chosen room) = refl
  node-stops _ _ mail first packed (sends s t other chosen room rest) =
      absurd (true-or-false _ (subst (λ (m : Mail). is_refused p m s ≡ true) (some-once _ mail other first chosen) packed) room)

  node-goes : (s t : System) (mail : Mail) → next_mail p s ≡ Some mail → is_refused p mail s ≡ false → NodeSends p s t → NodeSends p (without_mail p (posted p mail s)) t
  node-goes _ _ mail first free (ends s last) = absurd (some-or-none _ mail first last)
  node-goes _ _ mail first free (refused s other chosen room) =
      absurd (true-or-false _ room (subst (λ (m : Mail). is_refused p m s ≡ false) (some-once _ mail other first chosen) free))
  node-goes _ _ mail first free (sends s t other chosen room rest) =
      subst (λ (m : Mail). NodeSends p (without_mail p (posted p m s)) t) (some-once _ other mail chosen first) rest

  node-once : (s t u : System) → NodeSends p s t → NodeSends p s u → t ≡ u
  node-once _ _ u (ends s last) other = sym (node-ends s u last other)
  node-once _ _ u (refused s mail chosen room) other = sym (node-stops s u mail chosen room other)
  node-once _ _ u (sends s t mail chosen room rest) other = node-once (without_mail p (posted p mail s)) t u rest (node-goes s u mail chosen room other)

-- ---- turns

turn-once : (p now : ℕ) (s t u : System) (gone told : List (Node × Line)) → Turn p now s t gone → Turn p now s u told → AreSame t gone u told
turn-once p now s t u gone told a b =
    let (taken, lost) = receives-once p now (begun p now s) a.taken b.taken a.told b.told a.receives b.receives in
    let sent : a.sent ≡ b.sent = home-once p now b.taken a.sent b.sent (subst (λ (x : System). HomeSends p now x a.sent) taken a.home) b.home in (
      node-once p now b.sent t u (subst (λ (x : System). NodeSends p x t) sent a.node) b.node,
      a.lost ∙ (ap (λ (xs : List (Node × Line)). lost_at_begin p now s ++ xs) lost ∙ sym b.lost),
    )

-- what has gone before the last turn
abbrev HasBefore : ℕ → System → ℕ → System → List (Node × Line) → Type 0
HasBefore now s zero u told = (u ≡ s) × (told ≡ [])
HasBefore now s (suc p) u told = (t : System) × (lost last : List (Node × Line)) × Turns now s p t lost × Turn p now t u last × (told ≡ lost ++ last)

turns-before : (now : ℕ) (s : System) (m : ℕ) (u : System) (told : List (Node × Line)) → Turns now s m u told → HasBefore now s m u told
turns-before now s _ _ _ before = (refl, refl)
turns-before now s _ _ _ (next p t u lost last turns turn) = (t, lost, last, turns, turn, refl)

turns-once : (now : ℕ) (s : System) (m : ℕ) (t u : System) (gone told : List (Node × Line)) → Turns now s m t gone → Turns now s m u told → AreSame t gone u told
turns-once now s zero t u gone told a b =
    let (is, empty) = turns-before now s zero t gone a in
    let (equal, also) = turns-before now s zero u told b in
    (is ∙ sym equal, empty ∙ sym also)
turns-once now s (suc p) t u gone told a b =
    let (x, lost, last, turns, turn, is) = turns-before now s (suc p) t gone a in
    let (y, left, end, others, other, equal) = turns-before now s (suc p) u told b in
    let (same, fronts) = turns-once now s p x y lost left turns others in
    let (after, lasts) = turn-once p now y t u last end (subst (λ (z : System). Turn p now z t last) same turn) other in
    (after, is ∙ ((λ i. fronts i ++ lasts i) ∙ sym equal))

-- ---- a tick

pub ticks-once : (Moves : CarrierView → CarrierView → Type 0) → MovesOnce Moves → TicksOnce Moves
ticks-once Moves once m t u gone told a b =
    let first = a.system in
    let second = b.system in
    let (turned, lost) = turns-once m.ticks m.system m.shape.nodes first.turned second.turned gone told first.turns second.turns in
    let carriers : t.system.carrier ≡ u.system.carrier =
    once second.turned.carrier t.system.carrier u.system.carrier (subst (λ (x : System). Moves x.carrier t.system.carrier) turned first.moves) second.moves in
    let systems : t.system ≡ u.system = first.rest ∙ ((λ i. with_carrier (carriers i) (turned i)) ∙ sym second.rest) in
    let shapes : t.shape ≡ u.shape = a.shape ∙ sym b.shape in
    let ticks : t.ticks ≡ u.ticks = a.ticks ∙ sym b.ticks in
    ((λ i. record { shape = shapes i; ticks = ticks i; system = systems i }), lost)
