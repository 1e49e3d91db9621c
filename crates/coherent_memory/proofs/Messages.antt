-- A message that has come: where it stood, and what may be relied on.
use Rattle.std.proofs.Common.{◌≡◌, ℕ, ◌+◌, ◌*◌, ◌<◌, ◌≤◌, Bool, true, if◌then◌else◌, length, slice_get, Some, sym, subst, ◌∙◌}
use Rattle.std.proofs.Math.Bool.{Bool-set}
use Rattle.std.proofs.Math.Bridge.{le_prop}
use Rattle.std.proofs.Math.Logic.{∥∥₁_elim}
use Rattle.std.proofs.lemmas.Bool.{and_parts, leb-true}
use Rattle.std.proofs.lemmas.Option.{get_or_from_slice_get, slice_get_within}
use Rattle.memory_contracts.specs.Carrier.{Flight}
use Rattle.memory_contracts.specs.Protocol.Events.{is_to_home}
use Rattle.memory_contracts.specs.Letters.{said}
use Rattle.directory.specs.Homes as Homes
use Rattle.node_memory.specs.Nodes as Nodes
use Rattle.node_memory.specs.Nodes.{awaits}
use Rattle.node_memory.specs.Rows.{is_grant}
use Rattle.coherent_memory.specs.SystemInvariants.{GoesRight, IsFine, IsRightFlight}
use Rattle.coherent_memory.specs.Laws.{GrantsAwaited}
use Rattle.coherent_memory.specs.Systems.{System, home_number, is_kept}
use Rattle.coherent_memory.specs.Turns.{rooms}

right-flight : (n i : ℕ) (f : Flight) (s : System) → IsFine n s → slice_get s.carrier.flights i ≡ Some f → IsRightFlight n (is_kept n s) f
right-flight n i f s fine stands =
    let flights = s.carrier.flights in
    let below = slice_get_within flights i f stands in
    subst (λ (g : Flight). IsRightFlight n (is_kept n s) g) (get_or_from_slice_get flights i f f stands) (fine.right.flights i f below)

-- a message for a home: its line is one of the home's, and it is from a node
home-line : (n i p : ℕ) (f : Flight) (s : System) → IsFine n s → slice_get s.carrier.flights i ≡ Some f → f.to ≡ p → is_to_home (said f.message) ≡ true → (s.homes p).lines f.message.line.0 ≡ true
home-line n i p f s fine stands to kind =
    let right = right-flight n i f s fine stands in
    let goes : f.to ≡ home_number n f.message.line.0 = subst (λ (b : Bool). GoesRight n f b) kind right.goes in
    subst (λ (h : ℕ). (s.homes h).lines f.message.line.0 ≡ true) (sym goes ∙ to) right.line

home-from : (n i : ℕ) (f : Flight) (s : System) → IsFine n s → slice_get s.carrier.flights i ≡ Some f → is_to_home (said f.message) ≡ true → f.message.from.0 < n
home-from n i f s fine stands kind =
    let right = right-flight n i f s fine stands in
    subst (λ (b : Bool). (if b then f.message.from.0 else f.to) < n) kind right.party

module _ (n p : ℕ) (s : System) (fine : ∥ IsFine n s ∥₁) (below : p < n) (i : ℕ) (f : Flight) (stands : slice_get s.carrier.flights i ≡ Some f) (to : f.to ≡ p) where
  pub line-kept : is_to_home (said f.message) ≡ true → (s.homes p).lines f.message.line.0 ≡ true
  line-kept kind = ∥∥₁_elim fine (Bool-set _ _) (λ (is : IsFine n s). home-line n i p f s is stands to kind)

  pub from-below : is_to_home (said f.message) ≡ true → f.message.from.0 < (s.homes p).nodes
  from-below kind =
      ∥∥₁_elim fine le_prop (λ (is : IsFine n s). subst (λ (k : ℕ). f.message.from.0 < k) (sym (is.right.homes p below).nodes) (home-from n i f s is stands kind))

  pub grant-awaited : GrantsAwaited → is_grant (said f.message) ≡ true → awaits (s.nodes p) f.message.line.0 ≡ true
  grant-awaited law grant = ∥∥₁_elim fine (Bool-set _ _) (λ (is : IsFine n s). law n p i f s is below stands to grant)

-- the rooms of a home that may take a message
pub room-of : (n p : ℕ) (s : System) → ∥ IsFine n s ∥₁ → p < n → rooms p s ≡ true → length (s.homes p).outgoing + 2 * n ≤ 2048
room-of n p s fine below room =
    let parts = and_parts _ _ room in
    let places = leb-true _ _ (and_parts _ _ parts.0).1 in
    ∥∥₁_elim fine le_prop (λ (is : IsFine n s). subst (λ (k : ℕ). length (s.homes p).outgoing + 2 * k ≤ 2048) (is.right.homes p below).nodes places)

pub home-room : (p : ℕ) (s : System) → rooms p s ≡ true → Homes.has_room (s.homes p) ≡ true
home-room p s room = (and_parts (Homes.has_room (s.homes p)) (Nodes.has_room (s.nodes p)) room).0

pub node-room : (p : ℕ) (s : System) → rooms p s ≡ true → Nodes.has_room (s.nodes p) ≡ true
node-room p s room = (and_parts (Homes.has_room (s.homes p)) (Nodes.has_room (s.nodes p)) room).1
