-- Messages stay where they belong where one home, one node or the carrier changes.
use Rattle.std.proofs.Common.{◌≡◌, ℕ, ◌<◌, Bool, true, false, cond, All, [], ◌∷◌, ◌++◌, refl, sym, ap, ◌∙◌, subst}
use Rattle.std.proofs.lemmas.List.Elements.{All-push}
use Rattle.std.proofs.lemmas.Nat.{mod_below}
use Rattle.memory_contracts.specs.Carrier.{CarrierView, after_send, class_of, is_full, sends}
use Rattle.memory_contracts.specs.Protocol.Events.{is_to_home, is_to_node}
use Rattle.memory_contracts.specs.Protocol.Messages as Says
use Rattle.memory_contracts.specs.Protocol.Messages.{GetS, GetM, Put, Inv, Recall, Grant, PutAck, InvAck, RecallAck, Done}
use Rattle.memory_contracts.specs.Letters.{said}
use Rattle.memory_contracts.specs.declared.message.Message.{Message}
use Rattle.directory.specs.Homes.{HomeView}
use Rattle.node_memory.specs.Nodes.{NodeView}
use Rattle.coherent_memory.specs.SystemInvariants.{GoesRight, IsRight, IsRightFlight, IsRightHome, IsRightNode}
use Rattle.coherent_memory.specs.Systems.{System, home_number, is_kept}
use Rattle.coherent_memory.specs.Turns.{with_carrier, with_home, with_node}
use Rattle.coherent_memory.proofs.Places.{with_at-both}

pub right_with_home : {n : ℕ} {kept : ℕ → Bool} {s : System} (p : ℕ) (h : HomeView) → IsRight n kept s → (p < n → IsRightHome n kept p h) → IsRight n kept (with_home p h s)
right_with_home {n = n} {kept = kept} {s = s} p h right home = record {
  homes = λ q below. with_at-both (λ v. IsRightHome n kept q v) s.homes p h q
      (λ same. subst (λ q. IsRightHome n kept q h) (sym same) (home (subst (λ q. q < n) same below)))
      (λ other. right.homes q below);
  nodes = right.nodes;
  flights = right.flights;
}

pub right_with_node : {n : ℕ} {kept : ℕ → Bool} {s : System} (p : ℕ) (v : NodeView) → IsRight n kept s → (p < n → IsRightNode n kept p v) → IsRight n kept (with_node p v s)
right_with_node {n = n} {kept = kept} {s = s} p v right node = record {
  homes = right.homes;
  nodes = λ q below. with_at-both (λ w. IsRightNode n kept q w) s.nodes p v q
      (λ same. subst (λ q. IsRightNode n kept q v) (sym same) (node (subst (λ q. q < n) same below)))
      (λ other. right.nodes q below);
  flights = right.flights;
}

pub right_with_carrier : {n : ℕ} {kept : ℕ → Bool} {s : System} (carrier : CarrierView) → IsRight n kept s → All (IsRightFlight n kept) carrier.flights → IsRight n kept (with_carrier carrier s)
right_with_carrier carrier right flights = record { homes = right.homes; nodes = right.nodes; flights = flights }

-- ---- the lines that are kept

pub kept_with_home : (n p : ℕ) (h : HomeView) (s : System) → h.lines ≡ (s.homes p).lines → is_kept n (with_home p h s) ≡ is_kept n s
kept_with_home n p h s same = λ i l. at l i
  where
    at : (l : ℕ) → is_kept n (with_home p h s) l ≡ is_kept n s l
    at l = with_at-both (λ v. v.lines l ≡ is_kept n s l) s.homes p h (home_number n l)
        (λ here. ap (λ f. f l) same ∙ ap (λ q. (s.homes q).lines l) (sym here))
        (λ other. refl)

-- ---- a message that is sent

pub to_node_only : (m : Says.Message) → is_to_node m ≡ true → is_to_home m ≡ false
to_node_only Inv e = refl
to_node_only (Recall own) e = refl
to_node_only (Grant own bytes) e = refl
to_node_only PutAck e = refl
to_node_only m e = absurd cc

-- to a node
pub right_to_node : {n : ℕ} {kept : ℕ → Bool} (v : CarrierView) (p to : ℕ) (m : Message)
    → kept m.line.0 ≡ true
    → to < n
    → is_to_node (said m) ≡ true
    → IsRightFlight n kept (sends v p to m)
right_to_node {n = n} v p to m kept below kind =
    let other : is_to_home (said m) ≡ false = to_node_only (said m) kind in
    record {
      line = kept;
      to = below;
      party = subst (λ b. cond b m.from.0 to < n) (sym other) below;
      goes = subst (λ b. GoesRight n (sends v p to m) b) (sym other) kind;
    }

-- to the home of its line
pub right_to_home : {n : ℕ} {kept : ℕ → Bool} (v : CarrierView) (p to : ℕ) (m : Message)
    → 0 < n
    → kept m.line.0 ≡ true
    → to ≡ home_number n m.line.0
    → m.from.0 < n
    → is_to_home (said m) ≡ true
    → IsRightFlight n kept (sends v p to m)
right_to_home {n = n} v p to m some kept at_home below kind = record {
  line = kept;
  to = subst (λ q. q < n) (sym at_home) (mod_below m.line.0 n some);
  party = subst (λ b. cond b m.from.0 to < n) (sym kind) below;
  goes = subst (λ b. GoesRight n (sends v p to m) b) (sym kind) at_home;
}

pub right_posted : {n : ℕ} {kept : ℕ → Bool} {s : System} (p to : ℕ) (m : Message)
    → is_full s.carrier p (class_of m.kind) ≡ false
    → IsRight n kept s
    → IsRightFlight n kept (sends s.carrier p to m)
    → IsRight n kept (with_carrier (after_send s.carrier p to m) s)
right_posted {n = n} {kept = kept} {s = s} p to m room right sent =
    subst (λ b. IsRight n kept (with_carrier (cond b s.carrier (record (s.carrier) { flights = s.carrier.flights ++ sends s.carrier p to m ∷ [] })) s))
    (sym room)
    (right_with_carrier (record (s.carrier) { flights = s.carrier.flights ++ sends s.carrier p to m ∷ [] }) right
    (All-push (IsRightFlight n kept) s.carrier.flights (sends s.carrier p to m) right.flights sent))
