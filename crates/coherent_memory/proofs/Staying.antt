-- What says nothing new: the carrier ticks, and a node reads or wishes.
use Rattle.std.proofs.Common.{◌≡◌, ℕ, ◌<◌, Bool, List, All, map, ◌++◌, refl, sym, ap, ◌∙◌, subst}
use Rattle.std.specs.List.{flat_map}
use Rattle.std.proofs.lemmas.List.{length-map}
use Rattle.std.proofs.lemmas.List.Elements.{All-map, All-weaker}
use Rattle.std.proofs.lemmas.List.Folds.{flat_map-map}
use Rattle.std.proofs.Math.ListN.{get_or-map}
use Rattle.memory_contracts.specs.Carrier.{CarrierView, Flight, unmarked}
use Rattle.memory_contracts.specs.Protocol.NodeTable.{is_held}
use Rattle.memory_contracts.specs.Letters.{Mail}
use Rattle.node_memory.specs.Nodes.{NodeView, awaits, copy_of}
use Rattle.node_memory.specs.Sides.{side_of}
use Rattle.coherent_memory.specs.SystemInvariants.{IsRightFlight, IsRightMail}
use Rattle.coherent_memory.specs.Laws.{CarryingKeeps, NothingKeeps}
use Rattle.coherent_memory.specs.Systems.{System, between, home_at, is_kept, of_flight, of_mail}
use Rattle.coherent_memory.specs.Turns.{with_carrier, with_node}
use Rattle.coherent_memory.proofs.Adding.{between_in, to_be_sent, under_way, waiting_for}
use Rattle.coherent_memory.proofs.Alike.{AreReordered, AreReordered-refl, AreReordered-same}
use Rattle.coherent_memory.proofs.Keeping.{ProtocolLaws, keeps_alike}
use Rattle.coherent_memory.proofs.Lines.{IsSameLine, same_alike}
use Rattle.coherent_memory.proofs.Places.{with_at-both}
use Rattle.coherent_memory.proofs.Rights.{right_with_carrier, right_with_node}

-- ---- the carrier

-- what is said does not depend on what has arrived
under_way-unmarked : (l x : ℕ) (flights : List Flight) → flat_map (of_flight l x) (map unmarked flights) ≡ under_way l x flights
under_way-unmarked l x flights = flat_map-map (of_flight l x) unmarked flights

marks_free : (l x : ℕ) (old new : List Flight) → map unmarked new ≡ map unmarked old → under_way l x old ≡ under_way l x new
marks_free l x old new same = sym (under_way-unmarked l x old) ∙ (ap (flat_map (of_flight l x)) (sym same) ∙ under_way-unmarked l x new)

right_marked : {n : ℕ} {kept : ℕ → Bool} (f : Flight) → IsRightFlight n kept f → IsRightFlight n kept (unmarked f)
right_marked f right = record { line = right.line; to = right.to; party = right.party; goes = right.goes }

right_unmarked : {n : ℕ} {kept : ℕ → Bool} (f : Flight) → IsRightFlight n kept (unmarked f) → IsRightFlight n kept f
right_unmarked f right = record { line = right.line; to = right.to; party = right.party; goes = right.goes }

All-mapped : {A B : Type 0} (P : B → Type 0) (f : A → B) (xs : List A) → All P (map f xs) → All (λ x. P (f x)) xs
All-mapped P f xs all k d below = subst P (get_or-map f xs k d) (all k (f d) (subst (λ n. k < n) (sym (length-map xs f)) below))

right_flights : (n : ℕ) (kept : ℕ → Bool) (old new : List Flight) → map unmarked new ≡ map unmarked old → All (IsRightFlight n kept) old → All (IsRightFlight n kept) new
right_flights n kept old new same right =
    All-weaker (λ f. IsRightFlight n kept (unmarked f)) (IsRightFlight n kept) (λ f. right_unmarked f) new
    (All-mapped (IsRightFlight n kept) unmarked new
    (subst (λ fs. All (IsRightFlight n kept) fs) (sym same)
    (All-map (IsRightFlight n kept) unmarked old (All-weaker (IsRightFlight n kept) (λ f. IsRightFlight n kept (unmarked f)) (λ f. right_marked f) old right))))

same_with_carrier : (n l : ℕ) (carrier : CarrierView) (s : System) → map unmarked carrier.flights ≡ map unmarked s.carrier.flights → IsSameLine n l s (with_carrier carrier s)
same_with_carrier n l carrier s same = record {
  records = refl;
  copies = λ x. refl;
  registers = λ x. refl;
  messages = λ x. AreReordered-same (ap (λ ms. to_be_sent l x (home_at n s l) ++ (ms ++ (flat_map (of_mail l) (s.nodes x).outbox ++ waiting_for l x (home_at n s l))))
      (marks_free l x s.carrier.flights carrier.flights same));
}

pub carrying_keeps : ProtocolLaws → CarryingKeeps
carrying_keeps laws n carrier s fine ticks =
    keeps_alike laws n s (with_carrier carrier s) fine
    refl
    (right_with_carrier carrier fine.right (right_flights n (is_kept n s) s.carrier.flights carrier.flights ticks.stay fine.right.flights))
    (λ l. same_alike (same_with_carrier n l carrier s ticks.stay))

-- ---- a node of which the protocol sees the same

pub same_with_node : (n l p : ℕ) (v : NodeView) (s : System) → side_of v ≡ side_of (s.nodes p) → IsSameLine n l s (with_node p v s)
same_with_node n l p v s same = record {
  records = refl;
  copies = λ x. with_at-both (λ w. copy_of (s.nodes x) l ≡ copy_of w l) s.nodes p v x (λ here. ap (λ q. copy_of (s.nodes q) l) here ∙ sym (ap (λ side. side.copies l) same)) (λ other. refl);
  registers = λ x. with_at-both (λ w. awaits (s.nodes x) l ≡ awaits w l) s.nodes p v x (λ here. ap (λ q. awaits (s.nodes q) l) here ∙ sym (ap (λ side. side.registers l) same)) (λ other. refl);
  messages = λ x. with_at-both (λ w. AreReordered (between n s l x) (between_in l x (home_at n s l) s.carrier.flights w)) s.nodes p v x
      (λ here. AreReordered-same (ap (λ (outbox : List Mail). to_be_sent l x (home_at n s l) ++ (under_way l x s.carrier.flights ++ (flat_map (of_mail l) outbox ++ waiting_for l x (home_at n s l))))
      (ap (λ q. (s.nodes q).outbox) here ∙ sym (ap (λ side. side.outbox) same))))
      (λ other. AreReordered-refl (between n s l x));
}

pub nothing_keeps : ProtocolLaws → NothingKeeps
nothing_keeps laws n p v s fine below same at wishes =
    let node = fine.right.nodes p below in
    keeps_alike laws n s (with_node p v s) fine
    refl
    (right_with_node p v fine.right (λ known. record {
      at = at ∙ node.at;
      nodes = ap (λ side. side.nodes) same ∙ node.nodes;
      outbox = subst (λ outbox. All (IsRightMail n (is_kept n s)) outbox) (sym (ap (λ side. side.outbox) same)) node.outbox;
      wishes = wishes;
      copies = λ l held. node.copies l (ap is_held (sym (ap (λ side. side.copies l) same)) ∙ held);
    }))
    (λ l. same_alike (same_with_node n l p v s same))
