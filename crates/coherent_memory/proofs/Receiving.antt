-- A node takes a message of a home.
use Rattle.std.proofs.Common.{◌≡◌, ℕ, ◌<◌, ◌==◌, Bool, true, false, cond, List, [], ◌∷◌, All, refl, sym, ap, subst, ◌∙◌}
use Rattle.std.specs.List.{remove}
use Rattle.std.proofs.lemmas.Bool.{eqb-true}
use Rattle.std.proofs.lemmas.List.Elements.{All-cons, All-nil}
use Rattle.machine_config.specs.declared.config.Protocol.TheVariants.{Msi}
use Rattle.memory_contracts.specs.Protocol.Coherent.{Coherent}
use Rattle.memory_contracts.specs.Protocol.Events.{is_to_home, is_to_node}
use Rattle.memory_contracts.specs.Protocol.Lines.{Absent, Cell, Copy, Emptied, Evicting, Owned, Shared, all_mailed, with_cell}
use Rattle.memory_contracts.specs.Protocol.Messages.{Done, Grant, Inv, InvAck, Message, PutAck, Recall, RecallAck}
use Rattle.memory_contracts.specs.Protocol.NodeTable.{NodeStep, after_message, node_takes}
use Rattle.memory_contracts.specs.Letters.{Letter, letter_of}
use Rattle.memory_contracts.specs.Updates.{with_at}
use Rattle.node_memory.specs.Nodes.{NodeView}
use Rattle.node_memory.specs.Rows as rows
use Rattle.node_memory.specs.Sides.{Side, side_of, takes_message, takes_step}
use Rattle.coherent_memory.specs.SystemInvariants.{GoesRight, IsRightFlight}
use Rattle.coherent_memory.specs.Laws.{NodeTakesKeeps}
use Rattle.coherent_memory.specs.Systems.{System, content, is_kept, line_of, party}
use Rattle.coherent_memory.specs.Turns.{node_takes as taken_at, with_node, without_flight}
use Rattle.coherent_memory.proofs.Adding.{flight_more}
use Rattle.coherent_memory.proofs.Awaiting.{grants_awaited}
use Rattle.coherent_memory.proofs.Keeping.{ProtocolLaws, keeps, node_takes_keeps}
use Rattle.coherent_memory.proofs.Lines.{HasMore, more_at, more_away}
use Rattle.coherent_memory.proofs.NodeLaws.{NodeLaws}
use Rattle.coherent_memory.proofs.NodeRights.{IsRightSide, right-copies, right-node, right-sends, right-side}
use Rattle.coherent_memory.proofs.Places.{All-at_place, All-remove, eqb-sym, with_at-other, with_at-same}
use Rattle.coherent_memory.proofs.Rights.{right_with_carrier, right_with_node}
use Rattle.coherent_memory.proofs.Sides.{ChangesAt, changes-away, changes-there, copy-there, register-there, seen, seen-other, seen-own, standing}

-- ---- the side of a node that takes a message

step-changes : (line : ℕ) (step : NodeStep) (a : Side) → ChangesAt line step.sent step.copy step.register a (takes_step line step a)
step-changes line step a = record {
  there_copy = with_at-same a.copies line step.copy;
  there_register = with_at-same a.registers line step.register;
  copies = λ l other. with_at-other a.copies line step.copy l other;
  registers = λ l other. with_at-other a.registers line step.register l other;
  outbox = refl;
}

-- what the table says that a cell becomes
abbrev does : NodeStep → Cell → Cell
does step c = all_mailed step.sent (standing step.copy step.register c)

does-same : (m : Message) (copy : Copy) (register : Bool) (c : Cell) → c.stance.copy ≡ copy → c.stance.register ≡ register → after_message m c ≡ does (node_takes m copy register) c
does-same m copy register c e f = ap (λ k. does (node_takes m k c.stance.register) c) e ∙ ap (λ r. does (node_takes m copy r) c) f

-- ---- its answers go to the home

one-home : (m : Message) → is_to_home m ≡ true → All (λ k. is_to_home k ≡ true) (m ∷ [])
one-home m e = All-cons (λ k. is_to_home k ≡ true) m [] e (All-nil (λ k. is_to_home k ≡ true))

answers-home : (m : Message) (copy : Copy) (register : Bool) → All (λ k. is_to_home k ≡ true) (node_takes m copy register).sent
answers-home Inv (Shared bytes) register = one-home InvAck refl
answers-home Inv Absent register = one-home InvAck refl
answers-home (Recall false) (Owned bytes) register = one-home (RecallAck true bytes) refl
answers-home (Recall true) (Owned bytes) register = one-home (RecallAck false bytes) refl
answers-home (Recall false) (Evicting bytes) register = one-home (RecallAck false bytes) refl
answers-home (Recall true) (Evicting bytes) register = one-home (RecallAck false bytes) refl
answers-home PutAck (Evicting bytes) register = All-nil (λ k. is_to_home k ≡ true)
answers-home PutAck Emptied register = All-nil (λ k. is_to_home k ≡ true)
answers-home (Grant own bytes) Absent register = one-home Done refl
answers-home (Grant own bytes) (Shared old) register = one-home Done refl
answers-home m copy register = All-nil (λ k. is_to_home k ≡ true)

right-takes : (n : ℕ) (kept : ℕ → Bool) (m : Letter) (a : Side) → kept m.line ≡ true → IsRightSide n kept a → IsRightSide n kept (takes_message m a)
right-takes n kept m a there right =
    let step = node_takes m.message (a.copies m.line) (a.registers m.line) in
    right-sends n kept m.line step.sent
    (record a { copies = with_at a.copies m.line step.copy; registers = with_at a.registers m.line step.register })
    there (answers-home m.message (a.copies m.line) (a.registers m.line))
    (record { nodes = right.nodes; outbox = right.outbox; copies = right-copies kept a.copies m.line step.copy right.copies (λ held. there) })

-- ---- the lines

module _ (laws : ProtocolLaws) (n p : ℕ) (m : Letter) (r s : System) (below : p < n) (kind : is_to_node m.message ≡ true) (more : HasMore n m.line p m.message r s)
    (v : NodeView) (follows : side_of v ≡ takes_message m (side_of (r.nodes p))) where
  taken-there : (g : List ℕ) → Coherent n g (line_of n s m.line) → Coherent n g (seen n r p (takes_message m (side_of (r.nodes p))) m.line)
  taken-there g co =
      let a = side_of (r.nodes p) in
      let l = line_of n r m.line in
      let done : Coherent n g (with_cell p (after_message m.message (l.at p)) l) =
      node_takes_keeps laws Msi n p m.message g l below kind (laws.order n g _ _ (more_at more) co) in
      laws.order n g _ _ (changes-there n p r m.line _ _ _ a (takes_message m a) (step-changes m.line (node_takes m.message (a.copies m.line) (a.registers m.line)) a))
      (subst (λ c. Coherent n g (with_cell p c l)) (does-same m.message (a.copies m.line) (a.registers m.line) (l.at p) (copy-there n r p a m.line) (register-there n r p a m.line)) done)

  taken-away : (l : ℕ) (g : List ℕ) → (l == m.line) ≡ false → Coherent n g (line_of n s l) → Coherent n g (seen n r p (takes_message m (side_of (r.nodes p))) l)
  taken-away l g other co =
      let a = side_of (r.nodes p) in
      laws.order n g _ _ (changes-away n p r m.line _ _ _ a (takes_message m a) (step-changes m.line (node_takes m.message (a.copies m.line) (a.registers m.line)) a) l other)
      (subst (λ k. Coherent n g k) (sym (seen-own n r p l)) (laws.order n g _ _ (more_away more l (eqb-sym l m.line false other)) co))

  taken-keeps : (l : ℕ) (g : List ℕ) → Coherent n g (line_of n s l) → Coherent n g (line_of n (with_node p v r) l)
  taken-keeps l g co =
      subst (λ k. Coherent n g k) (seen-other n r p v l) (subst (λ (a : Side). Coherent n g (seen n r p a l)) (sym follows) (by (l == m.line) refl))
    where
      by : (b : Bool) → (l == m.line) ≡ b → Coherent n g (seen n r p (takes_message m (side_of (r.nodes p))) l)
      by true e =
          let same = eqb-true l m.line e in
          subst (λ k. Coherent n g (seen n r p (takes_message m (side_of (r.nodes p))) k)) (sym same)
          (taken-there g (subst (λ k. Coherent n g (line_of n s k)) same co))
      by false e = taken-away l g e co

-- ---- all of memory

pub node_takes_message : ProtocolLaws → NodeLaws → NodeTakesKeeps
node_takes_message laws node n p i f s fine below sound at to from =
    let m = letter_of f.message in
    let r = without_flight i s in
    let v = s.nodes p in
    let w = rows.after_message m v in
    let flight : IsRightFlight n (is_kept n s) f = All-at_place (IsRightFlight n (is_kept n s)) s.carrier.flights i f fine.right.flights at in
    let kind : is_to_node m.message ≡ true = subst (λ b. GoesRight n f b) from flight.goes in
    let at_p : party f ≡ p = ap (λ b. cond b f.message.from.0 f.to) from ∙ to in
    let more : HasMore n m.line p m.message r s = subst (λ y. HasMore n m.line y m.message r s) at_p (flight_more n i f s at) in
    let follows = node.message m v sound (λ grants. grants_awaited laws n p i f s fine below at to grants) in
    let before = fine.right.nodes p below in
    keeps laws n s (taken_at p f.message r) fine.some refl
    (right_with_node p w
    (right_with_carrier (record (s.carrier) { flights = remove s.carrier.flights i }) fine.right (All-remove (IsRightFlight n (is_kept n s)) s.carrier.flights i fine.right.flights))
    (λ inside. right-node n (is_kept n s) p w before.at before.wishes
    (subst (λ (a : Side). IsRightSide n (is_kept n s) a) (sym follows) (right-takes n (is_kept n s) m (side_of v) flight.line (right-side n (is_kept n s) p v before)))))
    (λ l kept. taken-keeps laws n p m r s below kind more w follows l (content n s l) (fine.lines l kept))
