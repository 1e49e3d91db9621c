-- The lines that leave a node in its turn: at its begin, and with a message.
use Rattle.std.proofs.Common.{◌≡◌, ℕ, ◌≤◌, ◌==◌, Bool, true, false, cond, ◌&&◌, not, List, [], ◌∷◌, length, refl, sym, ap, subst, ◌∙◌, true≢false, arith}
use Rattle.std.proofs.Math.Bool.{and-true, or-false}
use Rattle.std.proofs.lemmas.Bool.{and_from, and_right, eqb-true}
use Rattle.std.proofs.lemmas.Bool.Decides.{nat_tests}
use Rattle.memory_contracts.specs.Protocol.Lines.{Copy, Absent, Shared, Owned, Evicting, Emptied}
use Rattle.memory_contracts.specs.Protocol.Messages.{Message, Inv, Recall, Grant, PutAck}
use Rattle.memory_contracts.specs.Protocol.NodeTable.{NodeStep, evicted, is_held, node_takes}
use Rattle.memory_contracts.specs.Letters.{Letter}
use Rattle.memory_contracts.specs.Store.{Wish}
use Rattle.memory_contracts.specs.Updates.{with_at}
use Rattle.node_memory.specs.Rows.{is_grant}
use Rattle.node_memory.specs.Sides.{Begins, evicts, starts, stays, Side, asks_for, evicts_line, takes_message, takes_step}
use Rattle.coherent_memory.proofs.Lost.{and-not, are_lines}
use Rattle.coherent_memory.proofs.Places.{with_at-other}

-- ---- a node begins

-- at most one line leaves, which is not awaited, and none comes
pub record LeavesOne (old new : Side) (lost : List ℕ) : Type 0 where
  pub few : length lost ≤ 1
  pub exactly : (l : ℕ) → are_lines lost l ≡ (is_held (old.copies l) && not (is_held (new.copies l)))
  pub comes : (l : ℕ) → is_held (old.copies l) ≡ false → is_held (new.copies l) ≡ false
  pub awaited : (l : ℕ) → is_held (old.copies l) ≡ true → is_held (new.copies l) ≡ false → new.registers l ≡ false

leaves-none : (old new : Side) → new.copies ≡ old.copies → LeavesOne old new []
leaves-none old new same = record {
  few = omega arith;
  exactly = λ l. sym (ap (λ (c : ℕ → Copy). is_held (old.copies l) && not (is_held (c l))) same ∙ and-not (is_held (old.copies l)));
  comes = λ l gone. ap (λ (c : ℕ → Copy). is_held (c l)) same ∙ gone;
  awaited = λ l there gone. absurd (true≢false (sym there ∙ sym (ap (λ (c : ℕ → Copy). is_held (c l)) same) ∙ gone));
}

pub evicted-not_held : (c : Copy) → is_held (evicted c) ≡ false
evicted-not_held Absent = refl
evicted-not_held (Shared bytes) = refl
evicted-not_held (Owned bytes) = refl
evicted-not_held (Evicting bytes) = refl
evicted-not_held Emptied = refl

flip : (x y : ℕ) → (x == y) ≡ (y == x)
flip x y = grind (arith, nat_tests)

-- the line leaves
module _ (old : Side) (line victim : ℕ) (own : Bool) (other : (victim == line) ≡ false) (held : is_held (old.copies victim) ≡ true) (shut : old.registers victim ≡ false) where
  victim-leaves : (l : ℕ) (b : Bool) → (l == victim) ≡ b → b ≡ (is_held (old.copies l) && not (is_held (cond b (evicted (old.copies victim)) (old.copies l))))
  victim-leaves l true e =
      sym (and_from (is_held (old.copies l)) (not (is_held (evicted (old.copies victim))))
      (ap (λ (x : ℕ). is_held (old.copies x)) (eqb-true l victim e) ∙ held) (ap not (evicted-not_held (old.copies victim))))
  victim-leaves l false e = sym (and-not (is_held (old.copies l)))

  none-comes : (l : ℕ) (b : Bool) → is_held (old.copies l) ≡ false → is_held (cond b (evicted (old.copies victim)) (old.copies l)) ≡ false
  none-comes l true gone = evicted-not_held (old.copies victim)
  none-comes l false gone = gone

  victim-unawaited : (l : ℕ) (b : Bool) → (l == victim) ≡ b → is_held (old.copies l) ≡ true → is_held (cond b (evicted (old.copies victim)) (old.copies l)) ≡ false → with_at old.registers line true l ≡ false
  victim-unawaited l true e there gone =
      let same = eqb-true l victim e in
      with_at-other old.registers line true l (ap (λ (x : ℕ). x == line) same ∙ other) ∙ ap old.registers same ∙ shut
  victim-unawaited l false e there gone = absurd (true≢false (sym there ∙ gone))

  leaves-victim : LeavesOne old (asks_for line own (evicts_line victim old)) (victim ∷ [])
  leaves-victim = record {
    few = omega arith;
    exactly = λ l. or-false (victim == l) ∙ flip victim l ∙ victim-leaves l (l == victim) refl;
    comes = λ l gone. none-comes l (l == victim) gone;
    awaited = λ l there gone. victim-unawaited l (l == victim) refl there gone;
  }

pub begin-leaves : (wishes : List Wish) (old new : Side) (lost : List ℕ) → Begins wishes old new lost → LeavesOne old new lost
begin-leaves wishes old new _ (stays same) = leaves-none old new (ap (λ (s : Side). s.copies) same)
begin-leaves wishes old new _ (starts w among may same) = leaves-none old new (ap (λ (s : Side). s.copies) same)
begin-leaves wishes old new _ (evicts w victim among may leave same) =
    subst (λ (s : Side). LeavesOne old s (victim ∷ [])) (sym same) (leaves-victim old w.line victim w.own leave.other leave.held leave.register)

-- ---- a node takes a message

row-lost : (m : Message) (c : Copy) (register : Bool) → (node_takes m c register).lost ≡ (is_held c && not (is_held (node_takes m c register).copy))
row-lost Inv (Shared bytes) register = refl
row-lost (Recall false) (Owned bytes) register = refl
row-lost (Recall true) (Owned bytes) register = refl
row-lost (Recall false) (Evicting bytes) register = refl
row-lost (Recall true) (Evicting bytes) register = refl
row-lost PutAck (Evicting bytes) register = refl
row-lost PutAck Emptied register = refl
row-lost (Grant own bytes) Absent register = refl
row-lost (Grant false bytes) (Shared old) register = refl
row-lost (Grant true bytes) (Shared old) register = refl
row-lost m c register = sym (and-not (is_held c))

row-comes : (m : Message) (c : Copy) (register : Bool) → is_held c ≡ false → is_held (node_takes m c register).copy ≡ true → is_grant m ≡ true
row-comes (Grant own bytes) c register gone there = refl
row-comes Inv (Shared bytes) register gone there = absurd (true≢false gone)
row-comes (Recall false) (Owned bytes) register gone there = absurd (true≢false gone)
row-comes (Recall true) (Owned bytes) register gone there = absurd (true≢false gone)
row-comes (Recall false) (Evicting bytes) register gone there = there
row-comes (Recall true) (Evicting bytes) register gone there = there
row-comes PutAck (Evicting bytes) register gone there = there
row-comes PutAck Emptied register gone there = there
row-comes m c register gone there = absurd (true≢false (sym there ∙ gone))

-- at most the message's line leaves, and a line that comes is granted
pub record LeavesWith (m : Letter) (old new : Side) (lost : List ℕ) : Type 0 where
  pub few : length lost ≤ 1
  pub exactly : (l : ℕ) → are_lines lost l ≡ (is_held (old.copies l) && not (is_held (new.copies l)))
  pub comes : (l : ℕ) → is_held (old.copies l) ≡ false → is_held (new.copies l) ≡ true → (l ≡ m.line) × (is_grant m.message ≡ true)

few-if : (lost : Bool) (line : ℕ) → length (cond lost (line ∷ []) []) ≤ 1
few-if true line = omega arith
few-if false line = omega arith

lines-if : (lost : Bool) (line l : ℕ) → are_lines (cond lost (line ∷ []) []) l ≡ (lost && (l == line))
lines-if true line l = or-false (line == l) ∙ flip line l
lines-if false line l = refl

module _ (m : Letter) (old : Side) (step : NodeStep)
    (loses : step.lost ≡ (is_held (old.copies m.line) && not (is_held step.copy)))
    (grants : is_held (old.copies m.line) ≡ false → is_held step.copy ≡ true → is_grant m.message ≡ true) where
  step-loses : (l : ℕ) (b : Bool) → (l == m.line) ≡ b → (step.lost && b) ≡ (is_held (old.copies l) && not (is_held (cond b step.copy (old.copies l))))
  step-loses l true e = and-true step.lost ∙ loses ∙ ap (λ (x : ℕ). is_held (old.copies x) && not (is_held step.copy)) (sym (eqb-true l m.line e))
  step-loses l false e = and_right step.lost false refl ∙ sym (and-not (is_held (old.copies l)))

  step-comes : (l : ℕ) (b : Bool) → (l == m.line) ≡ b → is_held (old.copies l) ≡ false → is_held (cond b step.copy (old.copies l)) ≡ true → (l ≡ m.line) × (is_grant m.message ≡ true)
  step-comes l true e gone there = let same = eqb-true l m.line e in (same, grants (ap (λ (x : ℕ). is_held (old.copies x)) (sym same) ∙ gone) there)
  step-comes l false e gone there = absurd (true≢false (sym there ∙ gone))

  step-leaves : LeavesWith m old (takes_step m.line step old) (cond step.lost (m.line ∷ []) [])
  step-leaves = record {
    few = few-if step.lost m.line;
    exactly = λ l. lines-if step.lost m.line l ∙ step-loses l (l == m.line) refl;
    comes = λ l gone there. step-comes l (l == m.line) refl gone there;
  }

pub message-leaves : (m : Letter) (old : Side) → LeavesWith m old (takes_message m old) (cond (node_takes m.message (old.copies m.line) (old.registers m.line)).lost (m.line ∷ []) [])
message-leaves m old =
    let c = old.copies m.line in
    let register = old.registers m.line in
    step-leaves m old (node_takes m.message c register) (row-lost m.message c register) (row-comes m.message c register)
