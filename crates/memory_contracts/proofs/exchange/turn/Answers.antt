use Rattle.std.proofs.Common.{◌≡◌, ℕ, ◌==◌, ◌≤◌, Bool, true, cond, List, length, drop, refl, sym, ap, subst, ◌∙◌}
use Rattle.std.specs.List.{All}
use Rattle.std.proofs.lemmas.List.Elements.{All-drop}
use Rattle.memory_contracts.specs.Store.{Wish}
use Rattle.memory_contracts.specs.Flat.{is_at}
use Rattle.memory_contracts.specs.Parts.{has_line, moves_of, owner_in, wanted_in, wishes_of}
use Rattle.memory_contracts.specs.Updates.{with_at}
use Rattle.memory_contracts.specs.declared.wishes.Wanted.{Wanted}
use Rattle.memory_contracts.proofs.Turns.{few-with, known-first, known-with, length-tail, turn-keeps, turn-moves, turn-waits, wishes-with}
use Rattle.memory_contracts.proofs.exchange.turn.Goals as goal

-- the wishes that are left
left : (wanted new : ℕ → List Wanted) (p : ℕ) → new ≡ with_at wanted p (drop 1 (wanted p)) → ◌≡◌ {A = ℕ → List Wish} (λ q. wishes_of (new q)) (λ q. cond (q == p) (wishes_of (drop 1 (wanted p))) (wishes_of (wanted q)))
left wanted new p e =
    let seen : (ℕ → List Wanted) → ℕ → List Wish = λ f q. wishes_of (f q) in
    ap seen e ∙ (λ i q. wishes-with wanted p (drop 1 (wanted p)) q i)

known_left : (has : ℕ → Bool) (wanted new : ℕ → List Wanted) (p : ℕ) → new ≡ with_at wanted p (drop 1 (wanted p)) → ((q : ℕ) → All (λ (w : Wanted). has w.line.0 ≡ true) (wanted q)) → (q : ℕ) → All (λ (w : Wanted). has w.line.0 ≡ true) (new q)
known_left has wanted new p e known =
    let P : (ℕ → List Wanted) → Type 0 = λ f. (q : ℕ) → All (λ (w : Wanted). has w.line.0 ≡ true) (f q) in
    subst P (sym e) (known-with has wanted p (drop 1 (wanted p)) known (All-drop (λ (w : Wanted). has w.line.0 ≡ true) 1 (wanted p) (known p)))

few_left : (wanted new : ℕ → List Wanted) (p : ℕ) → new ≡ with_at wanted p (drop 1 (wanted p)) → ((q : ℕ) → length (wanted q) ≤ 16) → (q : ℕ) → length (new q) ≤ 16
few_left wanted new p e few =
    let P : (ℕ → List Wanted) → Type 0 = λ f. (q : ℕ) → length (f q) ≤ 16 in
    subst P (sym e) (few-with wanted p (drop 1 (wanted p)) few (length-tail (wanted p) (few p)))

pub returns-then-have_moved-clause-rule : goal.returns-then-have_moved-clause-rule
returns-then-have_moved-clause-rule c =
    sym (turn-waits c.args.p.0 (wanted_in c.args.wishes.now c.args.p.0) c.in-Some.wish (moves_of c.args.owners.now c.args.wishes.now c.args.moved.now c.args.lost.now) (sym c.in-Some.ensures) refl (sym c.have_moved.ensures ∙ c.if-have_moved.true))

pub give-requires-clause-known : goal.give-requires-clause-known
give-requires-clause-known c =
    known-first (has_line c.args.owners.now) (wanted_in c.args.wishes.now c.args.p.0) c.in-Some.wish (c.requires.known c.args.p.0) (sym c.in-Some.ensures)

pub returns-then-not-is_at-clause-rule : goal.returns-then-not-is_at-clause-rule
returns-then-not-is_at-clause-rule c =
    let p = c.args.p.0 in
    let w = c.in-Some.wish in
    let wanted = wanted_in c.args.wishes.now in
    let m = moves_of c.args.owners.now c.args.wishes.now c.args.moved.now c.args.lost.now in
    let wishes = left wanted (wanted_in c.drop_first.new.self) p c.drop_first.ensures.wishes in
    (λ i. record { owner = c.give.ensures.owner i; wishes = wishes i; moved = c.give.ensures.moved i; lost = c.give.ensures.lost i })
    ∙ sym (turn-moves p (wanted p) w m (sym c.in-Some.ensures) refl (sym c.have_moved.ensures ∙ c.if-have_moved.false) (ap (λ o. is_at o p) (sym c.owner.ensures) ∙ sym c.is_at.ensures ∙ c.if-not-is_at.true))

pub returns-then-not-is_at-clause-known : goal.returns-then-not-is_at-clause-known
returns-then-not-is_at-clause-known c =
    let wanted = wanted_in c.args.wishes.now in
    let new = wanted_in c.drop_first.new.self in
    let P : (ℕ → Bool) → Type 0 = λ has. (q : ℕ) → All (λ (w : Wanted). has w.line.0 ≡ true) (new q) in
    subst P (sym c.give.ensures.lines) (known_left (has_line c.args.owners.now) wanted new c.args.p.0 c.drop_first.ensures.wishes c.requires.known)

pub returns-then-not-is_at-clause-few : goal.returns-then-not-is_at-clause-few
returns-then-not-is_at-clause-few c = few_left (wanted_in c.args.wishes.now) (wanted_in c.drop_first.new.self) c.args.p.0 c.drop_first.ensures.wishes c.requires.few

pub returns-else-not-is_at-clause-rule : goal.returns-else-not-is_at-clause-rule
returns-else-not-is_at-clause-rule c =
    let p = c.args.p.0 in
    let w = c.in-Some.wish in
    let wanted = wanted_in c.args.wishes.now in
    let m = moves_of c.args.owners.now c.args.wishes.now c.args.moved.now c.args.lost.now in
    let wishes = left wanted (wanted_in c.drop_first.new.self) p c.drop_first.ensures.wishes in
    (λ i. record { owner = owner_in c.args.owners.now; wishes = wishes i; moved = c.args.moved.now.items; lost = c.args.lost.now.items })
    ∙ sym (turn-keeps p (wanted p) w m (sym c.in-Some.ensures) refl (sym c.have_moved.ensures ∙ c.if-have_moved.false) (ap (λ o. is_at o p) (sym c.owner.ensures) ∙ sym c.is_at.ensures ∙ c.if-not-is_at.false))

pub returns-else-not-is_at-clause-known : goal.returns-else-not-is_at-clause-known
returns-else-not-is_at-clause-known c =
    known_left (has_line c.args.owners.now) (wanted_in c.args.wishes.now) (wanted_in c.drop_first.new.self) c.args.p.0 c.drop_first.ensures.wishes c.requires.known

pub returns-else-not-is_at-clause-few : goal.returns-else-not-is_at-clause-few
returns-else-not-is_at-clause-few c = few_left (wanted_in c.args.wishes.now) (wanted_in c.drop_first.new.self) c.args.p.0 c.drop_first.ensures.wishes c.requires.few
