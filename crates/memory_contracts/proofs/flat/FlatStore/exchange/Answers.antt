use Rattle.std.proofs.Common.{ℕ, ◌/◌, Bool, ap, ◌∙◌, sym, subst, arith}
use Rattle.memory_contracts.specs.Flat.{first_moves}
use Rattle.memory_contracts.specs.FlatLayout.{AreOwned}
use Rattle.memory_contracts.specs.Parts.{nodes_in, owner_in, wishes_in}
use Rattle.memory_contracts.proofs.Owned.{turns-owned}
use Rattle.memory_contracts.proofs.flat.FlatStore.exchange.Goals as goal

pub invariant_of-self : goal.invariant_of-self
invariant_of-self c =
    let k = c.args.self.now.kept in
    let nodes = k.nodes in
    let s = c.args.self.now in
    let n = nodes_in s.wishes in
    let new = c.take_turns.new.owners in
    record {
      kept = record {
        line = k.line;
        nodes = omega (arith, nodes, c.take_turns.ensures.nodes);
        doublewords = k.doublewords;
        lines = λ a mapped. ap (λ (has : ℕ → Bool). has (a / c.args.self.now.line_bytes)) c.take_turns.ensures.lines ∙ k.lines a mapped;
        known = c.take_turns.ensures.known;
        few = c.take_turns.ensures.few;
        owned = subst (λ (n : ℕ). AreOwned n (owner_in new)) (sym c.take_turns.ensures.nodes)
            (subst (AreOwned n) (sym c.take_turns.ensures.rule.owner) (turns-owned n n (first_moves (owner_in s.owners) (wishes_in s.wishes)) (omega arith) k.owned));
      };
    }
