use Rattle.std.proofs.Common.{ℕ, ◌/◌, Bool, ap, ◌∙◌}
use Rattle.memory_contracts.proofs.flat.FlatStoreCoherentStore.write.Goals as goal

pub invariant_of-self : goal.invariant_of-self
invariant_of-self c =
    let k = c.args.self.now.kept in
    record {
      kept = record {
        line = k.line;
        nodes = k.nodes;
        doublewords = λ a mapped. ap (λ (has : ℕ → Bool). has (a / 8)) c.write.ensures.kept ∙ k.doublewords a mapped;
        lines = k.lines;
        known = k.known;
        few = k.few;
        owned = k.owned;
      };
    }
