use Rattle.std.proofs.Common.{ap, ◌∙◌, arith}
use Rattle.memory_contracts.specs.Store.{StoreView}
use Rattle.memory_tests.proofs.shared.Shared.tick.Goals as goal

pub invariant_of-self : goal.invariant_of-self
invariant_of-self g c =
    let old = c.args.self.now in
    let same = c.tick.ensures.ticks.same in
    let few = old.few in
    let ticks = ap (λ (v : StoreView). v.ticks) same in
    record {
      count = ap (λ (v : StoreView). v.nodes) same ∙ old.count;
      line = ap (λ (v : StoreView). v.line_bytes) same ∙ old.line;
      mapped = λ a. ap (λ (v : StoreView). v.mapped a) same ∙ old.mapped a;
      few = omega (arith, few, ticks);
    }
