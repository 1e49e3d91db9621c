use Rattle.std.proofs.Common.{ℕ, ◌+◌, Bool, ap, sym, ◌∙◌, arith}
use Rattle.rsim_base.specs.Bytes.{count_of}
use Rattle.image_memory.specs.Readable.{mapped-readable}
use Rattle.memory_contracts.specs.Shapes.{shape-same}
use Rattle.memory_tests.proofs.shared.Shared.read.Goals as goal

pub read-requires-clause-mapped : goal.read-requires-clause-mapped
read-requires-clause-mapped g c = λ k below.
    let readable = sym c.may_read.ensures ∙ c.if-assert-3.false in
    c.args.self.now.mapped (c.args.a + k) ∙ mapped-readable c.args.self.now.image c.args.a (count_of c.args.n) readable k below

pub invariant_of-self : goal.invariant_of-self
invariant_of-self g c =
    let old = c.args.self.now in
    let meaning = g.S.CoherentStore.meaning in
    let shape = (shape-same (meaning old.store) (meaning c.read.new.self) c.read.ensures.stays) in
    let few = old.few in
    let same = shape.ticks in
    record {
      count = shape.nodes ∙ old.count;
      line = shape.line_bytes ∙ old.line;
      mapped = λ a. ap (λ (f : ℕ → Bool). f a) shape.mapped ∙ old.mapped a;
      few = omega (arith, few, same);
    }
