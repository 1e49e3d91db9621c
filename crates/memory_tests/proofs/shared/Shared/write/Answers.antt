use Rattle.std.proofs.Common.{ℕ, ◌+◌, Bool, ap, sym, ◌∙◌, arith}
use Rattle.rsim_base.specs.Bytes.{count_of}
use Rattle.image_memory.specs.Readable.{mapped-readable}
use Rattle.memory_contracts.specs.Shapes.{shape-write}
use Rattle.memory_tests.proofs.shared.Shared.write.Goals as goal

pub write-requires-clause-mapped : goal.write-requires-clause-mapped
write-requires-clause-mapped g c = λ k below.
    let readable = sym c.may_read.ensures ∙ c.if-assert-3.false in
    c.args.self.now.mapped (c.args.a + k) ∙ mapped-readable c.args.self.now.image c.args.a (count_of c.args.n) readable k below

pub invariant_of-self : goal.invariant_of-self
invariant_of-self g c =
    let old = c.args.self.now in
    let meaning = g.S.CoherentStore.meaning in
    let shape = (shape-write (meaning old.store) (meaning c.write.new.self) c.args.p c.args.a (count_of c.args.n) c.args.v c.write.ensures.after) in
    let few = old.few in
    let same = shape.ticks in
    record {
      count = shape.nodes ∙ old.count;
      line = shape.line_bytes ∙ old.line;
      mapped = λ a. ap (λ (f : ℕ → Bool). f a) shape.mapped ∙ old.mapped a;
      few = omega (arith, few, same);
    }
