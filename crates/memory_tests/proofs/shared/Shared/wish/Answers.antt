use Rattle.std.proofs.Common.{◌≡◌, ℕ, ◌+◌, ◌/◌, Bool, ap, sym, ◌∙◌, arith}
use Rattle.elf64_load.specs.Image.{is_mapped}
use Rattle.image_memory.specs.Readable.{mapped-readable}
use Rattle.memory_contracts.specs.Shapes.{shape-wish}
use Rattle.memory_tests.proofs.shared.Shared.wish.Goals as goal

pub wish-requires-clause-mapped : goal.wish-requires-clause-mapped
wish-requires-clause-mapped g c =
    let a = c.args.a in
    let old = c.args.self.now in
    let readable = sym c.may_read.ensures ∙ c.if-assert-2.false in
    let here : a + 0 ≡ a = omega arith in
    let mapped = ap (is_mapped old.image) (sym here) ∙ mapped-readable old.image a 1 readable 0 (omega arith) in
    (a, old.mapped a ∙ mapped, ap (λ n. a / n) old.line)

pub invariant_of-self : goal.invariant_of-self
invariant_of-self g c =
    let old = c.args.self.now in
    let meaning = g.S.CoherentStore.meaning in
    let shape = (shape-wish (meaning old.store) (meaning c.wish.new.self) c.args.p (c.args.a / 64) c.args.own c.wish.ensures.after) in
    let few = old.few in
    let same = shape.ticks in
    record {
      count = shape.nodes ∙ old.count;
      line = shape.line_bytes ∙ old.line;
      mapped = λ a. ap (λ (f : ℕ → Bool). f a) shape.mapped ∙ old.mapped a;
      few = omega (arith, few, same);
    }
