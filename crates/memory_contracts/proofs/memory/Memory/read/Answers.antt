use Rattle.std.proofs.Common.{◌≡◌, ℕ, ◌+◌, ◌%◌, ◌<◌, ap, ◌∙◌, arith}
use Rattle.rsim_base.specs.Bytes.{byte_of, count_of}
use Rattle.memory_contracts.specs.Parts.{byte_in, doubleword_in}
use Rattle.memory_contracts.proofs.Numbers.{byte_of_all-near, in_one_doubleword, value_at-bytes}
use Rattle.memory_contracts.proofs.memory.Memory.read.Goals as goal

pub part-requires : goal.part-requires
part-requires c = in_one_doubleword c.args.n c.args.a c.requires

pub returns : goal.returns
returns c =
    let a = c.args.a in
    let room = in_one_doubleword c.args.n a c.requires in
    let same : (k : ℕ) → k < count_of c.args.n → byte_of c.part.result (count_of c.args.n) k ≡ byte_in c.args.self.now (a + k) = λ k below.
    c.part.ensures.bytes k below ∙ ap (λ w. byte_of w 8 (a % 8 + k)) c.doubleword.ensures ∙ byte_of_all-near (doubleword_in c.args.self.now) a k (omega (arith, room, below)) in
    value_at-bytes (byte_in c.args.self.now) a (count_of c.args.n) c.part.result c.part.ensures.fits same
