use Rattle.std.proofs.Common.{ap, ◌∙◌}
use Rattle.memory_contracts.specs.Parts.{byte_of_all, doubleword_in}
use Rattle.memory_contracts.proofs.Numbers.{in_one_doubleword, stored-doubleword}
use Rattle.memory_contracts.proofs.memory.Memory.write.Goals as goal

pub put-requires-clause-room : goal.put-requires-clause-room
put-requires-clause-room c = in_one_doubleword c.args.n c.args.a c.requires.aligned

pub returns-clause-bytes : goal.returns-clause-bytes
returns-clause-bytes c =
    let (new, bytes, is) = c.put.ensures.value in
    ap byte_of_all is ∙ (λ i b. stored-doubleword (doubleword_in c.args.self.now) c.args.a c.args.n c.args.value new c.requires.aligned bytes b i)
