use Rattle.std.proofs.Common.{◌-◌, ◌%◌, ◌+◌, ◌&&◌, nat_le, nat_lt, if◌then◌else◌, refl, ap, ◌∙◌}
use Rattle.std.proofs.lemmas.Result.{on_ok_weaker}
use Rattle.rsim_base.specs.Bytes.{count_of, byte_of}
use Rattle.image_memory.proofs.Writes.{IsReplaced, IsWritten-replaced}
use Rattle.image_memory.proofs.memory.Memory.write.Goals as goal

pub returns : goal.returns
returns c =
    let addr = c.args.addr in
    let count = count_of c.args.n in
    let is : IsReplaced c.args.image.now addr c.args.n c.args.value (addr - addr % 8) c.with_part-doubleword.result c.args.self.now = record {
      starts = refl;
      bytes = λ j below. c.with_part-doubleword.ensures j below
          ∙ ap (λ kept. if nat_le (addr % 8) j && nat_lt j (addr % 8 + count) then byte_of c.args.value count (j - addr % 8) else kept) (c.doubleword.ensures j below);
    } in
    on_ok_weaker c.set_doubleword.result (λ set. IsWritten-replaced c.args.image.now addr c.args.n c.args.value (addr - addr % 8) c.with_part-doubleword.result c.args.self.now c.set_doubleword.new.self c.requires c.ranges.addr.fits is set) c.set_doubleword.ensures
