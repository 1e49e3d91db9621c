use Rattle.std.proofs.Common.{◌≡◌, ℕ, ◌+◌, ap, sym, ◌∙◌, add-zero, arith}
use Rattle.elf64_load.specs.Image.{byte_at}
use Rattle.image_memory.proofs.Doublewords.{byte_of-AreBytesOf}
use Rattle.image_memory.proofs.parts.first_doubleword.Goals as goal

pub returns : goal.returns
returns c =
    let f = λ (k : ℕ). byte_at c.args.image.now (c.args.start + k) in
    let e0 : c.byte.result ≡ f 0 = c.byte.ensures ∙ ap (byte_at c.args.image.now) (sym (add-zero c.args.start)) in
    byte_of-AreBytesOf f c.from_be_bytes.result
    (rw (← e0, ← c.byte-2.ensures, ← c.byte-3.ensures, ← c.byte-4.ensures, ← c.byte-5.ensures, ← c.byte-6.ensures, ← c.byte-7.ensures, ← c.byte-8.ensures)
    (record { sum = c.from_be_bytes.ensures; fits0 = omega arith; fits1 = omega arith; fits2 = omega arith; fits3 = omega arith; fits4 = omega arith; fits5 = omega arith; fits6 = omega arith; fits7 = omega arith }))
