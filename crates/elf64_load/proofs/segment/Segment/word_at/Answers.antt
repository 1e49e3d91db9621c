use Rattle.std.proofs.Common.{◌≡◌, ℕ, ◌+◌, ◌-◌, ◌≤◌, List, drop, sym, ap, ◌∙◌, arith}
use Rattle.std.proofs.lemmas.List.{take_rest}
use Rattle.byteorder.specs.Endian.{big_number}
use Rattle.elf64_load.proofs.Layouts.{word-within, has-bounds}
use Rattle.elf64_load.proofs.segment.Segment.word_at.Goals as goal

pub returns : goal.returns
returns c =
    let s = c.args.self.now in
    let bytes : List ℕ = c.args.bytes.now in
    let held = has-bounds c.args.addr 4 s c.requires.held in
    let offset : ℕ = c.args.addr - s.first in
    let at : c.place_of-at.result ≡ s.start + offset = omega (arith, held.0, c.place_of-at.ensures) in
    let within : offset + 4 ≤ s.len = omega (arith, held.0, held.1) in
    c.read_u32.ensures
    ∙ ap (big_number 4) (take_rest bytes c.place_of-at.result)
    ∙ ap (λ k. big_number 4 (drop k bytes)) at
    ∙ sym (word-within bytes s.start s.len offset within)
