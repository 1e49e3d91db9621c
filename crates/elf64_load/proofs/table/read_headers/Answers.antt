use Rattle.std.proofs.Common.{◌≡◌, ℕ, ◌+◌, ◌*◌, List, ◌∷◌, [], ◌++◌, map, zero-add, sym, ap, ◌∙◌, arith}
use Rattle.std.specs.List.{range_with_len}
use Rattle.std.proofs.lemmas.List.FromFn.{map-range_with_len_more}
use Rattle.elf64_load.specs.Elf.{header_at, header_count}
use Rattle.elf64_load.specs.declared.header.ProgramHeader.{ProgramHeader}
use Rattle.elf64_load.proofs.table.read_headers.Goals as goal

pub loop-i-preserved : goal.loop-i-preserved
loop-i-preserved c =
    let read : ℕ → ProgramHeader = λ i. header_at (c.table_start-start.result + 56 * i) c.args.file.now in
    let more = map-range_with_len_more read 0 c.loop-i.i c.loop-i.i (zero-add c.loop-i.i) in
    record {
      items = c.in_ok-push.ensures.items ∙ ap (λ (l : List ProgramHeader). l ++ c.read.result ∷ []) c.loop-i.invariant.items ∙ ap (λ (h : ProgramHeader). map read (range_with_len 0 c.loop-i.i) ++ h ∷ []) c.read.ensures ∙ sym more;
      len = c.in_ok-push.ensures.len ∙ ap (λ n. n + 1) c.loop-i.invariant.len;
    }

pub returns-clause-items : goal.returns-clause-items
returns-clause-items c =
    let file : List ℕ = c.args.file.now in
    let count : c.loop-i.i ≡ header_count file = omega arith in
    c.loop-i.invariant.items
    ∙ ap (λ n. map (λ i. header_at (c.table_start-start.result + 56 * i) file) (range_with_len 0 n)) count
    ∙ ap (λ start. map (λ i. header_at (start + 56 * i) file) (range_with_len 0 (header_count file))) c.table_start-start.ensures
