use Rattle.std.proofs.Common.{◌≡◌, ◌+◌, ◌*◌, map, vec_len}
use Rattle.std.specs.List.{range_with_len}
use Rattle.elf64_load.specs.Elf.{header_at}
use Rattle.elf64_load.proofs.table.read_headers.Given as goal

abbrev pub invariant-loop-i : goal.invariant-loop-i
invariant-loop-i l = record {
  items : l.table.items ≡ map (λ i. header_at (l.start + 56 * i) l.file) (range_with_len 0 l.i);
  len : vec_len l.table ≡ l.i;
}
