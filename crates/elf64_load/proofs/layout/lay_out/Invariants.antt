use Rattle.std.proofs.Common.{◌≡◌, ◌+◌, ◌++◌, drop, sum_by, vec_len}
use Rattle.std.specs.List.{flat_map}
use Rattle.elf64_load.specs.Layout.{contents_of, segments_from, size_of}
use Rattle.elf64_load.proofs.layout.lay_out.Given as goal

abbrev pub invariant-loop-header : goal.invariant-loop-header
invariant-loop-header l = record {
  bytes : l.bytes.items ++ flat_map (contents_of l.file) (drop l.header-index l.headers) ≡ flat_map (contents_of l.file) l.headers;
  segments : l.segments.items ++ segments_from (vec_len l.bytes) (drop l.header-index l.headers) ≡ segments_from 0 l.headers;
  room : vec_len l.bytes + sum_by size_of (drop l.header-index l.headers) ≡ sum_by size_of l.headers;
}
