use Rattle.std.proofs.Common.{◌≡◌, ◌++◌, drop}
use Rattle.elf64_load.specs.Layout.{first_of_header, size_of, spans_from, spans_of_headers}
use Rattle.elf64_load.proofs.shared.spans_in_order.Given as goal

abbrev pub invariant-loop-i : goal.invariant-loop-i
invariant-loop-i l =
    l.order.items ++ spans_from first_of_header size_of l.i (drop l.i l.headers) ≡ spans_of_headers l.headers
