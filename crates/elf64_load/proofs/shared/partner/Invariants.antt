use Rattle.std.proofs.Common.{◌≡◌, drop}
use Rattle.std.specs.List.{position_from}
use Rattle.elf64_load.specs.Elf.{share_block}
use Rattle.elf64_load.proofs.shared.partner.Given as goal

abbrev pub invariant-loop-j : goal.invariant-loop-j
invariant-loop-j l =
    position_from (share_block l.header) l.from (drop l.from l.headers) ≡ position_from (share_block l.header) l.j (drop l.j l.headers)
