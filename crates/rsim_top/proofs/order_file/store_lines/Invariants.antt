use Rattle.std.proofs.Common.{◌≡◌, ◌≤◌, ◌++◌, List, length, Ok}
use Rattle.std.specs.List.{flat_map}
use Rattle.rsim_base.specs.declared.memory.Access.{Access}
use Rattle.order_certificate.specs.OrderText.{line}
use Rattle.order_log.specs.Laws.{AreRetired}
use Rattle.rsim_top.specs.Machine.{accesses_of, shared_view}
use Rattle.rsim_top.specs.Pieces.{GoesOn}
use Rattle.rsim_top.proofs.order_file.store_lines.Given as goal

-- the lines of the accesses that were taken out are written, and the shelf has not changed otherwise
abbrev pub invariant-loop-access : goal.invariant-loop-access
invariant-loop-access g l =
    let shelf = g.S.Shelf in
    record {
      taken : List Access;
      parts : accesses_of (shared_view l.fn.machine) ≡ taken ++ accesses_of (shared_view l.machine);
      written : GoesOn l.name (flat_map line taken) (shelf.holds l.fn.shelf) l.fn.piece.items (shelf.holds l.shelf) l.piece.items (Ok tt);
      retired : AreRetired (shared_view l.machine).log;
      cores : (shared_view l.machine).cores ≡ (shared_view l.fn.machine).cores;
      cycles : (shared_view l.machine).cycles ≡ (shared_view l.fn.machine).cycles;
      faults : shelf.faults l.fn.shelf ≤ shelf.faults l.shelf;
      sure : shelf.sure l.shelf ≡ shelf.sure l.fn.shelf;
    }

abbrev pub decreases-loop-access : goal.decreases-loop-access
decreases-loop-access g l = length (shared_view l.machine).log
