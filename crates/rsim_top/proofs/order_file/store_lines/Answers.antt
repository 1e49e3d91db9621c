use Rattle.std.proofs.Common.{◌≡◌, ◌++◌, ◌∷◌, List, [], map, Some, Ok, Err, refl, sym, ap, subst, ◌∙◌, arith}
use Rattle.std.proofs.lemmas.List.{append-nil}
use Rattle.std.proofs.lemmas.Result.{err_from_is_err_and}
use Rattle.std.specs.List.{flat_map}
use Rattle.rsim_base.specs.declared.memory.Access.{Access}
use Rattle.order_certificate.specs.OrderText.{line}
use Rattle.order_log.specs.Laws.{AreRetired}
use Rattle.order_log.specs.Log.{Place, after_pop, first_final}
use Rattle.cycle_loop.specs.Machine.{MachineView}
use Rattle.rsim_top.specs.Machine.{accesses_of, shared_view}
use Rattle.rsim_top.specs.Pieces.{GoesOn}
use Rattle.rsim_top.proofs.OrderFiles.{AreRetired-popped, GoesOn-both, GoesOn-longer, GoesOn-nothing, line_behind, lines_rest, lines_taken, none_left}
use Rattle.rsim_top.proofs.order_file.store_lines.Goals as goal

pub loop-access-init : goal.loop-access-init
loop-access-init g c = record {
  taken = [];
  parts = refl;
  written = GoesOn-nothing c.args.name.now (g.S.Shelf.holds c.args.shelf.now) c.args.piece.now.items;
  retired = c.requires.retired;
  cores = refl;
  cycles = refl;
  faults = omega arith;
  sure = refl;
}

pub loop-access-preserved : goal.loop-access-preserved
loop-access-preserved g c =
    let inv = c.loop-access.invariant in
    let old = shared_view c.loop-access.machine in
    let new = shared_view c.take_final.new.self in
    let access = c.in-Some.access in
    let taken : first_final old.log ≡ Some access = sym c.take_final.ensures.taken ∙ c.in-Some.is in
    let log : new.log ≡ after_pop old.log = ap (λ (v : MachineView). v.log) c.take_final.ensures.view in
    record {
      taken = inv.taken ++ access ∷ [];
      parts = rw log (lines_taken inv.taken (accesses_of (shared_view c.args.machine.now)) old.log access inv.parts taken);
      written = rw (line_behind inv.taken access)
          (GoesOn-both c.args.name.now (flat_map line inv.taken) (line access) (g.S.Shelf.holds c.args.shelf.now) (g.S.Shelf.holds c.loop-access.shelf) (g.S.Shelf.holds c.store_line.new.shelf)
          c.args.piece.now.items c.loop-access.piece.items c.store_line.new.piece.items (Ok tt) inv.written c.in_ok-store_line.ensures.written);
      retired = subst AreRetired (sym log) (AreRetired-popped old.log access taken inv.retired);
      cores = ap (λ (v : MachineView). v.cores) c.take_final.ensures.view ∙ inv.cores;
      cycles = ap (λ (v : MachineView). v.cycles) c.take_final.ensures.view ∙ inv.cycles;
      faults = omega (arith, inv.faults, c.store_line.ensures.cause.later);
      sure = c.store_line.ensures.sure ∙ inv.sure;
    }

pub returns-in_err-store_line-clause-written : goal.returns-in_err-store_line-clause-written
returns-in_err-store_line-clause-written g c =
    let exit = err_from_is_err_and c.from_residual.result c.from_residual.ensures.1 in
    let inv = c.loop-access.invariant in
    let old = shared_view c.loop-access.machine in
    let access = c.in-Some.access in
    let taken : first_final old.log ≡ Some access = sym c.take_final.ensures.taken ∙ c.in-Some.is in
    let all = lines_taken inv.taken (accesses_of (shared_view c.args.machine.now)) old.log access inv.parts taken in
    rw (exit.1, all, lines_rest inv.taken access (accesses_of (record old { log = after_pop old.log })))
    (GoesOn-longer c.args.name.now (flat_map line inv.taken ++ line access) (flat_map line (accesses_of (record old { log = after_pop old.log }))) (g.S.Shelf.holds c.args.shelf.now) (g.S.Shelf.holds c.store_line.new.shelf)
    c.args.piece.now.items c.store_line.new.piece.items exit.0
    (GoesOn-both c.args.name.now (flat_map line inv.taken) (line access) (g.S.Shelf.holds c.args.shelf.now) (g.S.Shelf.holds c.loop-access.shelf) (g.S.Shelf.holds c.store_line.new.shelf)
    c.args.piece.now.items c.loop-access.piece.items c.store_line.new.piece.items (Err exit.0) inv.written c.in_err-store_line.ensures.written))

pub returns-clause-written : goal.returns-clause-written
returns-clause-written g c =
    let inv = c.loop-access.invariant in
    let view = shared_view c.loop-access.machine in
    let none = none_left view.log (sym c.take_final.ensures.taken ∙ c.in_default.is) inv.retired in
    let all : accesses_of (shared_view c.args.machine.now) ≡ inv.taken =
    inv.parts ∙ (ap (λ (log : List Place). inv.taken ++ map (λ x. x.access) log) none ∙ append-nil inv.taken) in
    subst (λ (accesses : List Access). GoesOn c.args.name.now (flat_map line accesses) (g.S.Shelf.holds c.args.shelf.now) c.args.piece.now.items (g.S.Shelf.holds c.loop-access.shelf) c.loop-access.piece.items (Ok tt)) (sym all) inv.written
