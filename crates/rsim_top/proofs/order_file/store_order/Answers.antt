use Rattle.std.proofs.Common.{◌≡◌, ◌++◌, length, map, ap, ◌∙◌}
use Rattle.std.proofs.lemmas.Result.{err_from_is_err_and}
use Rattle.order_certificate.specs.OrderText.{ending, heading}
use Rattle.cycle_loop.specs.Machine.{CoreView}
use Rattle.rsim_top.specs.Machine.{counts_of, shared_view}
use Rattle.rsim_top.specs.Pieces.{IsSoFar}
use Rattle.rsim_top.proofs.OrderFiles.{HasPrefixOfFile-lines, HasPrefixOfFile-listed, IsSoFar-begun, IsSoFar-ended, listed}
use Rattle.rsim_top.proofs.Stored.{HasFile-written, HasPrefixOfFile-from_append}
use Rattle.rsim_top.proofs.order_file.store_order.Goals as goal

pub returns-in_err-store_lines-clause-part : goal.returns-in_err-store_lines-clause-part
returns-in_err-store_lines-clause-part g c =
    let exit = err_from_is_err_and c.from_residual-in_err-store_lines.result c.from_residual-in_err-store_lines.ensures.1 in
    let v = shared_view c.args.machine.now in
    let begun = IsSoFar-begun c.args.name.now c.args.model (length v.cores) (g.S.Shelf.holds c.args.shelf.now) (g.S.Shelf.holds c.create.new.self) c.begin.new.into.items c.in_ok-create.ensures.created (c.in-Ok.ensures.put ∙ ap (λ t. t ++ heading c.args.model c.processors.result) c.new-piece.ensures.items ∙ ap (heading c.args.model) c.processors.ensures) in
    rw exit.1 (HasPrefixOfFile-listed c.args.name.now c.args.model v (g.S.Shelf.holds c.args.shelf.now) (g.S.Shelf.holds c.store_lines.new.shelf)
    (c.in_err-store_lines.ensures.written (g.S.Shelf.holds c.args.shelf.now) (heading c.args.model (length v.cores)) begun))

pub returns-in_default-retired_counts-clause-part : goal.returns-in_default-retired_counts-clause-part
returns-in_default-retired_counts-clause-part g c =
    let v = shared_view c.args.machine.now in
    let begun = IsSoFar-begun c.args.name.now c.args.model (length v.cores) (g.S.Shelf.holds c.args.shelf.now) (g.S.Shelf.holds c.create.new.self) c.begin.new.into.items c.in_ok-create.ensures.created (c.in-Ok.ensures.put ∙ ap (λ t. t ++ heading c.args.model c.processors.result) c.new-piece.ensures.items ∙ ap (heading c.args.model) c.processors.ensures) in
    let lines : IsSoFar c.args.name.now (listed c.args.model v) (g.S.Shelf.holds c.args.shelf.now) (g.S.Shelf.holds c.store_lines.new.shelf) c.store_lines.new.piece.items =
    c.in_ok-store_lines.ensures.written (g.S.Shelf.holds c.args.shelf.now) (heading c.args.model (length v.cores)) begun in
    HasPrefixOfFile-lines c.args.name.now c.args.model v (g.S.Shelf.holds c.args.shelf.now) (g.S.Shelf.holds c.store_lines.new.shelf) c.store_lines.new.piece.items lines

pub returns-in_default-finish-clause-part : goal.returns-in_default-finish-clause-part
returns-in_default-finish-clause-part g c =
    let v = shared_view c.args.machine.now in
    let begun = IsSoFar-begun c.args.name.now c.args.model (length v.cores) (g.S.Shelf.holds c.args.shelf.now) (g.S.Shelf.holds c.create.new.self) c.begin.new.into.items c.in_ok-create.ensures.created (c.in-Ok.ensures.put ∙ ap (λ t. t ++ heading c.args.model c.processors.result) c.new-piece.ensures.items ∙ ap (heading c.args.model) c.processors.ensures) in
    let lines : IsSoFar c.args.name.now (listed c.args.model v) (g.S.Shelf.holds c.args.shelf.now) (g.S.Shelf.holds c.store_lines.new.shelf) c.store_lines.new.piece.items =
    c.in_ok-store_lines.ensures.written (g.S.Shelf.holds c.args.shelf.now) (heading c.args.model (length v.cores)) begun in
    HasPrefixOfFile-lines c.args.name.now c.args.model v (g.S.Shelf.holds c.args.shelf.now) (g.S.Shelf.holds c.store_lines.new.shelf) c.store_lines.new.piece.items lines

pub returns-clause-stored : goal.returns-clause-stored
returns-clause-stored g c =
    let v = shared_view c.args.machine.now in
    let begun = IsSoFar-begun c.args.name.now c.args.model (length v.cores) (g.S.Shelf.holds c.args.shelf.now) (g.S.Shelf.holds c.create.new.self) c.begin.new.into.items c.in_ok-create.ensures.created (c.in-Ok.ensures.put ∙ ap (λ t. t ++ heading c.args.model c.processors.result) c.new-piece.ensures.items ∙ ap (heading c.args.model) c.processors.ensures) in
    let lines : IsSoFar c.args.name.now (listed c.args.model v) (g.S.Shelf.holds c.args.shelf.now) (g.S.Shelf.holds c.store_lines.new.shelf) c.store_lines.new.piece.items =
    c.in_ok-store_lines.ensures.written (g.S.Shelf.holds c.args.shelf.now) (heading c.args.model (length v.cores)) begun in
    let counts : c.in-Ok-retired_counts.counts.items ≡ counts_of v = c.in-Ok-retired_counts.ensures ∙ ap (map (λ (d : CoreView). d.retired)) c.store_lines.ensures.cores in
    let whole = IsSoFar-ended c.args.name.now c.args.model v (g.S.Shelf.holds c.args.shelf.now) (g.S.Shelf.holds c.store_lines.new.shelf) c.store_lines.new.piece.items c.deref.result.now lines
    (c.deref.ensures.value ∙ c.in-Ok-finish.ensures.put ∙ ap (λ ns. c.store_lines.new.piece.items ++ ending ns) counts) in
    HasFile-written _ _ _ _ _ _ c.append.result whole c.append.ensures.appended

pub returns-clause-part : goal.returns-clause-part
returns-clause-part g c =
    let v = shared_view c.args.machine.now in
    let begun = IsSoFar-begun c.args.name.now c.args.model (length v.cores) (g.S.Shelf.holds c.args.shelf.now) (g.S.Shelf.holds c.create.new.self) c.begin.new.into.items c.in_ok-create.ensures.created (c.in-Ok.ensures.put ∙ ap (λ t. t ++ heading c.args.model c.processors.result) c.new-piece.ensures.items ∙ ap (heading c.args.model) c.processors.ensures) in
    let lines : IsSoFar c.args.name.now (listed c.args.model v) (g.S.Shelf.holds c.args.shelf.now) (g.S.Shelf.holds c.store_lines.new.shelf) c.store_lines.new.piece.items =
    c.in_ok-store_lines.ensures.written (g.S.Shelf.holds c.args.shelf.now) (heading c.args.model (length v.cores)) begun in
    let counts : c.in-Ok-retired_counts.counts.items ≡ counts_of v = c.in-Ok-retired_counts.ensures ∙ ap (map (λ (d : CoreView). d.retired)) c.store_lines.ensures.cores in
    let whole = IsSoFar-ended c.args.name.now c.args.model v (g.S.Shelf.holds c.args.shelf.now) (g.S.Shelf.holds c.store_lines.new.shelf) c.store_lines.new.piece.items c.deref.result.now lines
    (c.deref.ensures.value ∙ c.in-Ok-finish.ensures.put ∙ ap (λ ns. c.store_lines.new.piece.items ++ ending ns) counts) in
    HasPrefixOfFile-from_append _ _ _ _ _ _ c.append.result whole c.append.ensures.appended
