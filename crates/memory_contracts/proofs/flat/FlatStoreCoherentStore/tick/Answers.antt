use Rattle.std.proofs.Common.{List, sym, subst}
use Rattle.rsim_base.specs.declared.memory.Line.{Line}
use Rattle.rsim_base.specs.declared.memory.Node.{Node}
use Rattle.memory_contracts.specs.Store.{Ticks}
use Rattle.memory_contracts.specs.Flat.{FlatView, store_of, ticked}
use Rattle.memory_contracts.specs.FlatStores.{flat_of}
use Rattle.memory_contracts.proofs.Exchanges.{ticks-ticked}
use Rattle.memory_contracts.proofs.flat.FlatStoreCoherentStore.tick.Goals as goal

pub returns : goal.returns
returns c =
    let v = flat_of c.args.self.now in
    let P : List (Node × Line) → Type 0 = λ lost. Ticks (store_of v) (store_of (ticked v)) lost in
    let Q : FlatView → Type 0 = λ w. Ticks (store_of v) (store_of w) c.exchange.new.lost.items in
    let ticks = subst Q (sym c.exchange.ensures.moves) (subst P (sym c.exchange.ensures.lost) (ticks-ticked v)) in
    record { ticks = ticks; told = ticks }
