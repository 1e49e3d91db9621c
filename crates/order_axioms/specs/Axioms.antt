-- Which accesses of one program must stand in their program's order, under each consistency model. The
-- models are those of this project's orders; sc is Lamport's sequential consistency.
use Rattle.std.specs.Prelude.{Bool, true, not, ◌&&◌, ◌||◌, nat_lt}
use Rattle.rsim_base.specs.Accesses.{loads, stores, overlap}
use Rattle.rsim_base.specs.declared.memory.Access.{Access}
use Rattle.rsim_base.specs.declared.memory.Model.{Model}
use Rattle.rsim_base.specs.declared.memory.Model.TheVariants.{Sc, Pc, Rc}
use Rattle.rsim_base.specs.Made.{Made}

-- x is a plain store and y a plain load
abbrev pub store_then_load : Access → Access → Bool
store_then_load x y = not (loads x.kind) && not (stores y.kind)

-- a fence between them orders x before y
abbrev pub fence_between : Made → Made → Bool
fence_between x y =
    (loads x.access.kind && loads y.access.kind && nat_lt x.fences.load_load y.fences.load_load)
    || (stores x.access.kind && loads y.access.kind && nat_lt x.fences.store_load y.fences.store_load)
    || (loads x.access.kind && stores y.access.kind && nat_lt x.fences.load_store y.fences.load_store)
    || (stores x.access.kind && stores y.access.kind && nat_lt x.fences.store_store y.fences.store_store)

-- whether x, which its program made before y, must stand before y
abbrev pub needs : Model → Made → Made → Bool
needs Sc x y = true
needs Pc x y = not (store_then_load x.access y.access) || nat_lt x.fences.store_load y.fences.store_load
needs Rc x y =
    (loads x.access.kind && stores y.access.kind)
    || (overlap x.access y.access && not (store_then_load x.access y.access))
    || fence_between x y
