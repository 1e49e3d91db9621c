-- What an access does to memory, and which accesses have a byte in common.
use Rattle.std.specs.Prelude.{Bool, true, false}
use Rattle.rsim_base.specs.Bytes.{count_of, starts_in}
use Rattle.rsim_base.specs.declared.memory.Access.{Access}
use Rattle.rsim_base.specs.declared.memory.Kind.{Kind}
use Rattle.rsim_base.specs.declared.memory.Kind.TheVariants.{Load, Store, Atomic}

-- An atomic loads and stores.
abbrev pub loads : Kind → Bool
loads Load = true
loads Store = false
loads Atomic = true

abbrev pub stores : Kind → Bool
stores Load = false
stores Store = true
stores Atomic = true

-- some byte is in both: one of them starts in the other
abbrev pub overlap : Access → Access → Bool
overlap x y = starts_in x.addr.0 (count_of x.size) y.addr.0 (count_of y.size)
