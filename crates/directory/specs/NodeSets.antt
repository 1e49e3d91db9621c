-- Sets of nodes, as what is in them.
use Rattle.std.specs.Prelude.{ℕ, Bool, false, slice_index_or}
use Rattle.directory.specs.declared.node_set.NodeSet.{NodeSet}

abbrev pub set_of : NodeSet → ℕ → Bool
set_of set x = slice_index_or set.has x false
