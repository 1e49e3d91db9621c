-- A flat store as its whole state.
use Rattle.memory_contracts.specs.Flat.{FlatView}
use Rattle.memory_contracts.specs.FlatLayout.{view_of}
use Rattle.memory_contracts.specs.declared.flat.FlatStore.{FlatStore}

abbrev pub flat_of : FlatStore → FlatView
flat_of s = view_of s.memory s.owners s.wishes s.spans.items s.line_bytes s.ticks
