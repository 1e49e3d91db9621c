-- The entries of a map from names to bytes, as the finite map that they stand for.
use Rattle.std.specs.Prelude.{ℕ, map, String, Vec}
use Rattle.std.specs.String.{string_bytes}
use Rattle.std.specs.BTreeMap.{BTreeMap}
use Rattle.std.specs.FinMap.{from_entries}
use Rattle.rsim_io.specs.Files.{Files}

abbrev pub files_of : {Y Z : Type 0} → BTreeMap (String Y) (Vec ℕ Z) → Files
files_of m = from_entries (map (λ e. (string_bytes e.0, e.1.items)) m.entries)
