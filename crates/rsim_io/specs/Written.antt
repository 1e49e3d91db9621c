-- What a sink has taken, where it tells it, and what a call leaves.
use Rattle.std.specs.Prelude.{◌≡◌, ℕ, List, ◌++◌, take, Option, Result, Ok, Err, option_map}
use Rattle.rsim_io.specs.declared.shelf.StoreFault.{StoreFault}

-- what was written, and then these bytes
abbrev pub and_then : List ℕ → List ℕ → List ℕ
and_then bytes written = written ++ bytes

-- Ok has written all the bytes, and a fault a prefix of them.
abbrev pub Puts : Option (List ℕ) → List ℕ → Result (Unit {0}) StoreFault → Option (List ℕ) → Type 0
Puts old bytes (Ok _) new = new ≡ option_map (and_then bytes) old
Puts old bytes (Err _) new = (part : ℕ) × (new ≡ option_map (and_then (take part bytes)) old)
