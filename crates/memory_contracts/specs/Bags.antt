-- A carrier that keeps a list, and in which each message arrives as early as it may.
use Rattle.std.specs.Prelude.{ℕ, ◌+◌, nat_le, [], map, None}
use Rattle.machine_config.specs.declared.config.Config.{Config}
use Rattle.memory_contracts.specs.Carrier.{CarrierView, Flight, earliest}

abbrev pub marked : ℕ → ℕ → Flight → Flight
marked width now f = record f { arrived = nat_le (earliest width f) now }

-- a tick: exactly those messages have arrived that may have
abbrev pub ticked : CarrierView → CarrierView
ticked v = record v { flights = map (marked v.width (v.ticks + 1)) v.flights; ticks = v.ticks + 1 }

-- before the first message
abbrev pub no_flights : Config → CarrierView
no_flights config = record {
  flights = [];
  ticks = 0;
  nodes = config.processors;
  width = config.mesh_width;
  flit_bytes = config.flit_bytes;
  line_bytes = config.line;
  net = None;
}
