-- The homes of all nodes.
use Rattle.std.specs.Prelude.{ℕ, false, [], None, length}
use Rattle.machine_config.specs.declared.config.Protocol.TheVariants.{Msi}
use Rattle.memory_contracts.specs.Protocol.Lines.{Idle, nobody}
use Rattle.directory.specs.HomeViews.{home_of}
use Rattle.directory.specs.Homes.{HomeView}
use Rattle.coherent_memory.specs.Rows.{rows_of}
use Rattle.coherent_memory.specs.declared.homes.Homes.{Homes}

-- of a node that there is not
abbrev pub no_home : HomeView
no_home = record {
  at = 0;
  nodes = 0;
  protocol = Msi;
  latency = 0;
  lines = λ l. false;
  records = λ l. record { phase = Idle; owner = None; sharers = nobody; memory = [] };
  waiting = [];
  outgoing = [];
}

abbrev pub homes_in : Homes → ℕ → HomeView
homes_in homes = rows_of home_of no_home homes.list.items

abbrev pub home_count : Homes → ℕ
home_count homes = length homes.list.items
