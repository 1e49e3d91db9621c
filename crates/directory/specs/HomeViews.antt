-- A home as its whole state.
use Rattle.directory.specs.Homes.{HomeView}
use Rattle.directory.specs.HomeParts.{has_line, letters_in, posts_in, records_in}
use Rattle.directory.specs.declared.home.Home.{Home}

abbrev pub home_of : Home → HomeView
home_of s = record {
  at = s.at.0;
  nodes = s.table.nodes;
  protocol = s.table.protocol;
  latency = s.latency;
  lines = has_line s.records;
  records = records_in s.records;
  waiting = letters_in s.waiting;
  outgoing = posts_in s.outgoing;
}
