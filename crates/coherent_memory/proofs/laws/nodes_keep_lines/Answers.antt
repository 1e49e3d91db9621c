-- What each step of a node does to the lines, by the laws of the protocol and of nodes.
use Rattle.coherent_memory.proofs.Beginning.{begin_keeps}
use Rattle.coherent_memory.proofs.Keeping.{ProtocolLaws}
use Rattle.coherent_memory.proofs.NodeLaws.{NodeLaws}
use Rattle.coherent_memory.proofs.Receiving.{node_takes_message}
use Rattle.coherent_memory.proofs.Writing.{writing_keeps}
use Rattle.coherent_memory.proofs.laws.nodes_keep_lines.Goals as goal
use Rattle.coherent_memory.proofs.laws.nodes_keep_lines.Goals.{After-tables_follow}

laws_of : After-tables_follow → ProtocolLaws
laws_of c = record {
  events = c.lines_stay_coherent.ensures.events;
  order = c.lines_stay_coherent.ensures.order;
  current = c.lines_stay_coherent.ensures.current;
  one = c.lines_stay_coherent.ensures.one;
  awaited = c.lines_stay_coherent.ensures.awaited;
  owned = c.lines_stay_coherent.ensures.owned;
  alone = c.lines_stay_coherent.ensures.alone;
}

node_laws_of : After-tables_follow → NodeLaws
node_laws_of c = record {
  message = c.tables_follow.ensures.message;
  begin = c.tables_follow.ensures.begin;
  wishes = c.tables_follow.ensures.wishes;
  write = c.tables_follow.ensures.write;
}

pub returns-clause-node : goal.returns-clause-node
returns-clause-node c = node_takes_message (laws_of c) (node_laws_of c)

pub returns-clause-begin : goal.returns-clause-begin
returns-clause-begin c = begin_keeps (laws_of c) (node_laws_of c)

pub returns-clause-write : goal.returns-clause-write
returns-clause-write c = writing_keeps (laws_of c) (node_laws_of c)
