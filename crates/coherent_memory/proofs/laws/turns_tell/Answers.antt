-- What leaves, by the laws of the steps and of nodes.
use Rattle.coherent_memory.proofs.Lost.{turns-tell}
use Rattle.coherent_memory.proofs.NodeLaws.{NodeLaws}
use Rattle.coherent_memory.proofs.Turning.{turn-tells}
use Rattle.coherent_memory.proofs.Kept.{turn-keeps}
use Rattle.coherent_memory.proofs.laws.turns_tell.Goals as goal
use Rattle.coherent_memory.proofs.laws.turns_tell.Goals.{After-tables_follow}

node_laws_of : After-tables_follow → NodeLaws
node_laws_of c = record {
  message = c.tables_follow.ensures.message;
  begin = c.tables_follow.ensures.begin;
  wishes = c.tables_follow.ensures.wishes;
  write = c.tables_follow.ensures.write;
}

pub returns-clause-turn : goal.returns-clause-turn
returns-clause-turn c = turn-tells (node_laws_of c) c.nodes_keep_lines.ensures.begin c.steps_keep_lines.ensures.awaited

pub returns-clause-turns : goal.returns-clause-turns
returns-clause-turns c = turns-tell

pub returns-clause-keeps : goal.returns-clause-keeps
returns-clause-keeps c = turn-keeps (record {
  home = c.steps_keep_lines.ensures.home;
  serving = c.steps_keep_lines.ensures.serving;
  post = c.steps_keep_lines.ensures.post;
  mail = c.steps_keep_lines.ensures.mail;
  node = c.nodes_keep_lines.ensures.node;
  begin = c.nodes_keep_lines.ensures.begin;
})
