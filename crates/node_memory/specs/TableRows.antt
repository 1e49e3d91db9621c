-- A row of the node's table, as the code has it.
use Rattle.std.specs.Prelude.{◌≡◌, Bool}
use Rattle.memory_contracts.specs.Protocol.Lines.{Copy}
use Rattle.memory_contracts.specs.Protocol.Messages.{Message}
use Rattle.memory_contracts.specs.Protocol.NodeTable.{node_takes}
use Rattle.node_memory.specs.NodeParts.{words_of}
use Rattle.node_memory.specs.Rows.{change_by}
use Rattle.node_memory.specs.declared.table.Row.{Row}

-- what is sent, and whether the line is lost, are the protocol's, whether or not the line is awaited
pub record IsRow (m : Message) (copy : Copy) (row : Row) : Type 0 where
  pub change : row.change ≡ change_by m copy
  pub reply : (awaited : Bool) → words_of row.reply ≡ (node_takes m copy awaited).sent
  pub lost : (awaited : Bool) → row.lost ≡ (node_takes m copy awaited).lost
