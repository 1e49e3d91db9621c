use Rattle.node_memory.proofs.Follows.{begin-follows, held-follows, message-follows, read-follows, wishes-leave, write-follows}
use Rattle.node_memory.proofs.laws.tables_follow.Goals as goal

pub returns-clause-message : goal.returns-clause-message
returns-clause-message c = message-follows assumption

pub returns-clause-begin : goal.returns-clause-begin
returns-clause-begin c = begin-follows assumption

pub returns-clause-wishes : goal.returns-clause-wishes
returns-clause-wishes c = wishes-leave

pub returns-clause-read : goal.returns-clause-read
returns-clause-read c = read-follows assumption

pub returns-clause-write : goal.returns-clause-write
returns-clause-write c = write-follows assumption

pub returns-clause-held : goal.returns-clause-held
returns-clause-held c = held-follows assumption
