-- What is known of a node's calls.
use Rattle.node_memory.specs.Laws.{BeginFollows, MessageFollows, WishesLeave, WriteFollows}

pub record NodeLaws : Type 0 where
  pub message : MessageFollows
  pub begin : BeginFollows
  pub wishes : WishesLeave
  pub write : WriteFollows
