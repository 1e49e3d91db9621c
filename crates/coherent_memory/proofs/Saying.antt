-- What is said can be read off the message that says it.
use Rattle.std.proofs.Common.{◌≡◌, ℕ, refl}
use Rattle.memory_contracts.specs.Letters.{said, saying}
use Rattle.memory_contracts.specs.Protocol.Messages.{Message, GetS, GetM, Put, Inv, Recall, Grant, PutAck, InvAck, RecallAck, Done}

pub said-saying : (p line : ℕ) (m : Message) → said (saying p line m) ≡ m
said-saying p line GetS = refl
said-saying p line GetM = refl
said-saying p line (Put bytes) = refl
said-saying p line Inv = refl
said-saying p line (Recall whole) = refl
said-saying p line (Grant own bytes) = refl
said-saying p line PutAck = refl
said-saying p line InvAck = refl
said-saying p line (RecallAck kept bytes) = refl
said-saying p line Done = refl
