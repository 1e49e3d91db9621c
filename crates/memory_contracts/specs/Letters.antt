-- What a message says, as the protocol's tables know it: what it says, about which line, and who says it or is told it.
use Rattle.std.specs.Prelude.{ℕ, Bool, false, List, replicate}
use Rattle.rsim_base.specs.Limits.{line_room}
use Rattle.rsim_base.specs.declared.memory.Node.{Node}
use Rattle.memory_contracts.specs.Protocol.Messages as Says
use Rattle.memory_contracts.specs.declared.message.Message.{Message}
use Rattle.memory_contracts.specs.declared.message.MsgKind.{MsgKind}
use Rattle.memory_contracts.specs.declared.message.MsgKind.TheVariants.{GetS, GetM, Put, Inv, Recall, Grant, PutAck, InvAck, RecallAck, Done}

-- what a message of this kind says, with its flags and its bytes
abbrev pub said_by : MsgKind → Bool → Bool → List ℕ → Says.Message
said_by GetS owned kept bytes = Says.GetS
said_by GetM owned kept bytes = Says.GetM
said_by Put owned kept bytes = Says.Put bytes
said_by Inv owned kept bytes = Says.Inv
said_by Recall owned kept bytes = Says.Recall owned
said_by Grant owned kept bytes = Says.Grant owned bytes
said_by PutAck owned kept bytes = Says.PutAck
said_by InvAck owned kept bytes = Says.InvAck
said_by RecallAck owned kept bytes = Says.RecallAck kept bytes
said_by Done owned kept bytes = Says.Done

abbrev pub said : Message → Says.Message
said m = said_by m.kind m.owned m.kept m.bytes

-- what a node says about a line
pub record Letter : Type 0 where
  pub line : ℕ
  pub from : ℕ
  pub message : Says.Message

abbrev pub letter_of : Message → Letter
letter_of m = record { line = m.line.0; from = m.from.0; message = said m }

-- what a node is told about a line
pub record Mail : Type 0 where
  pub line : ℕ
  pub to : ℕ
  pub message : Says.Message

-- ---- the one message that says it

abbrev pub kind_of : Says.Message → MsgKind
kind_of Says.GetS = GetS
kind_of Says.GetM = GetM
kind_of (Says.Put bytes) = Put
kind_of Says.Inv = Inv
kind_of (Says.Recall whole) = Recall
kind_of (Says.Grant own bytes) = Grant
kind_of Says.PutAck = PutAck
kind_of Says.InvAck = InvAck
kind_of (Says.RecallAck kept bytes) = RecallAck
kind_of Says.Done = Done

-- what a kind lacks is false, or zeros
abbrev pub owned_in : Says.Message → Bool
owned_in (Says.Recall whole) = whole
owned_in (Says.Grant own bytes) = own
owned_in m = false

abbrev pub kept_in : Says.Message → Bool
kept_in (Says.RecallAck kept bytes) = kept
kept_in m = false

abbrev pub bytes_in : Says.Message → List ℕ
bytes_in (Says.Put bytes) = bytes
bytes_in (Says.Grant own bytes) = bytes
bytes_in (Says.RecallAck kept bytes) = bytes
bytes_in m = replicate line_room 0

-- of node p, about a line
abbrev pub saying : ℕ → ℕ → Says.Message → Message
saying p line m = record {
  kind = kind_of m;
  line = record { 0 = line };
  from = record { 0 = p };
  owned = owned_in m;
  kept = kept_in m;
  bytes = bytes_in m;
}

abbrev pub message_of : ℕ → Mail → Message
message_of p mail = saying p mail.line mail.message

-- a message as it is handed out, with the node that it is for
abbrev pub told : Node × Message → Mail
told sent = record { line = sent.1.line.0; to = sent.0.0; message = said sent.1 }
