-- What a home notes and says, as the protocol's tables know it.
use Rattle.std.specs.Prelude.{ℕ, List, Option, option_map}
use Rattle.rsim_base.specs.declared.memory.Node.{Node}
use Rattle.memory_contracts.specs.Protocol.Messages as Says
use Rattle.memory_contracts.specs.Protocol.Lines as Lines
use Rattle.memory_contracts.specs.Protocol.HomeTable.{HomeStep, to_each, to_none, to_one}
use Rattle.directory.specs.NodeSets.{set_of}
use Rattle.directory.specs.declared.line_record.LinePhase.{LinePhase}
use Rattle.directory.specs.declared.line_record.LinePhase.TheVariants.{Idle, Collecting, Recalling, Granting}
use Rattle.directory.specs.declared.line_record.LineRecord.{LineRecord}
use Rattle.directory.specs.declared.step.Sent.{Sent}
use Rattle.directory.specs.declared.step.Sent.TheVariants.{Nothing, One, Invs}
use Rattle.directory.specs.declared.step.Step.{Step}
use Rattle.directory.specs.declared.word.Word.{Word}
use Rattle.directory.specs.declared.word.Word.TheVariants.{Inv, Recall, Grant, PutAck}

abbrev pub phase_of : LinePhase → Lines.Phase
phase_of Idle = Lines.Idle
phase_of (Collecting to left) = Lines.Collecting to.0 (set_of left)
phase_of (Recalling from to whole) = Lines.Recalling from.0 to.0 whole
phase_of (Granting to) = Lines.Granting to.0

abbrev pub owner_of : Option Node → Option ℕ
owner_of owner = option_map (λ (p : Node). p.0) owner

abbrev pub record_of : LineRecord → Lines.HomeRecord
record_of r = record {
  phase = phase_of r.phase;
  owner = owner_of r.owner;
  sharers = set_of r.sharers;
  memory = r.memory;
}

abbrev pub word_of : Word → Says.Message
word_of Inv = Says.Inv
word_of (Recall whole) = Says.Recall whole
word_of (Grant owned bytes) = Says.Grant owned bytes
word_of PutAck = Says.PutAck

abbrev pub sent_of : Sent → ℕ → List Says.Message
sent_of Nothing = to_none
sent_of (One to word) = to_one to.0 (word_of word)
sent_of (Invs to) = to_each (set_of to) Says.Inv

abbrev pub step_of : Step → HomeStep
step_of step = record { after = record_of step.after; waits = step.waits; sent = sent_of step.sent }
