-- The home of lines: what it has noted of each, the requests that wait, and the messages that it has to send.
use Rattle.std.specs.Prelude.{◌≡◌, ℕ, zero, suc, ◌+◌, ◌*◌, ◌==◌, nat_le, Bool, true, false, ◌&&◌, if◌then◌else◌, List, [], ◌∷◌, ◌++◌, length, map, slice_get, Option, None, Some}
use Rattle.std.specs.List.{position, remove}
use Rattle.machine_config.specs.declared.config.Protocol.{Protocol}
use Rattle.memory_contracts.specs.Protocol.Messages.{Message}
use Rattle.memory_contracts.specs.Protocol.Lines.{HomeRecord, Phase, Idle}
use Rattle.memory_contracts.specs.Protocol.HomeTable.{home_takes}
use Rattle.memory_contracts.specs.Letters.{Letter, Mail}
use Rattle.memory_contracts.specs.Updates.{with_at}

-- what the home has to say about a line, and the tick in which that was taken which it answers
pub record Post : Type 0 where
  pub line : ℕ
  pub to : ℕ
  pub message : Message
  pub since : ℕ

abbrev pub mail_of : Post → Mail
mail_of post = record { line = post.line; to = post.to; message = post.message }

pub record HomeView : Type 0 where
  -- the home's own node
  pub at : ℕ
  -- the home is one of so many nodes
  pub nodes : ℕ
  pub protocol : Protocol
  -- how many ticks it takes to answer
  pub latency : ℕ
  -- whether it keeps the line
  pub lines : ℕ → Bool
  pub records : ℕ → HomeRecord
  -- in the order of their coming
  pub waiting : List Letter
  -- the oldest first
  pub outgoing : List Post

-- ---- a message

abbrev pub post_to : ℕ → ℕ → ℕ → Message → Post
post_to line now y m = record { line = line; to = y; message = m; since = now }

-- what is sent, to one of n nodes after the other
abbrev pub posts : ℕ → ℕ → ℕ → (ℕ → List Message) → List Post
posts zero line now sent = []
posts (suc n) line now sent = posts n line now sent ++ map (post_to line now n) (sent n)

-- After a message was taken: its line's record changes by its row, what the row sends comes behind all that is to be sent, and a
-- request that has to wait comes behind those that wait.
abbrev pub home_after : Letter → ℕ → HomeView → HomeView
home_after m now v =
    let step = home_takes v.protocol v.nodes m.from m.message (v.records m.line) in
    record v {
      records = with_at v.records m.line step.after;
      waiting = if step.waits then v.waiting ++ m ∷ [] else v.waiting;
      outgoing = v.outgoing ++ posts v.nodes m.line now step.sent;
    }

-- ---- a request that has waited

abbrev pub is_idle : Phase → Bool
is_idle Idle = true
is_idle phase = false

-- where the first request for the line stands among those that wait
abbrev pub first_for : ℕ → List Letter → Option ℕ
first_for line waiting = position (λ w. w.line == line) waiting

-- the first request for an idle line was taken from among those that wait
pub record ServesOne (line now : ℕ) (old new : HomeView) : Type 0 where
  pub idle : is_idle (old.records line).phase ≡ true
  pub place : ℕ
  pub letter : Letter
  pub first : first_for line old.waiting ≡ Some place
  pub stands : slice_get old.waiting place ≡ Some letter
  pub after : new ≡ home_after letter now (record old { waiting = remove old.waiting place })

-- An idle line's first request is served, where one waits.
abbrev pub Serves : ℕ → ℕ → HomeView → HomeView → Bool → Type 0
Serves line now old new true = ServesOne line now old new
Serves line now old new false = (new ≡ old) × (is_idle (old.records line).phase ≡ true → first_for line old.waiting ≡ None)

-- ---- what is to be sent

-- the answers to what was taken in a tick may go so many ticks later
abbrev pub may_go : ℕ → ℕ → Post → Bool
may_go latency now post = nat_le (post.since + latency) now

-- the oldest message, if it may go
abbrev pub first_outgoing : ℕ → ℕ → List Post → Option Post
first_outgoing latency now [] = None
first_outgoing latency now (post ∷ outgoing) = if may_go latency now post then Some post else None

-- ---- rooms

abbrev pub most_waiting : ℕ → ℕ
most_waiting n = 32 * n

abbrev pub most_outgoing : ℕ
most_outgoing = 2048

-- whether a message may be taken, and what has waited may be served behind it
abbrev pub has_room : HomeView → Bool
has_room v = nat_le (length v.waiting + 1) (most_waiting v.nodes) && nat_le (length v.outgoing + 2 * v.nodes) most_outgoing
