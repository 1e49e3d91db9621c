-- What the home of a line and the nodes say to one another about it.
use Rattle.std.specs.Prelude.{ℕ, Bool, true, false, List}

pub data Message : Type 0 where
  -- a node asks for the line, to read it or (GetM) to own it; or gives back its bytes
  GetS : Message
  GetM : Message
  Put : List ℕ → Message
  -- the home orders a node to give up its shared copy, or its owned one: the whole of it (true), or the owning alone
  Inv : Message
  Recall : Bool → Message
  -- the home gives the line, to own where true; or takes note of what was put back
  Grant : Bool → List ℕ → Message
  PutAck : Message
  -- a node replies: its copy is gone; here are the bytes of the line that was recalled, and whether a shared copy is kept;
  -- the line has come
  InvAck : Message
  RecallAck : Bool → List ℕ → Message
  Done : Message

-- the request for a line: to own it where true
abbrev pub get : Bool → Message
get true = GetM
get false = GetS
