-- What the protocol's laws give for a line of memory, and what shows that memory is kept.
use Rattle.std.proofs.Common.{◌≡◌, ℕ, ◌<◌, true, List, refl, sym, ap, ◌∙◌, subst}
use Rattle.machine_config.specs.declared.config.Protocol.{Protocol}
use Rattle.memory_contracts.specs.Protocol.Alike.{AreAlike}
use Rattle.memory_contracts.specs.Protocol.Coherent.{Coherent}
use Rattle.memory_contracts.specs.Protocol.Events.{HomeTakes, NodeTakes, Moment, becomes, is_to_home, is_to_node}
use Rattle.memory_contracts.specs.Protocol.HomeTable.{after_home}
use Rattle.memory_contracts.specs.Protocol.Laws.{CurrentIsContent, EventsKeepCoherence, GrantsAreAwaited, OneFromHome, OrderIsFree, OwnedHasContent, OwnedIsAlone}
use Rattle.memory_contracts.specs.Protocol.Lines.{LineState, with_cell, with_mail}
use Rattle.memory_contracts.specs.Protocol.Messages.{Message}
use Rattle.memory_contracts.specs.Protocol.NodeTable.{after_message}
use Rattle.coherent_memory.specs.SystemInvariants.{HasKept, IsFine, IsRight}
use Rattle.coherent_memory.specs.Systems.{System, content, is_kept, line_of}

-- the protocol's laws that are used
pub record ProtocolLaws : Type 0 where
  pub events : EventsKeepCoherence
  pub order : OrderIsFree
  pub current : CurrentIsContent
  pub one : OneFromHome
  pub awaited : GrantsAreAwaited
  pub owned : OwnedHasContent
  pub alone : OwnedIsAlone

-- ---- one line

-- the home takes a message: the line without it is rest
pub home_takes_keeps : ProtocolLaws → (protocol : Protocol) (n x : ℕ) (m : Message) (g : List ℕ) (rest : LineState)
    → x < n
    → is_to_home m ≡ true
    → Coherent n g (with_mail x m rest)
    → Coherent n g (after_home protocol n x m rest)
home_takes_keeps laws protocol n x m g rest below kind co =
    let before : Moment = record { content = g; line = with_mail x m rest } in
    (laws.events protocol n (HomeTakes x m) before (becomes (after_home protocol n x m rest) before) co (rest, below, kind, refl, refl)).0

-- a node takes one
pub node_takes_keeps : ProtocolLaws → (protocol : Protocol) (n x : ℕ) (m : Message) (g : List ℕ) (rest : LineState)
    → x < n
    → is_to_node m ≡ true
    → Coherent n g (with_mail x m rest)
    → Coherent n g (with_cell x (after_message m (rest.at x)) rest)
node_takes_keeps laws protocol n x m g rest below kind co =
    let before : Moment = record { content = g; line = with_mail x m rest } in
    (laws.events protocol n (NodeTakes x m) before (becomes (with_cell x (after_message m (rest.at x)) rest) before) co (rest, below, kind, refl, refl)).0

-- ---- all of memory

-- the same lines are kept, messages are where they belong, and each line is coherent with the content that it had
pub keeps : ProtocolLaws → (n : ℕ) (s t : System)
    → 0 < n
    → is_kept n t ≡ is_kept n s
    → IsRight n (is_kept n s) t
    → ((l : ℕ) → is_kept n s l ≡ true → Coherent n (content n s l) (line_of n t l))
    → HasKept n s t
keeps laws n s t some same right lines = record {
  fine = record {
    some = some;
    right = subst (λ kept. IsRight n kept t) (sym same) right;
    lines = λ l kept.
        let co = lines l (sym (ap (λ f. f l) same) ∙ kept) in
        subst (λ g. Coherent n g (line_of n t l)) (sym (laws.current n (content n s l) (line_of n t l) co)) co;
  };
  lines = λ l. ap (λ f. f l) same;
  content = λ l kept. laws.current n (content n s l) (line_of n t l) (lines l kept);
}

-- each line is alike
pub keeps_alike : ProtocolLaws → (n : ℕ) (s t : System)
    → IsFine n s
    → is_kept n t ≡ is_kept n s
    → IsRight n (is_kept n s) t
    → ((l : ℕ) → AreAlike n (line_of n s l) (line_of n t l))
    → HasKept n s t
keeps_alike laws n s t fine same right alike =
    keeps laws n s t fine.some same right (λ l kept. laws.order n (content n s l) (line_of n s l) (line_of n t l) (alike l) (fine.lines l kept))
