-- The parts of a node after a wish has started for an absent line.
use Rattle.std.proofs.Common.{◌≡◌, ℕ, Bool, true, false, cond, List, [], ◌∷◌, ◌++◌, map, Option, None, Some, sym, ap, ◌∙◌, append-nil}
use Rattle.std.proofs.lemmas.List.{map-append}
use Rattle.rsim_base.specs.declared.memory.Line.{Line}
use Rattle.cache_levels.specs.Levels.{LevelsView, with_room}
use Rattle.cache_levels.specs.declared.levels.Evicted.{Evicted}
use Rattle.memory_contracts.specs.Protocol.Messages as Says
use Rattle.memory_contracts.specs.Letters.{Mail}
use Rattle.miss_registers.specs.Misses.{MissView, with_register}
use Rattle.node_memory.specs.Nodes.{NodeView, mail}
use Rattle.node_memory.specs.NodeParts.{mail_of, posts_for}
use Rattle.node_memory.specs.Starting.{asks, evicts, slots_with, with_put}
use Rattle.node_memory.specs.declared.outbox.Post.{Post}
use Rattle.node_memory.specs.declared.word.Word.TheVariants.{Get, Put}

mails-put : (v : NodeView) (posts : List Post) (e : Evicted) → v.outbox ≡ map (mail_of v.nodes) posts → map (mail_of v.nodes) (posts ++ posts_for e) ≡ (with_put e v).outbox
mails-put v posts e are = by e.line
  where
    put : (victim : Line) (owned : Bool) → map (mail_of v.nodes) (posts ++ cond owned (record { line = victim; word = Put e.bytes } ∷ []) []) ≡ v.outbox ++ map (mail v victim.0) (cond owned (Says.Put e.bytes ∷ []) [])
    put victim true = map-append (mail_of v.nodes) posts (record { line = victim; word = Put e.bytes } ∷ []) ∙ ap (λ (mails : List Mail). mails ++ mail v victim.0 (Says.Put e.bytes) ∷ []) (sym are)
    put victim false = ap (map (mail_of v.nodes)) (append-nil posts) ∙ (sym are ∙ sym (append-nil v.outbox))

    by : (line : Option Line) → map (mail_of v.nodes) (posts ++ posts_for (record e { line = line })) ≡ (with_put (record e { line = line }) v).outbox
    by None = ap (map (mail_of v.nodes)) (append-nil posts) ∙ sym are
    by (Some victim) = put victim e.owned

-- a Put, where an owned line leaves, and the request behind it
pub mails-absent : (line : Line) (own : Bool) (v : NodeView) (posts : List Post) (e : Evicted) → v.outbox ≡ map (mail_of v.nodes) posts →
    map (mail_of v.nodes) ((posts ++ posts_for e) ++ record { line = line; word = Get own } ∷ []) ≡ (asks line.0 own (evicts line.0 e v)).outbox
mails-absent line own v posts e are = map-append (mail_of v.nodes) (posts ++ posts_for e) (record { line = line; word = Get own } ∷ []) ∙ by e.line
  where
    by : (leaves : Option Line) → map (mail_of v.nodes) (posts ++ posts_for (record e { line = leaves })) ++ mail v line.0 (Says.get own) ∷ [] ≡ (asks line.0 own (evicts line.0 (record e { line = leaves }) v)).outbox
    by None = ap (λ (mails : List Mail). mails ++ mail v line.0 (Says.get own) ∷ []) (mails-put v posts (record e { line = None }) are)
    by (Some victim) = ap (λ (mails : List Mail). mails ++ mail v line.0 (Says.get own) ∷ []) (mails-put v posts (record e { line = Some victim }) are)

-- all of them
pub asks-is : (line : ℕ) (own : Bool) (e : Evicted) (v : NodeView) (levels : LevelsView) (misses : MissView) (outbox : List Mail) → levels ≡ with_room line v.levels → misses ≡ with_register line own (slots_with e v.misses) → outbox ≡ (asks line own (evicts line e v)).outbox →
    record v { levels = levels; misses = misses; outbox = outbox } ≡ asks line own (evicts line e v)
asks-is line own e v levels misses outbox levels_are = by e.line
  where
    by : (leaves : Option Line) → misses ≡ with_register line own (slots_with (record e { line = leaves }) v.misses) → outbox ≡ (asks line own (evicts line (record e { line = leaves }) v)).outbox →
        record v { levels = levels; misses = misses; outbox = outbox } ≡ asks line own (evicts line (record e { line = leaves }) v)
    by None misses_are outbox_is = λ i. record v { levels = levels_are i; misses = misses_are i; outbox = outbox_is i }
    by (Some victim) misses_are outbox_is = λ i. record v { levels = levels_are i; misses = misses_are i; outbox = outbox_is i }
