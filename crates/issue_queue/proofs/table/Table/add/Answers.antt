use Rattle.std.proofs.Common.{ℕ, ◌+◌, ◌<◌, ap, sym, subst, set}
use Rattle.std.specs.List.{All}
use Rattle.std.specs.Vec.{with_item}
use Rattle.issue_queue.specs.Held.{Held}
use Rattle.issue_queue.specs.Queues.{Entry}
use Rattle.issue_queue.specs.Tables.{held_of}
use Rattle.issue_queue.proofs.Adds.{AreAdded, entries-added, sound-added}
use Rattle.issue_queue.proofs.table.Table.add.Goals as goal

are : (c : goal.After-self-7-1) → AreAdded c.self.inside c.args.seq c.args.unit c.args.needs c.saturating_sub-self-inside.result c.place_of-place.result
    c.with-self-inside.result c.put-self-inside.result c.without-self-inside.result c.put-self-inside-2.result c.put-self-inside-3.result
    (with_item c.self.inside.needs c.from.result c.args.needs) c.note_readers.new.readers
are c =
    let t = c.self.inside in
    record {
      youngest = subst (λ (h : Held). All (λ (e : Entry). e.seq < c.args.seq) h.entries) (sym c.self.view_is) c.requires.youngest;
      near = subst (λ (h : Held). All (λ (e : Entry). c.args.seq < e.seq + 128) h.entries) (sym c.self.view_is) c.requires.near;
      small = c.requires.small;
      low_is = c.saturating_sub-self-inside.ensures;
      place_is = c.place_of-place.ensures.value;
      live_is = c.with-self-inside.ensures;
      ready_is = λ j. rw (← c.is_clear.ensures) (c.put-self-inside.ensures j);
      issued_is = c.without-self-inside.ensures.has;
      mul_is = λ j. rw (← c.is_mul.ensures) (c.put-self-inside-2.ensures j);
      div_is = λ j. rw (← c.is_div.ensures) (c.put-self-inside-3.ensures j);
      needs_is = ap (λ (i : ℕ). set t.needs.items i c.args.needs) c.from.ensures;
      readers_is = c.note_readers.ensures.readers;
      len = c.note_readers.ensures.len;
    }

pub invariant_of-self : goal.invariant_of-self
invariant_of-self c = sound-added c.self.inside c.self.invariant c.args.seq c.args.unit c.args.needs _ _ _ _ _ _ _ _ _ (are c)

pub returns : goal.returns
returns c =
    let t = c.self.inside in
    let entries = entries-added t c.self.invariant c.args.seq c.args.unit c.args.needs _ _ _ _ _ _ _ _ _ (are c) in
    rw (← c.self.view_is) (λ i. record (held_of t) { entries = entries i; registers = c.note_readers.ensures.len i })
