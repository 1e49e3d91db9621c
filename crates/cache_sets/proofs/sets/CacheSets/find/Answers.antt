use Rattle.std.proofs.Common.{◌*◌, ◌≤◌, vec_len, arith, sym, ap, ◌∙◌}
use Rattle.cache_sets.specs.Ways.{holds}
use Rattle.cache_sets.specs.Caches.{slot_of}
use Rattle.cache_sets.proofs.Calls.{slots_fit_in, found_slot, told_within}
use Rattle.cache_sets.proofs.sets.CacheSets.find.Goals as goal

pub find_slot-requires : goal.find_slot-requires
find_slot-requires c =
    let s = c.self.inside in
    let count : s.sets * s.ways ≤ vec_len s.lines = omega (arith, c.self.invariant.lines_count) in
    slots_fit_in s.sets s.ways c.args.line.0 (vec_len s.lines) s.lines.items s.reserved.items s.recency.items c.slots_of.result.now c.args.self.now c.self.invariant c.self.view_is c.slots_of.ensures count

pub returns-clause-slot : goal.returns-clause-slot
returns-clause-slot c =
    let s = c.self.inside in
    found_slot s.sets s.ways c.args.line.0 s.lines.items s.reserved.items s.recency.items c.slots_of.result.now c.args.self.now c.find_slot.result c.self.invariant c.self.view_is c.slots_of.ensures c.find_slot.ensures

pub returns-clause-within : goal.returns-clause-within
returns-clause-within c =
    let s = c.self.inside in
    let told = found_slot s.sets s.ways c.args.line.0 s.lines.items s.reserved.items s.recency.items c.slots_of.result.now c.args.self.now c.find_slot.result c.self.invariant c.self.view_is c.slots_of.ensures c.find_slot.ensures in
    rw (← c.self.view_is) (told_within s.sets s.ways c.args.line.0 s.lines.items s.reserved.items s.recency.items (holds c.args.line.0) c.find_slot.result c.self.invariant (told ∙ ap (slot_of c.args.line.0) (sym c.self.view_is)))
