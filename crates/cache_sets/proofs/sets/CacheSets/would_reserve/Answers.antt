use Rattle.std.proofs.Common.{ℕ, ◌*◌, ◌≤◌, Option, Some, option_map, vec_len, arith, sym, ap, ◌∙◌}
use Rattle.rsim_base.specs.declared.memory.Line.{Line}
use Rattle.cache_sets.specs.declared.sets.Reserved.{Reserved}
use Rattle.cache_sets.specs.Ways.{Way}
use Rattle.cache_sets.specs.Caches.{room_for, told, slot_count}
use Rattle.cache_sets.specs.Layout.{way_at}
use Rattle.cache_sets.proofs.Calls.{slots_fit_in, slot_count_is, found_room, room_within, victim_told}
use Rattle.cache_sets.proofs.sets.CacheSets.would_reserve.Goals as goal

pub find_room-requires-clause-lines : goal.find_room-requires-clause-lines
find_room-requires-clause-lines c =
    let s = c.self.inside in
    let count : s.sets * s.ways ≤ vec_len s.lines = omega (arith, c.self.invariant.lines_count) in
    slots_fit_in s.sets s.ways c.args.line.0 (vec_len s.lines) s.lines.items s.reserved.items s.recency.items c.slots_of.result.now c.args.self.now c.self.invariant c.self.view_is c.slots_of.ensures count

pub find_room-requires-clause-reserved : goal.find_room-requires-clause-reserved
find_room-requires-clause-reserved c =
    let s = c.self.inside in
    let count : s.sets * s.ways ≤ vec_len s.reserved = omega (arith, c.self.invariant.reserved_count) in
    slots_fit_in s.sets s.ways c.args.line.0 (vec_len s.reserved) s.lines.items s.reserved.items s.recency.items c.slots_of.result.now c.args.self.now c.self.invariant c.self.view_is c.slots_of.ensures count

pub returns-in_err-slot-clause-told : goal.returns-in_err-slot-clause-told
returns-in_err-slot-clause-told c =
    let s = c.self.inside in
    let room = found_room s.sets s.ways c.args.line.0 s.lines.items s.reserved.items s.recency.items c.slots_of.result.now c.args.self.now c.find_room.result c.self.invariant c.self.view_is c.slots_of.ensures c.find_room.ensures in
    let none = room ∙ ap (option_map (way_at s.lines.items s.reserved.items)) c.in_err-slot.was in
    c.from_residual.ensures ∙ sym (ap (option_map told) none)

pub index-victim-requires : goal.index-victim-requires
index-victim-requires c =
    let s = c.self.inside in
    let room = found_room s.sets s.ways c.args.line.0 s.lines.items s.reserved.items s.recency.items c.slots_of.result.now c.args.self.now c.find_room.result c.self.invariant c.self.view_is c.slots_of.ensures c.find_room.ensures in
    let is = ap (λ (o : Option ℕ). option_map (way_at s.lines.items s.reserved.items) o) c.in_ok-slot.was in
    let there = room ∙ is in
    let slot = ap (λ v. option_map (λ (way : Way). way.slot) (room_for c.args.line.0 v)) c.self.view_is ∙ ap (option_map (λ (way : Way). way.slot)) there in
    omega (arith, room_within s.sets s.ways c.args.line.0 c.in_ok-slot.slot s.lines.items s.reserved.items s.recency.items c.self.invariant slot, c.self.invariant.lines_count)

pub returns-clause-told : goal.returns-clause-told
returns-clause-told c =
    let s = c.self.inside in
    let room = found_room s.sets s.ways c.args.line.0 s.lines.items s.reserved.items s.recency.items c.slots_of.result.now c.args.self.now c.find_room.result c.self.invariant c.self.view_is c.slots_of.ensures c.find_room.ensures in
    let is = ap (λ (o : Option ℕ). option_map (way_at s.lines.items s.reserved.items) o) c.in_ok-slot.was in
    let there = room ∙ is in
    let slot = ap (λ v. option_map (λ (way : Way). way.slot) (room_for c.args.line.0 v)) c.self.view_is ∙ ap (option_map (λ (way : Way). way.slot)) there in
    let within = room_within s.sets s.ways c.args.line.0 c.in_ok-slot.slot s.lines.items s.reserved.items s.recency.items c.self.invariant slot in
    let told_there = victim_told s.lines.items s.reserved.items c.in_ok-slot.slot c.index-victim.result.now (omega (arith, within, c.self.invariant.lines_count)) c.index-victim.ensures in
    let tell : Option Line → Option Reserved = λ victim. Some (record { slot = c.in_ok-slot.slot; victim = victim }) in
    ap Some told_there ∙ sym (ap (option_map told) there)

pub returns-clause-within : goal.returns-clause-within
returns-clause-within c =
    let s = c.self.inside in
    let room = found_room s.sets s.ways c.args.line.0 s.lines.items s.reserved.items s.recency.items c.slots_of.result.now c.args.self.now c.find_room.result c.self.invariant c.self.view_is c.slots_of.ensures c.find_room.ensures in
    let is = ap (λ (o : Option ℕ). option_map (way_at s.lines.items s.reserved.items) o) c.in_ok-slot.was in
    let there = room ∙ is in
    let slot = ap (λ v. option_map (λ (way : Way). way.slot) (room_for c.args.line.0 v)) c.self.view_is ∙ ap (option_map (λ (way : Way). way.slot)) there in
    omega (arith, room_within s.sets s.ways c.args.line.0 c.in_ok-slot.slot s.lines.items s.reserved.items s.recency.items c.self.invariant slot, ap slot_count c.self.view_is, slot_count_is s.sets s.ways s.lines.items s.reserved.items s.recency.items)
