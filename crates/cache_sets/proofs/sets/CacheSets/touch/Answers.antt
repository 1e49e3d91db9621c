use Rattle.std.proofs.Common.{◌*◌, ◌/◌, ◌<◌, length, subst, arith, refl, sym, ap}
use Rattle.cache_sets.specs.Caches.{slot_count}
use Rattle.cache_sets.specs.Layout.{way_at, sets_by}
use Rattle.cache_sets.proofs.Looking.{LooksUp-touched}
use Rattle.cache_sets.proofs.Keeping.{rows_end, length-sets_by, put_first_from}
use Rattle.cache_sets.proofs.Calls.{slot_count_is, slots_once, set_of_slot, Shows-touched}
use Rattle.cache_sets.specs.Caches.{CacheView}
use Rattle.cache_sets.specs.Sound.{IsSound}
use Rattle.cache_sets.specs.Lookups.{LooksUpAsBefore}
use Rattle.cache_sets.proofs.sets.CacheSets.touch.Goals as goal

pub move_to_front-requires-clause-within : goal.move_to_front-requires-clause-within
move_to_front-requires-clause-within c =
    let s = c.self.inside in
    let slot_below : c.args.slot < s.sets * s.ways = omega (arith, c.requires, ap slot_count c.self.view_is, slot_count_is s.sets s.ways s.lines.items s.reserved.items s.recency.items) in
    let below = set_of_slot s.sets s.ways c.args.slot slot_below in
    omega (arith, rows_end (c.args.slot / s.ways) s.sets s.ways below, c.self.invariant.recency_count)

pub move_to_front-requires-clause-once : goal.move_to_front-requires-clause-once
move_to_front-requires-clause-once c =
    let s = c.self.inside in
    let slot_below : c.args.slot < s.sets * s.ways = omega (arith, c.requires, ap slot_count c.self.view_is, slot_count_is s.sets s.ways s.lines.items s.reserved.items s.recency.items) in
    let below = set_of_slot s.sets s.ways c.args.slot slot_below in
    slots_once s.sets s.ways (c.args.slot / s.ways) c.args.slot s.lines.items s.reserved.items s.recency.items c.self.invariant below

pub invariant_of-self : goal.invariant_of-self
invariant_of-self c =
    let s = c.self.inside in
    let slot_below : c.args.slot < s.sets * s.ways = omega (arith, c.requires, ap slot_count c.self.view_is, slot_count_is s.sets s.ways s.lines.items s.reserved.items s.recency.items) in
    let below = set_of_slot s.sets s.ways c.args.slot slot_below in
    let moved = put_first_from s.ways (c.args.slot / s.ways) c.args.slot (c.args.slot / s.ways * s.ways) s.recency.items c.move_to_front.new.recency.items refl c.move_to_front.ensures in
    rw moved (Shows-touched s.sets s.ways c.args.slot s.lines.items s.reserved.items s.recency.items c.self.invariant below).kept

pub returns-clause-touched : goal.returns-clause-touched
returns-clause-touched c =
    let s = c.self.inside in
    let slot_below : c.args.slot < s.sets * s.ways = omega (arith, c.requires, ap slot_count c.self.view_is, slot_count_is s.sets s.ways s.lines.items s.reserved.items s.recency.items) in
    let below = set_of_slot s.sets s.ways c.args.slot slot_below in
    let moved = put_first_from s.ways (c.args.slot / s.ways) c.args.slot (c.args.slot / s.ways * s.ways) s.recency.items c.move_to_front.new.recency.items refl c.move_to_front.ensures in
    rw (← c.self.view_is, moved) (Shows-touched s.sets s.ways c.args.slot s.lines.items s.reserved.items s.recency.items c.self.invariant below).view

pub returns-clause-sound : goal.returns-clause-sound
returns-clause-sound c =
    let s = c.self.inside in
    let slot_below : c.args.slot < s.sets * s.ways = omega (arith, c.requires, ap slot_count c.self.view_is, slot_count_is s.sets s.ways s.lines.items s.reserved.items s.recency.items) in
    let below = set_of_slot s.sets s.ways c.args.slot slot_below in
    let moved = put_first_from s.ways (c.args.slot / s.ways) c.args.slot (c.args.slot / s.ways * s.ways) s.recency.items c.move_to_front.new.recency.items refl c.move_to_front.ensures in
    rw moved (Shows-touched s.sets s.ways c.args.slot s.lines.items s.reserved.items s.recency.items c.self.invariant below).kept.sound

pub returns-clause-looks : goal.returns-clause-looks
returns-clause-looks c =
    let s = c.self.inside in
    let now = c.args.self.now in
    let slot_below : c.args.slot < s.sets * s.ways = omega (arith, c.requires, ap slot_count c.self.view_is, slot_count_is s.sets s.ways s.lines.items s.reserved.items s.recency.items) in
    let below = set_of_slot s.sets s.ways c.args.slot slot_below in
    let same = length-sets_by (way_at s.lines.items s.reserved.items) s.sets s.ways s.recency.items in
    let inside : c.args.slot / s.ways < length (sets_by (way_at s.lines.items s.reserved.items) s.sets s.ways s.recency.items) = omega (arith, same, below) in
    let Inside : CacheView → Type 0 = λ v. c.args.slot / v.ways < length v.sets in
    let After : CacheView → Type 0 = λ v. LooksUpAsBefore now v in
    subst After (sym (returns-clause-touched c)) (LooksUp-touched c.args.slot now (subst Inside c.self.view_is inside) (subst IsSound c.self.view_is c.self.invariant.sound))
