use Rattle.std.proofs.Common.{option_map, arith, sym, ap, subst, ◌∙◌}
use Rattle.cache_sets.specs.Ways.{Way}
use Rattle.cache_sets.specs.Caches.{CacheView, slot_of, reserved_slot, room_for}
use Rattle.cache_sets.specs.Lookups.{LooksUpReserved}
use Rattle.cache_sets.specs.Sound.{IsSound}
use Rattle.cache_sets.proofs.Calls.{slot_told_of, none_told, room_within, with_reserved-none, Shows-with_reserved}
use Rattle.cache_sets.proofs.Looking.{LooksUp-with_reserved}
use Rattle.cache_sets.proofs.sets.CacheSets.reserve_way.Goals as goal

pub returns-in_err-room-clause-reserved : goal.returns-in_err-room-clause-reserved
returns-in_err-room-clause-reserved c =
    let now = c.args.self.now in
    let none = none_told (room_for c.args.line.0 now) c.in_err-room.ensures.told in
    sym (with_reserved-none c.args.line.0 now none)

pub returns-in_err-room-clause-looks : goal.returns-in_err-room-clause-looks
returns-in_err-room-clause-looks c =
    let now = c.args.self.now in
    let After : CacheView → Type 0 = λ v. LooksUpReserved c.args.line.0 now v in
    subst After (sym (returns-in_err-room-clause-reserved c)) (LooksUp-with_reserved c.args.line.0 now c.requires.unreserved (subst IsSound c.self.view_is c.self.invariant.sound))

pub index_mut-requires : goal.index_mut-requires
index_mut-requires c =
    let s = c.self.inside in
    let told_here = c.in_ok-room.ensures.told in
    let slot = ap (λ v. option_map (λ (way : Way). way.slot) (room_for c.args.line.0 v)) c.self.view_is ∙ slot_told_of (room_for c.args.line.0 c.args.self.now) c.in_ok-room.room told_here in
    omega (arith, room_within s.sets s.ways c.args.line.0 c.in_ok-room.room.slot s.lines.items s.reserved.items s.recency.items c.self.invariant slot, c.self.invariant.lines_count)

pub index_mut-requires-2 : goal.index_mut-requires-2
index_mut-requires-2 c =
    let s = c.self.inside in
    let told_here = c.in_ok-room.ensures.told in
    let slot = ap (λ v. option_map (λ (way : Way). way.slot) (room_for c.args.line.0 v)) c.self.view_is ∙ slot_told_of (room_for c.args.line.0 c.args.self.now) c.in_ok-room.room told_here in
    omega (arith, room_within s.sets s.ways c.args.line.0 c.in_ok-room.room.slot s.lines.items s.reserved.items s.recency.items c.self.invariant slot, c.self.invariant.reserved_count)

pub invariant_of-self : goal.invariant_of-self
invariant_of-self c =
    let s = c.self.inside in
    let told_here = c.in_ok-room.ensures.told in
    let slot = ap (λ v. option_map (λ (way : Way). way.slot) (room_for c.args.line.0 v)) c.self.view_is ∙ slot_told_of (room_for c.args.line.0 c.args.self.now) c.in_ok-room.room told_here in
    let absent = ap (slot_of c.args.line.0) c.self.view_is ∙ c.requires.absent in
    let unreserved = ap (reserved_slot c.args.line.0) c.self.view_is ∙ c.requires.unreserved in
    (Shows-with_reserved s.sets s.ways c.in_ok-room.room.slot c.args.line s.lines.items s.reserved.items s.recency.items c.self.invariant absent unreserved slot).kept

pub returns-clause-reserved : goal.returns-clause-reserved
returns-clause-reserved c =
    let s = c.self.inside in
    let told_here = c.in_ok-room.ensures.told in
    let slot = ap (λ v. option_map (λ (way : Way). way.slot) (room_for c.args.line.0 v)) c.self.view_is ∙ slot_told_of (room_for c.args.line.0 c.args.self.now) c.in_ok-room.room told_here in
    let absent = ap (slot_of c.args.line.0) c.self.view_is ∙ c.requires.absent in
    let unreserved = ap (reserved_slot c.args.line.0) c.self.view_is ∙ c.requires.unreserved in
    rw (← c.self.view_is) (Shows-with_reserved s.sets s.ways c.in_ok-room.room.slot c.args.line s.lines.items s.reserved.items s.recency.items c.self.invariant absent unreserved slot).view

pub returns-clause-looks : goal.returns-clause-looks
returns-clause-looks c =
    let now = c.args.self.now in
    let After : CacheView → Type 0 = λ v. LooksUpReserved c.args.line.0 now v in
    subst After (sym (returns-clause-reserved c)) (LooksUp-with_reserved c.args.line.0 now c.requires.unreserved (subst IsSound c.self.view_is c.self.invariant.sound))

pub returns-clause-sound : goal.returns-clause-sound
returns-clause-sound c =
    let s = c.self.inside in
    let told_here = c.in_ok-room.ensures.told in
    let slot = ap (λ v. option_map (λ (way : Way). way.slot) (room_for c.args.line.0 v)) c.self.view_is ∙ slot_told_of (room_for c.args.line.0 c.args.self.now) c.in_ok-room.room told_here in
    let absent = ap (slot_of c.args.line.0) c.self.view_is ∙ c.requires.absent in
    let unreserved = ap (reserved_slot c.args.line.0) c.self.view_is ∙ c.requires.unreserved in
    (Shows-with_reserved s.sets s.ways c.in_ok-room.room.slot c.args.line s.lines.items s.reserved.items s.recency.items c.self.invariant absent unreserved slot).kept.sound
