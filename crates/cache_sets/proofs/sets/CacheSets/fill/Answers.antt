use Rattle.std.proofs.Common.{subst, ◌==◌, ℕ, Some, count_by, take, drop, arith, sym, ap, ◌∙◌}
use Rattle.cache_sets.specs.Ways.{is_reserved_for}
use Rattle.cache_sets.specs.Caches.{home_of, reserved_slot}
use Rattle.cache_sets.specs.Layout.{view_of}
use Rattle.cache_sets.proofs.Keeping.{home_within, put_first_from}
use Rattle.cache_sets.proofs.Calls.{start_at, home_ends, slot_count_is, slots_once, told_within, Shows-filled}
use Rattle.cache_sets.specs.Caches.{CacheView}
use Rattle.cache_sets.specs.Sound.{IsSound}
use Rattle.cache_sets.specs.Lookups.{LooksUpFilled}
use Rattle.cache_sets.proofs.Looking.{LooksUp-filled}
use Rattle.cache_sets.proofs.sets.CacheSets.fill.Goals as goal

pub index_mut-requires : goal.index_mut-requires
index_mut-requires c =
    let s = c.self.inside in
    let is = ap (reserved_slot c.args.line.0) c.self.view_is ∙ c.requires in
    let within = told_within s.sets s.ways c.args.line.0 s.lines.items s.reserved.items s.recency.items (is_reserved_for c.args.line.0) (Some c.args.slot) c.self.invariant (sym is) in
    omega (arith, within, slot_count_is s.sets s.ways s.lines.items s.reserved.items s.recency.items, c.self.invariant.lines_count)

pub index_mut-requires-2 : goal.index_mut-requires-2
index_mut-requires-2 c =
    let s = c.self.inside in
    let is = ap (reserved_slot c.args.line.0) c.self.view_is ∙ c.requires in
    let within = told_within s.sets s.ways c.args.line.0 s.lines.items s.reserved.items s.recency.items (is_reserved_for c.args.line.0) (Some c.args.slot) c.self.invariant (sym is) in
    omega (arith, within, slot_count_is s.sets s.ways s.lines.items s.reserved.items s.recency.items, c.self.invariant.reserved_count)

pub move_to_front-requires-clause-within : goal.move_to_front-requires-clause-within
move_to_front-requires-clause-within c =
    let s = c.self.inside in
    let start = start_at s.sets s.ways c.args.line.0 c.start_of-start.result s.lines.items s.reserved.items s.recency.items c.args.self.now c.self.view_is c.start_of-start.ensures.start in
    omega (arith, start, home_ends s.sets s.ways c.args.line.0 s.lines.items s.reserved.items s.recency.items c.self.invariant, c.self.invariant.recency_count)

pub move_to_front-requires-clause-once : goal.move_to_front-requires-clause-once
move_to_front-requires-clause-once c =
    let s = c.self.inside in
    let start = start_at s.sets s.ways c.args.line.0 c.start_of-start.result s.lines.items s.reserved.items s.recency.items c.args.self.now c.self.view_is c.start_of-start.ensures.start in
    let home = home_within s.sets s.ways c.args.line.0 s.lines.items s.reserved.items s.recency.items c.self.invariant in
    let once = slots_once s.sets s.ways (home_of c.args.line.0 (view_of s.sets s.ways s.lines.items s.reserved.items s.recency.items)) c.args.slot s.lines.items s.reserved.items s.recency.items c.self.invariant home in
    omega (arith, once, ap (λ (k : ℕ). count_by (λ (x : ℕ). x == c.args.slot) (take s.ways (drop k s.recency.items))) start)

pub invariant_of-self : goal.invariant_of-self
invariant_of-self c =
    let s = c.self.inside in
    let is = ap (reserved_slot c.args.line.0) c.self.view_is ∙ c.requires in
    let start = start_at s.sets s.ways c.args.line.0 c.start_of-start.result s.lines.items s.reserved.items s.recency.items c.args.self.now c.self.view_is c.start_of-start.ensures.start in
    let moved = put_first_from s.ways (home_of c.args.line.0 (view_of s.sets s.ways s.lines.items s.reserved.items s.recency.items)) c.args.slot c.start_of-start.result s.recency.items c.move_to_front.new.recency.items start c.move_to_front.ensures in
    rw moved (Shows-filled s.sets s.ways c.args.slot c.args.line s.lines.items s.reserved.items s.recency.items c.self.invariant is).kept

pub returns-clause-filled : goal.returns-clause-filled
returns-clause-filled c =
    let s = c.self.inside in
    let is = ap (reserved_slot c.args.line.0) c.self.view_is ∙ c.requires in
    let start = start_at s.sets s.ways c.args.line.0 c.start_of-start.result s.lines.items s.reserved.items s.recency.items c.args.self.now c.self.view_is c.start_of-start.ensures.start in
    let moved = put_first_from s.ways (home_of c.args.line.0 (view_of s.sets s.ways s.lines.items s.reserved.items s.recency.items)) c.args.slot c.start_of-start.result s.recency.items c.move_to_front.new.recency.items start c.move_to_front.ensures in
    rw (← c.self.view_is, moved) (Shows-filled s.sets s.ways c.args.slot c.args.line s.lines.items s.reserved.items s.recency.items c.self.invariant is).view

pub returns-clause-sound : goal.returns-clause-sound
returns-clause-sound c =
    let s = c.self.inside in
    let is = ap (reserved_slot c.args.line.0) c.self.view_is ∙ c.requires in
    let start = start_at s.sets s.ways c.args.line.0 c.start_of-start.result s.lines.items s.reserved.items s.recency.items c.args.self.now c.self.view_is c.start_of-start.ensures.start in
    let moved = put_first_from s.ways (home_of c.args.line.0 (view_of s.sets s.ways s.lines.items s.reserved.items s.recency.items)) c.args.slot c.start_of-start.result s.recency.items c.move_to_front.new.recency.items start c.move_to_front.ensures in
    rw moved (Shows-filled s.sets s.ways c.args.slot c.args.line s.lines.items s.reserved.items s.recency.items c.self.invariant is).kept.sound

pub returns-clause-looks : goal.returns-clause-looks
returns-clause-looks c =
    let now = c.args.self.now in
    let After : CacheView → Type 0 = λ v. LooksUpFilled c.args.slot c.args.line.0 now v in
    subst After (sym (returns-clause-filled c)) (LooksUp-filled c.args.slot c.args.line.0 now c.requires (subst IsSound c.self.view_is c.self.invariant.sound))
