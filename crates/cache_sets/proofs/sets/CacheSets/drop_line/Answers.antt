use Rattle.std.proofs.Common.{subst, arith, sym, ap, ◌∙◌}
use Rattle.cache_sets.specs.Caches.{slot_of, slot_count}
use Rattle.cache_sets.proofs.Calls.{slot_count_is, Shows-dropped}
use Rattle.cache_sets.specs.Caches.{CacheView}
use Rattle.cache_sets.specs.Sound.{IsSound}
use Rattle.cache_sets.specs.Lookups.{LooksUpDropped}
use Rattle.cache_sets.proofs.Looking.{LooksUp-dropped}
use Rattle.cache_sets.proofs.sets.CacheSets.drop_line.Goals as goal

pub index_mut-requires : goal.index_mut-requires
index_mut-requires c =
    let s = c.self.inside in
    omega (arith, c.in-Some.ensures.within, ap slot_count c.self.view_is, slot_count_is s.sets s.ways s.lines.items s.reserved.items s.recency.items, c.self.invariant.lines_count)

pub invariant_of-self : goal.invariant_of-self
invariant_of-self c =
    let s = c.self.inside in
    (Shows-dropped s.sets s.ways c.in-Some.slot c.args.line s.lines.items s.reserved.items s.recency.items c.self.invariant (ap (slot_of c.args.line.0) c.self.view_is ∙ sym c.in-Some.ensures.slot)).kept

pub returns-in-Some-clause-dropped : goal.returns-in-Some-clause-dropped
returns-in-Some-clause-dropped c =
    let s = c.self.inside in
    rw (← c.self.view_is) (Shows-dropped s.sets s.ways c.in-Some.slot c.args.line s.lines.items s.reserved.items s.recency.items c.self.invariant (ap (slot_of c.args.line.0) c.self.view_is ∙ sym c.in-Some.ensures.slot)).view

pub returns-in-Some-clause-sound : goal.returns-in-Some-clause-sound
returns-in-Some-clause-sound c =
    let s = c.self.inside in
    (Shows-dropped s.sets s.ways c.in-Some.slot c.args.line s.lines.items s.reserved.items s.recency.items c.self.invariant (ap (slot_of c.args.line.0) c.self.view_is ∙ sym c.in-Some.ensures.slot)).kept.sound

pub returns-in-Some-clause-looks : goal.returns-in-Some-clause-looks
returns-in-Some-clause-looks c =
    let now = c.args.self.now in
    let After : CacheView → Type 0 = λ v. LooksUpDropped c.args.line.0 now v in
    subst After (sym (returns-in-Some-clause-dropped c)) (LooksUp-dropped c.args.line.0 now (subst IsSound c.self.view_is c.self.invariant.sound))
