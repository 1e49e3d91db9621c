use Rattle.std.proofs.Common.{◌≡◌, ℕ, ◌+◌, ◌-◌, ◌*◌, List, take, drop, map, arith, ap, ◌∙◌}
use Rattle.cache_sets.specs.Ways.{Way}
use Rattle.cache_sets.specs.Caches.{home_of, set_of}
use Rattle.cache_sets.specs.Layout.{view_of, slots_of}
use Rattle.cache_sets.proofs.Calls.{start_at, home_ends, slots_are}
use Rattle.cache_sets.proofs.sets.CacheSets.slots_of.Goals as goal

pub slice_bounds-result-end : goal.slice_bounds-result-end
slice_bounds-result-end c =
    let s = c.self.inside in
    let start = start_at s.sets s.ways c.args.line.0 c.start_of-start.result s.lines.items s.reserved.items s.recency.items c.args.self.now c.self.view_is c.start_of-start.ensures.start in
    omega (arith, start, home_ends s.sets s.ways c.args.line.0 s.lines.items s.reserved.items s.recency.items c.self.invariant, c.self.invariant.recency_count)

pub returns : goal.returns
returns c =
    let s = c.self.inside in
    let cache = view_of s.sets s.ways s.lines.items s.reserved.items s.recency.items in
    let at = start_at s.sets s.ways c.args.line.0 c.start_of-start.result s.lines.items s.reserved.items s.recency.items c.args.self.now c.self.view_is c.start_of-start.ensures.start in
    let size : c.start_of-start.result + s.ways - c.start_of-start.result ≡ s.ways = omega arith in
    let slots : take (c.start_of-start.result + s.ways - c.start_of-start.result) (drop c.start_of-start.result c.deref.result.now) ≡ slots_of s.ways s.recency.items (home_of c.args.line.0 cache) =
    ap (λ (n : ℕ). take n (drop c.start_of-start.result c.deref.result.now)) size
    ∙ (ap (λ (n : ℕ). take s.ways (drop n c.deref.result.now)) at ∙ ap (λ (xs : List ℕ). take s.ways (drop (home_of c.args.line.0 cache * s.ways) xs)) c.deref.ensures.value) in
    slots ∙ (slots_are s.sets s.ways c.args.line.0 s.lines.items s.reserved.items s.recency.items c.self.invariant ∙ ap (λ v. map (λ (way : Way). way.slot) (set_of c.args.line.0 v)) c.self.view_is)
