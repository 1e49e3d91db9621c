use Rattle.std.proofs.Common.{◌≡◌, ◌*◌, replicate, subst, sym, arith}
use Rattle.cache_sets.specs.Caches.{empty_cache}
use Rattle.cache_sets.specs.Sound.{IsSound}
use Rattle.cache_levels.specs.Levels.{LevelsView, no_copy, empty_levels}
use Rattle.cache_levels.specs.Sound.{AreSound}
use Rattle.cache_levels.proofs.ConfigSizes.{first_fits, second_fits}
use Rattle.cache_levels.proofs.Empty.{AreSound-empty}
use Rattle.cache_levels.proofs.levels.Levels.make.Goals as goal

pub make-requires-clause-some : goal.make-requires-clause-some
make-requires-clause-some c = (first_fits c.args.config.now c.requires).0

pub make-requires-clause-small : goal.make-requires-clause-small
make-requires-clause-small c = (first_fits c.args.config.now c.requires).1

pub make-requires-2-clause-some : goal.make-requires-2-clause-some
make-requires-2-clause-some c = (second_fits c.args.config.now c.requires).0

pub make-requires-2-clause-small : goal.make-requires-2-clause-small
make-requires-2-clause-small c = (second_fits c.args.config.now c.requires).1

pub overflow_mul-slots : goal.overflow_mul-slots
overflow_mul-slots c = omega (arith, (second_fits c.args.config.now c.requires).1)

pub invariant_of-result : goal.invariant_of-result
invariant_of-result c =
    let config = c.args.config.now in
    let first : c.in_ok-first.first ≡ empty_cache config.l1_sets config.l1_ways = c.in_ok-first.ensures.empty in
    let second : c.in_ok-second.second ≡ empty_cache config.l2_sets config.l2_ways = c.in_ok-second.ensures.empty in
    let copies : c.in_ok-copies.copies.items ≡ replicate (config.l2_sets * config.l2_ways) no_copy = c.in_ok-copies.ensures in
    let made : LevelsView = record { first = c.in_ok-first.first; second = c.in_ok-second.second; copies = c.in_ok-copies.copies.items; line_bytes = c.from.result } in
    let empty : made ≡ empty_levels config = cc c.from.ensures in
    let sound = AreSound-empty config c.requires (subst IsSound first c.in_ok-first.ensures.sound) (subst IsSound second c.in_ok-second.ensures.sound) in
    subst AreSound (sym empty) sound

pub returns-clause-sound : goal.returns-clause-sound
returns-clause-sound c =
    let config = c.args.config.now in
    let first : c.in_ok-first.first ≡ empty_cache config.l1_sets config.l1_ways = c.in_ok-first.ensures.empty in
    let second : c.in_ok-second.second ≡ empty_cache config.l2_sets config.l2_ways = c.in_ok-second.ensures.empty in
    let copies : c.in_ok-copies.copies.items ≡ replicate (config.l2_sets * config.l2_ways) no_copy = c.in_ok-copies.ensures in
    let made : LevelsView = record { first = c.in_ok-first.first; second = c.in_ok-second.second; copies = c.in_ok-copies.copies.items; line_bytes = c.from.result } in
    let empty : made ≡ empty_levels config = cc c.from.ensures in
    let sound = AreSound-empty config c.requires (subst IsSound first c.in_ok-first.ensures.sound) (subst IsSound second c.in_ok-second.ensures.sound) in
    subst AreSound (sym empty) sound
