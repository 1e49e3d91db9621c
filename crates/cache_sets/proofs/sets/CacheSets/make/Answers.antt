use Rattle.std.proofs.Common.{◌≡◌, ◌*◌, None, replicate, rules, arith}
use Rattle.std.specs.List.{range_with_len}
use Rattle.cache_sets.proofs.Made.{Shows-empty}
use Rattle.cache_sets.proofs.sets.CacheSets.make.Goals as goal

pub invariant_of-result : goal.invariant_of-result
invariant_of-result c =
    let n = c.args.sets * c.args.ways in
    let lines : c.in_ok-lines.lines.items ≡ replicate n None = search rules in
    let reserved : c.in_ok-reserved.reserved.items ≡ replicate n None = search rules in
    let recency : c.in_ok-recency.recency.items ≡ range_with_len 0 n = search rules in
    (Shows-empty c.args.sets c.args.ways c.in_ok-lines.lines.items c.in_ok-reserved.reserved.items c.in_ok-recency.recency.items (omega (arith, c.requires.some)) c.requires.small lines reserved recency).kept

pub returns-clause-empty : goal.returns-clause-empty
returns-clause-empty c =
    let n = c.args.sets * c.args.ways in
    let lines : c.in_ok-lines.lines.items ≡ replicate n None = search rules in
    let reserved : c.in_ok-reserved.reserved.items ≡ replicate n None = search rules in
    let recency : c.in_ok-recency.recency.items ≡ range_with_len 0 n = search rules in
    (Shows-empty c.args.sets c.args.ways c.in_ok-lines.lines.items c.in_ok-reserved.reserved.items c.in_ok-recency.recency.items (omega (arith, c.requires.some)) c.requires.small lines reserved recency).view

pub returns-clause-sound : goal.returns-clause-sound
returns-clause-sound c =
    let n = c.args.sets * c.args.ways in
    let lines : c.in_ok-lines.lines.items ≡ replicate n None = search rules in
    let reserved : c.in_ok-reserved.reserved.items ≡ replicate n None = search rules in
    let recency : c.in_ok-recency.recency.items ≡ range_with_len 0 n = search rules in
    (Shows-empty c.args.sets c.args.ways c.in_ok-lines.lines.items c.in_ok-reserved.reserved.items c.in_ok-recency.recency.items (omega (arith, c.requires.some)) c.requires.small lines reserved recency).kept.sound
