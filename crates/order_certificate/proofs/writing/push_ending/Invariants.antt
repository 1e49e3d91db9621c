use Rattle.std.proofs.Common.{◌≡◌, ◌++◌, codes, decimal, take}
use Rattle.std.specs.List.{flat_map}
use Rattle.order_certificate.proofs.writing.push_ending.Given as goal

-- the counts so far stand behind the first word
abbrev pub invariant-loop-count : goal.invariant-loop-count
invariant-loop-count l =
    l.text.items ≡ (l.fn.text.items ++ codes "end") ++ flat_map (λ count. codes " " ++ decimal count) (take l.count-index l.counts.items)
