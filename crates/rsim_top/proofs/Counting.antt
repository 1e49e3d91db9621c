-- The steps of all processors together.
use Rattle.std.proofs.Common.{◌≡◌, ◌≤◌, ◌<◌, ◌+◌, ℕ, List, length, drop, IfSome, ap, subst, ◌∙◌, arith}
use Rattle.std.proofs.lemmas.List.Sums.{sum_by-cons}
use Rattle.cycle_loop.specs.Answers.{IsOf, all_retired}
use Rattle.cycle_loop.specs.Machine.{CoreView}
use Rattle.list_facts.specs.Places.{slice_get_below}
use Rattle.rsim_top.proofs.Texts.{drop_next, drop_past}

-- with processor p counted too
pub retired_more : (cores : List CoreView) (p steps retired : ℕ) → p < length cores → IsOf cores p (λ c. c.retired ≡ retired) → steps + all_retired (drop p cores) ≡ all_retired cores →
    steps + retired + all_retired (drop (p + 1) cores) ≡ all_retired cores
retired_more cores p steps retired within of so_far =
    let core = slice_get_below cores p within in
    let is : core.0.retired ≡ retired = subst (λ o. IfSome o (λ (c : CoreView). c.retired ≡ retired)) core.1 of in
    let rest : all_retired (drop p cores) ≡ core.0.retired + all_retired (drop (p + 1) cores) =
    ap all_retired (drop_next cores p core.0 core.1) ∙ sum_by-cons (λ (c : CoreView). c.retired) core.0 (drop (p + 1) cores) in
    omega arith

-- with all counted
pub retired_all : (cores : List CoreView) (p steps : ℕ) → length cores ≤ p → steps + all_retired (drop p cores) ≡ all_retired cores → steps ≡ all_retired cores
retired_all cores p steps past so_far =
    let none : all_retired (drop p cores) ≡ 0 = ap all_retired (drop_past cores p past) in
    omega arith
