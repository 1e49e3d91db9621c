use Rattle.std.proofs.Common.{◌≡◌, Bool, false, true, not, List, [], ◌∷◌, ◌||◌, slice_get, sym, ap, ◌∙◌, rules}
use Rattle.std.specs.List.{list_any}
use Rattle.std.specs.Option.{option_map_or}
use Rattle.std.proofs.lemmas.Iterator.Adapters.{YieldsList-from_rev_slice}
use Rattle.std.proofs.lemmas.Iterator.Search.{any_from_yields_List}
use borrow.Author.Tests.{tests}
use Rattle.list_facts.specs.Tests.{any-reverse}
use Rattle.store_buffer.specs.Buffers.{is_needed}
use Rattle.store_buffer.specs.declared.buffer.Waiting.{Waiting}
use Rattle.store_buffer.proofs.buffer.is_free.Goals as goal

-- the first passes, so one does
any-first : (p : Waiting → Bool) (xs : List Waiting) → option_map_or p (slice_get xs 0) false ≡ true → list_any p xs ≡ true
any-first p [] first = absurd cc
any-first p (x ∷ xs) first = ap (λ b. b || list_any p xs) first

pub returns-then-is_oldest_needed : goal.returns-then-is_oldest_needed
returns-then-is_oldest_needed c =
    let test = λ (x : Waiting). is_needed c.args.m x c.args.y.now in
    sym (ap not (any-first test c.args.earlier.now (sym c.is_oldest_needed.ensures ∙ c.if-is_oldest_needed.true)))

pub returns : goal.returns
returns c =
    let test = λ (x : Waiting). is_needed c.args.m x c.args.y.now in
    ap not
    (any_from_yields_List test _ _ _ c.any.ensures.ran (YieldsList-from_rev_slice c.args.earlier.now cc) (λ x b q k. search (rules, tests))
    ∙ any-reverse test c.args.earlier.now)
