use Rattle.std.proofs.Common.{◌≡◌, ℕ, Result, Ok, Err, IfOk, MatchResult, is_ok, replicate, subst, sym, Vec, Global}
use Rattle.std.specs.declared.alloc.AllocError.{AllocError}
use Rattle.cache_levels.specs.declared.levels.LineCopy.{LineCopy}
use Rattle.cache_levels.specs.Levels.{no_copy}
use Rattle.cache_levels.proofs.levels.no_copies.Goals as goal

-- what holds of a value holds of it behind another error too
same_value : {T E F : Type 0} (P : T → Type 0) (r : Result T E) (s : Result T F) (Q : E → Type 0) → IfOk r P → MatchResult r (λ x. s ≡ Ok x) Q → is_ok s ≡ is_ok r → IfOk s P
same_value {T = T} {F = F} P (Ok x) s Q holds same kind = let Holds : Result T F → Type 0 = λ t. IfOk t P in subst Holds (sym same) holds
same_value P (Err e) (Ok y) Q holds same kind = absurd cc
same_value P (Err e) (Err f) Q holds same kind = tt

if_clones : (r : Result (Vec LineCopy Global) AllocError) (n : ℕ) → IfOk r (λ v. ((y : LineCopy) → y ≡ no_copy → y ≡ no_copy) → v.items ≡ replicate n no_copy) → IfOk r (λ v. v.items ≡ replicate n no_copy)
if_clones (Ok v) n h = h (λ y e. e)
if_clones (Err e) n h = tt

pub returns : goal.returns
returns c =
    same_value (λ v. v.items ≡ replicate c.args.slots no_copy) c.vec.result c.map_err.result _ (if_clones c.vec.result c.args.slots c.vec.ensures.items_if_clones_equal) c.map_err.ensures.cases c.map_err.ensures.variant
