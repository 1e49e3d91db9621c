use Rattle.std.proofs.Common.{◌≡◌, ℕ, zero, suc, false, replicate, get_or, refl}
use Rattle.rsim_base.specs.Limits.{max_processors}
use Rattle.directory.proofs.node_set.NodeSet.empty.Goals as goal

nowhere : (n x : ℕ) → get_or (replicate n false) x false ≡ false
nowhere zero x = refl
nowhere (suc n) zero = refl
nowhere (suc n) (suc x) = nowhere n x

pub returns : goal.returns
returns c = λ i x. nowhere max_processors x i
