-- Before any turn no line has left.
use Rattle.std.proofs.Common.{◌≡◌, zero, Bool, true, false, ◌&&◌, not, [], refl, arith}
use Rattle.coherent_memory.specs.Lost.{AreGoneBelow, holds}
use Rattle.coherent_memory.specs.Systems.{System}

stays : (b : Bool) → false ≡ (b && not b)
stays true = refl
stays false = refl

pub gone-before : (s : System) → AreGoneBelow zero s s []
gone-before s = record {
  told = record { exactly = λ p l. stays (holds s p l); once = refl };
  others = λ q above. refl;
  few = omega arith;
}
