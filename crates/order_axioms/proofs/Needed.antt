-- Accesses that have a byte in common.
use Rattle.std.proofs.Common.{◌≡◌, ℕ, ◌+◌, ◌-◌, ◌%◌, ◌^◌, ◌<◌, Bool, true, false, not, ◌&&◌, ◌||◌, nat_lt, IsTrue, ap, refl, arith}
use Rattle.std.proofs.lemmas.Bool.Decides.{nat_tests}
use Rattle.rsim_base.specs.Accesses.{loads, overlap, stores}
use Rattle.rsim_base.specs.Bytes.{count_of, gap_of, starts_in}
use Rattle.rsim_base.specs.declared.memory.Access.{Access}
use Rattle.rsim_base.specs.declared.memory.Model.{Model}
use Rattle.rsim_base.specs.declared.memory.Model.TheVariants.{Sc, Pc, Rc}
use Rattle.rsim_base.specs.declared.memory.Size.{Size}
use Rattle.rsim_base.specs.declared.memory.Size.TheVariants.{B1, B2, B4, B8}
use Rattle.rsim_base.specs.Made.{Made}
use Rattle.order_axioms.specs.Axioms.{fence_between, needs, store_then_load}
use Rattle.order_axioms.specs.Laws.{NeedsAssumed, OverlappingInOrder, at_address_of}

-- needed under processor consistency, and under release consistency, by the tests of each
pc_by : (xl ys fence : Bool) → IsTrue (xl || ys) → IsTrue (not (not xl && not ys) || fence)
pc_by true ys fence h = refl
pc_by false true fence h = refl
pc_by false false fence h = cc

rc_by : (xl ys common fence : Bool) → IsTrue common → IsTrue (xl || ys) → IsTrue ((xl && ys) || (common && not (not xl && not ys)) || fence)
rc_by true true common fence c h = refl
rc_by true false true fence c h = refl
rc_by false true true fence c h = refl
rc_by xl ys false fence c h = cc
rc_by false false true fence c h = cc

pub overlapping_in_order : OverlappingInOrder
overlapping_in_order Sc x y common h = refl
overlapping_in_order Pc x y common h = pc_by (loads x.access.kind) (stores y.access.kind) (nat_lt x.fences.store_load y.fences.store_load) h
overlapping_in_order Rc x y common h = rc_by (loads x.access.kind) (stores y.access.kind) (overlap x.access y.access) (fence_between x y) common h

-- two accesses at one address have its byte in common
gap_none : (a : ℕ) → a < 2 ^ 64 → gap_of a a ≡ 0
gap_none a h = let e : a + (2 ^ 64 - a) ≡ 2 ^ 64 = omega arith in ap (λ n. n % 2 ^ 64) e

some_bytes : (n : Size) (b : Bool) → (nat_lt 0 (count_of n) || b) ≡ true
some_bytes B1 b = refl
some_bytes B2 b = refl
some_bytes B4 b = refl
some_bytes B8 b = refl

same_address : (n m : Size) (a : ℕ) → a < 2 ^ 64 → starts_in a (count_of n) a (count_of m) ≡ true
same_address n m a h = rw (gap_none a h) (some_bytes n _)

rc_more : (l o b f : Bool) → IsTrue (l || (o && b) || f) → IsTrue (l || (true && b) || f)
rc_more true o b f h = refl
rc_more false true b f h = h
rc_more false false true f h = refl
rc_more false false false f h = h

pub needs_assumed : NeedsAssumed
needs_assumed Sc x y low h = refl
needs_assumed Pc x y low h = h
needs_assumed Rc x y low h =
    rw (same_address x.access.size y.access.size y.access.addr.0 low)
    (rc_more (loads x.access.kind && stores y.access.kind) (overlap x.access y.access) (not (store_then_load x.access y.access)) (fence_between x y) h)
