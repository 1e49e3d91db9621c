-- What stands before the first cycle.
use Rattle.std.proofs.Common.{◌≡◌, ℕ, true, List, [], length, Some, slice_get, refl, sym, subst, arith}
use Rattle.std.proofs.lemmas.List.Elements.{All-nil}
use Rattle.rsim_base.specs.Made.{no_fences}
use Rattle.rsim_base.specs.declared.memory.Model.{Model}
use Rattle.elf64_load.specs.Image.{ImageView}
use Rattle.order_log.specs.Log.{Place}
use Rattle.sparc_meaning.specs.Arch.{boot}
use Rattle.cycle_loop.specs.Machine.{CoreView, MachineView}
use Rattle.cycle_loop.specs.Stands.{IsRunOf, Stands}
use Rattle.cycle_loop.specs.Start.{IsAtStart, booted}

-- nothing stands in an empty list
nothing : {A : Type 0} (j : ℕ) (x : A) → slice_get [] j ≡ Some x → ⊥
nothing j x at = absurd cc

first_run : (image : ImageView) (model : Model) (n p : ℕ) (c : CoreView) → c ≡ booted image n p → IsRunOf image model n [] p c
first_run image model n p c first = subst (IsRunOf image model n [] p) (sym first) (record {
  ran = record { state = boot image p n; accesses = []; fences = no_fences; output = [] };
  has_run = refl;
  numbered = λ i m at. absurd (nothing i m at);
  state = refl;
  output = refl;
  count = refl;
  sound = record { current = omega arith; others = refl; phase = tt };
  made = λ j e at own. absurd (nothing j e at);
  all = λ i m at. absurd (nothing i m at);
  once = λ j k e f at_j at_k own_e own_f same. absurd (nothing j e at_j);
  ordered = λ k f i x y at own earlier at_x at_y needed. absurd (nothing k f at);
  none_waits = refl;
})

pub Stands-start : (image : ImageView) (model : Model) (m : MachineView) → IsAtStart image m → Stands image model [] m
Stands-start image model m start =
    subst (λ (log : List Place). Stands image model [] (record m { log = log })) (sym start.log) (record {
      runs = λ p c at. first_run image model (length m.cores) p c (start.cores p c at);
      nodes = λ j e at. absurd (nothing j e at);
      retired = All-nil (λ (x : Place). x.retired ≡ true);
      told = λ j e at. absurd (nothing j e at);
      few = omega arith;
      explains = λ at load stands. absurd (nothing at load stands);
      memory = start.memory;
      bytes = start.bytes;
    })
