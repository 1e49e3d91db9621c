-- The accesses of a run are aligned.
use Rattle.std.proofs.Common.{◌≡◌, ◌%◌, ℕ, zero, suc, [], ◌∷◌, List, length, None, Some, slice_get, Ok, sym, ap, subst, ⊎_elim, ◌∙◌}
use Rattle.rsim_base.specs.Bytes.{count_of}
use Rattle.rsim_base.specs.Made.{Made}
use Rattle.rsim_base.specs.declared.memory.Access.{Access}
use Rattle.elf64_load.specs.Image.{ImageView}
use Rattle.sparc_meaning.specs.Acts.{IsAligned}
use Rattle.sparc_meaning.specs.Run.{Ran, accesses_of, made_after}
use Rattle.sparc_meaning.specs.StepReads.{step_aligned, step_found}
use Rattle.sparc_meaning.specs.declared.acts.Act.{Act}
use Rattle.sparc_meaning.specs.declared.acts.Act.TheVariants.{Nothing, Load, Store, Atomic, Fence, Out, End as Ended}
use Rattle.order_checker.specs.Faults.{replayed, loaded_of}
use Rattle.list_facts.specs.Places.{slice_get_more}
use Rattle.list_facts.specs.Options.{Ok-injective}
use Rattle.order_checker.proofs.MadeLines.{act_cases}
use Rattle.order_checker.proofs.Replays.{IsNext, line_at, stepped_on, replayed_less, after_none, after_one}

abbrev pub IsAlignedAccess : Access → Type 0
IsAlignedAccess x = x.addr.0 % count_of x.size ≡ 0

head_is : (x y : Access) → x ∷ [] ≡ y ∷ [] → x ≡ y
head_is x y e = cc

act_aligned : (p i : ℕ) (act : Act) (x : Access) → IsAligned act → accesses_of p i act ≡ x ∷ [] → IsAlignedAccess x
act_aligned p i (Load addr size loaded) x is e = subst IsAlignedAccess (head_is _ x e) is
act_aligned p i (Store addr size stored) x is e = subst IsAlignedAccess (head_is _ x e) is
act_aligned p i (Atomic addr size loaded stored) x is e = subst IsAlignedAccess (head_is _ x e) is
act_aligned p i Nothing x is e = absurd cc
act_aligned p i (Fence mask) x is e = absurd cc
act_aligned p i (Out spoken) x is e = absurd cc
act_aligned p i Ended x is e = absurd cc

pub replayed_aligned : (image : ImageView) (n : ℕ) (lines : List Access) (p k : ℕ) (ran : Ran) → replayed image n lines p k ≡ Ok ran → (i : ℕ) (m : Made) → slice_get ran.accesses i ≡ Some m → IsAlignedAccess m.access
replayed_aligned image n lines p zero ran is i m at = absurd (nothing (ap (λ (r : Ran). slice_get r.accesses i) (Ok-injective is) ∙ at))
  where
    nothing : None ≡ Some m → ⊥
    nothing e = absurd cc
replayed_aligned image n lines p (suc k) ran is i m at = by_old (λ old was at_old. replayed_aligned image n lines p k old was i m at_old) (replayed_less image n lines p k ran is)
  where
    by_old : ((old : Ran) → replayed image n lines p k ≡ Ok old → slice_get old.accesses i ≡ Some m → IsAlignedAccess m.access) → (old : Ran) × (replayed image n lines p k ≡ Ok old) × IsNext image lines p old ran → IsAlignedAccess m.access
    by_old earlier (old, was, next) =
        let v = loaded_of (line_at lines p (length old.accesses)) in
        let s = stepped_on image lines p old in
        ⊎_elim
        (λ (none, quiet). earlier old was (ap (λ xs. slice_get xs i) (sym (after_none p old ran s next.is none)) ∙ at))
        (λ (x, made). ⊎_elim (earlier old was) (λ (here, is_m). subst (λ (n : Made). IsAlignedAccess n.access) (sym is_m) (act_aligned p (length old.accesses) s.act x (step_aligned image old.state v) made.list))
        (slice_get_more old.accesses (made_after old.fences x) i m (ap (λ xs. slice_get xs i) (sym (after_one p old ran s x next.is made.list)) ∙ at)))
        (act_cases p (length old.accesses) v s.act (step_found image old.state v))
