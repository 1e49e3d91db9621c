-- Lines of accesses that were not made, one after another.
use Rattle.std.proofs.Common.{◌≡◌, ◌⊎◌, ◌+◌, ◌<◌, ℕ, List, get_or, length, None, Some, Err, sym, ap, subst, inl, inr, ◌∙◌, add-one}
use Rattle.std.proofs.lemmas.Option.{slice_get-get_or}
use Rattle.rsim_base.specs.declared.memory.Access.{Access}
use Rattle.elf64_load.specs.Image.{ImageView}
use Rattle.order_axioms.specs.declared.counting.Fences.{Fences}
use Rattle.order_checker.specs.declared.verdict.Rejected.{Rejected}
use Rattle.order_checker.specs.declared.verdict.Rejected.TheVariants.{Memory}
use Rattle.order_checker.specs.Faults.{unmade, unmade_of, replayed, run_fault_of}
use Rattle.order_checker.specs.Firsts.{first}
use Rattle.order_checker.specs.Outcomes.{IsFault}
use Rattle.order_checker.specs.Programs.{IsReplayed}
use Rattle.order_checker.proofs.FirstOnes.{first_found, first_none-more}

pub unmade_found : (lines : List Access) (p count j : ℕ) (d : Access) (r : Rejected) → j < length lines → first (unmade lines p count) j ≡ None → Some r ≡ unmade_of p count j (Some (get_or lines j d)) →
    Some r ≡ first (unmade lines p count) (length lines)
unmade_found lines p count j d r below none is = sym (first_found (unmade lines p count) j (length lines) r none (ap (unmade_of p count j) (slice_get-get_or lines j d below) ∙ sym is) below)

pub unmade_more : (lines : List Access) (p count j : ℕ) (d : Access) → j < length lines → first (unmade lines p count) j ≡ None → None ≡ unmade_of p count j (Some (get_or lines j d)) →
    first (unmade lines p count) (j + 1) ≡ None
unmade_more lines p count j d below none is =
    subst (λ k. first (unmade lines p count) k ≡ None) (sym (add-one j)) (first_none-more (unmade lines p count) j none (ap (unmade_of p count j) (slice_get-get_or lines j d below) ∙ sym is))

-- ---- a run's fault

pub run_fault_step : (lines : List Access) (p : ℕ) (image : ImageView) (n k : ℕ) (r : Rejected) → (r ≡ Memory) ⊎ (replayed image n lines p k ≡ Err r) → IsFault (run_fault_of lines p (replayed image n lines p k)) r
run_fault_step lines p image n k r (inl out) = inl out
run_fault_step lines p image n k r (inr is) = inr (ap (run_fault_of lines p) is)

-- where the steps have none, it is of the first line whose access was not made
pub run_fault_lines : (image : ImageView) (n : ℕ) (lines : List Access) (p k count : ℕ) (places : List ℕ) (fences : List Fences) → IsReplayed image n lines p k places fences → length places ≡ count →
    run_fault_of lines p (replayed image n lines p k) ≡ first (unmade lines p count) (length lines)
run_fault_lines image n lines p k count places fences is same =
    ap (run_fault_of lines p) is.is ∙ ap (λ m. first (unmade lines p m) (length lines)) (sym is.made.count ∙ same)
