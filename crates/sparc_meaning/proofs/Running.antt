-- A step while no spill or fill is going on.
use Rattle.std.proofs.Common.{◌≡◌, ℕ, Option, Some, ap, ◌∙◌}
use Rattle.elf64_load.specs.Image.{ImageView, fetched}
use Rattle.sparc_decode.specs.Instr.{instr}
use Rattle.sparc_meaning.specs.declared.arch.Arch.{Arch}
use Rattle.sparc_meaning.specs.declared.arch.ArchPhase.{ArchPhase}
use Rattle.sparc_meaning.specs.declared.arch.ArchPhase.TheVariants.{Run}
use Rattle.sparc_meaning.specs.Step.{step, in_phase, of_instr, instr_of}

-- in phase Run a step is one of the instruction that the word at pc stands for
pub step_runs : (image : ImageView) (word : ℕ) (s : Arch) (value : ℕ) → s.phase ≡ Run → fetched image s.pc ≡ Some word → step image s value ≡ of_instr (instr word) image s value
unfolding step
step_runs image word s value runs stands =
    ap (λ (p : ArchPhase). in_phase p image s value) runs ∙ ap (λ (w : Option ℕ). of_instr (instr_of w) image s value) stands
