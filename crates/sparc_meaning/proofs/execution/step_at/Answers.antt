use Rattle.std.proofs.Common.{sym, subst}
use Rattle.sparc_meaning.specs.Acts.{IsAligned, HasFound, IsSized}
use Rattle.sparc_meaning.specs.Arch.{IsSound}
use Rattle.sparc_meaning.proofs.Sound.{step_sound}
use Rattle.sparc_meaning.specs.StepReads.{step_aligned, step_found, step_sized}
use Rattle.sparc_meaning.proofs.execution.step_at.Goals as goal

pub returns-clause-sound : goal.returns-clause-sound
returns-clause-sound c = subst (λ x. IsSound x.state) (sym c.step_in_phase.ensures) (step_sound c.args.image.now c.args.arch.now c.args.value c.requires.sound)

pub returns-clause-aligned : goal.returns-clause-aligned
returns-clause-aligned c = subst (λ x. IsAligned x.act) (sym c.step_in_phase.ensures) (step_aligned c.args.image.now c.args.arch.now c.args.value)

pub returns-clause-found : goal.returns-clause-found
returns-clause-found c = subst (λ x. HasFound c.args.value x.act) (sym c.step_in_phase.ensures) (step_found c.args.image.now c.args.arch.now c.args.value)

pub returns-clause-sized : goal.returns-clause-sized
returns-clause-sized c = subst (λ x. IsSized x.act) (sym c.step_in_phase.ensures) (step_sized c.args.image.now c.args.arch.now c.args.value)
