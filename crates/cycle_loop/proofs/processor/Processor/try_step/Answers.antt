use Rattle.std.proofs.Common.{ap, ◌∙◌}
use Rattle.memory_contracts.specs.Store.{StoreView}
use Rattle.sparc_meaning.specs.Stepped.{Stepped}
use Rattle.cycle_loop.proofs.Parting.{HaveNumbers-more, step_mapped}
use Rattle.cycle_loop.proofs.processor.Processor.try_step.Goals as goal

pub lacks_stored-requires-clause-mapped : goal.lacks_stored-requires-clause-mapped
lacks_stored-requires-clause-mapped g c =
    step_mapped c.args.image.now (g.M.CoherentStore.meaning c.args.store.now) c.args.self.now.arch c.args.value c.step_at-act.result c.requires.may.mapped (ap (λ (s : Stepped). s.act) c.step_at-act.ensures.step)

pub perform-requires-clause-mapped : goal.perform-requires-clause-mapped
perform-requires-clause-mapped g c =
    step_mapped c.args.image.now (g.M.CoherentStore.meaning c.lacks_stored.new.store) c.args.self.now.arch c.args.value c.step_at-act.result
    (ap (λ (v : StoreView). v.mapped) c.lacks_stored.ensures.store ∙ c.requires.may.mapped) (ap (λ (s : Stepped). s.act) c.step_at-act.ensures.step)

pub returns-clause-numbers : goal.returns-clause-numbers
returns-clause-numbers g c =
    HaveNumbers-more c.args.p.0 c.args.self.now.accesses c.step_at-act.result c.args.log.now.places c.retire.new.log.places c.retire.ensures.numbers c.retire.ensures.log
