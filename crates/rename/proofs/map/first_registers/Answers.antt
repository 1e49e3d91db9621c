-- Each register is what the closure gives at its place.
use Rattle.std.proofs.Common.{rules}
use Rattle.std.proofs.lemmas.List.FromFn.{fill_by_all}
use Rattle.rsim_base.specs.Limits.{arch_registers}
use Rattle.rename.proofs.map.first_registers.Goals as goal

pub returns : goal.returns
returns c = fill_by_all (λ k. record { 0 = k }) c.from_fn.result arch_registers (record { 0 = 0 }) c.from_fn.ensures.items.long (λ k low. let called = c.from_fn.ensures.items.at k (record { 0 = 0 }) low in search (rules, called))
