use Rattle.std.proofs.Common.{Some, sym, ap, ◌∙◌}
use Rattle.std.specs.Option.{option_copied}
use Rattle.std.proofs.lemmas.Option.{same_Some}
use Rattle.miss_registers.proofs.LineMaps.{get-HasLineAt, get-LacksLine}
use Rattle.miss_registers.proofs.line_table.LineTable.get.Goals as goal

pub returns-in_err-key : goal.returns-in_err-key
returns-in_err-key g c = rw (← c.self.view_is, get-LacksLine c.self.inside.entries c.args.line.0 c.self.invariant.apart c.in_err-key.ensures.absent) (ap option_copied c.from_residual.ensures)

pub returns : goal.returns
returns g c =
    let has = c.in_ok-key.ensures.found in
    rw (← c.self.view_is, get-HasLineAt c.self.inside.entries c.args.line.0 c.in_ok-key.key c.self.invariant.apart has) (ap (λ e. Some e.value) (same_Some _ _ (sym c.index.ensures ∙ has.1)))
