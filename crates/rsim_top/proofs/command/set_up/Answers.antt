use Rattle.std.proofs.Common.{inr, rules, ◌≡◌, true, false}
use Rattle.machine_config.specs.Allowed.{is_short}
use Rattle.rsim_top.proofs.Setups.{setup_refusal-too_long, setup_refusal-none}
use Rattle.rsim_top.proofs.command.set_up.Goals as goal

pub returns-then-not-fits : goal.returns-then-not-fits
returns-then-not-fits c =
    let long : is_short c.in-Ok.config c.args.cycles ≡ false = search rules in
    inr (setup_refusal-too_long c.args.cycles c.args.text.now c.in-Ok.config c.in-Ok.ensures.reads long)

pub returns : goal.returns
returns c =
    let short : is_short c.in-Ok.config c.args.cycles ≡ true = search rules in
    record {
      read = c.in-Ok.ensures.reads;
      allowed = c.in-Ok.ensures.allowed;
      short = short;
      none = setup_refusal-none c.args.cycles c.args.text.now c.in-Ok.config c.in-Ok.ensures.reads short;
    }
