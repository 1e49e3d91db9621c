use Rattle.std.proofs.Common.{inr, Some}
use Rattle.rsim_top.proofs.Fetching.{long_file, fetch_refusal-long}
use Rattle.rsim_top.proofs.command.fetch.Goals as goal

pub returns-in-Err-TooLarge-clause-fetched : goal.returns-in-Err-TooLarge-clause-fetched
returns-in-Err-TooLarge-clause-fetched g c =
    let fetched = rw c.in-Err-TooLarge.field-0-is at c.in-Err-TooLarge.ensures.fetched in
    let long = long_file (g.S.Shelf.holds c.args.shelf.now) c.args.name.now c.fetch.new.into.items c.args.limit fetched.0 fetched.1 in
    inr (Some long.0, long.1, fetch_refusal-long c.args.which c.args.limit long.0 long.2)
