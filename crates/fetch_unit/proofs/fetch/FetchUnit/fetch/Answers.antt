-- The place that follows is sound, since the one that was fetched from is.
use Rattle.std.proofs.Common.{◌≡◌, Some}
use Rattle.fetch_unit.proofs.Spots.{spot_follows}
use Rattle.fetch_unit.proofs.fetch.FetchUnit.fetch.Goals as goal

pub returns-clause-spot : goal.returns-clause-spot
returns-clause-spot c =
    let e : c.args.self.now ≡ Some c.in_ok-spot.spot = cc in
    rw (c.behind-self-inside.ensures, c.fetched_at-fetched.ensures.entry)
    (spot_follows c.args.image.now c.in_ok-spot.spot c.args.predictor.now (c.requires.spot c.in_ok-spot.spot e))
