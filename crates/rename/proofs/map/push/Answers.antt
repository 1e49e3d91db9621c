-- Where there is a place nothing is given up.
use Rattle.rename.proofs.Insides.{keep_last_all}
use Rattle.rename.proofs.map.push.Goals as goal

pub returns : goal.returns
returns c = rw (← keep_last_all c.args.free.now.capacity c.args.free.now.items c.args.r c.requires) c.push_back.ensures.items
