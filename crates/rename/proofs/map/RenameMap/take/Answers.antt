-- The front of the free registers is taken.
use Rattle.std.proofs.Common.{rules}
use Rattle.rename.proofs.Insides.{take_of_front}
use Rattle.rename.proofs.map.RenameMap.take.Goals as goal

pub returns-clause-after : goal.returns-clause-after
returns-clause-after c =
    rw (c.from.ensures, c.from-2.ensures, c.from-3.ensures, c.pop_front.ensures.items)
    (take_of_front c.args.r c.in_ok-new.new c.self.inside.current c.self.inside.free.items c.self.inside.values.items c.args.self.now c.self.view_is (search rules) (cc (c.in_ok-new.ensures.ok_part)))
