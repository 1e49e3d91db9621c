use Rattle.memory_queue.specs.Rows.{is_open, is_settling, is_unknown, is_unplaced, is_waiting}
use Rattle.memory_queue.proofs.Ringed.{row-pop}
use Rattle.memory_queue.proofs.rows.Rows.pop.Goals as goal

pub returns : goal.returns
returns c = λ xs small rows. record {
  stores = row-pop is_open c.args.self.now.stores c.without-self.result c.args.self.now.head xs c.args.self.now.in_range small c.without-self.ensures.has rows.stores;
  unknown = row-pop is_unknown c.args.self.now.unknown c.without-self-2.result c.args.self.now.head xs c.args.self.now.in_range small c.without-self-2.ensures.has rows.unknown;
  waiting = row-pop is_waiting c.args.self.now.waiting c.without-self-3.result c.args.self.now.head xs c.args.self.now.in_range small c.without-self-3.ensures.has rows.waiting;
  settling = row-pop is_settling c.args.self.now.settling c.without-self-4.result c.args.self.now.head xs c.args.self.now.in_range small c.without-self-4.ensures.has rows.settling;
  unplaced = row-pop is_unplaced c.args.self.now.unplaced c.without-self-5.result c.args.self.now.head xs c.args.self.now.in_range small c.without-self-5.ensures.has rows.unplaced;
}
