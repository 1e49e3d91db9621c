use Rattle.memory_queue.specs.Rows.{is_open, is_settling, is_unknown, is_unplaced, is_waiting}
use Rattle.memory_queue.proofs.Ringed.{row-cut}
use Rattle.memory_queue.proofs.rows.Rows.cut.Goals as goal

pub returns : goal.returns
returns c = λ xs rows. record {
  stores = row-cut is_open c.args.self.now.stores c.and-self.result c.args.self.now.head c.run-left.result c.args.n xs c.and-self.ensures c.run-left.ensures rows.stores;
  unknown = row-cut is_unknown c.args.self.now.unknown c.and-self-2.result c.args.self.now.head c.run-left.result c.args.n xs c.and-self-2.ensures c.run-left.ensures rows.unknown;
  waiting = row-cut is_waiting c.args.self.now.waiting c.and-self-3.result c.args.self.now.head c.run-left.result c.args.n xs c.and-self-3.ensures c.run-left.ensures rows.waiting;
  settling = row-cut is_settling c.args.self.now.settling c.and-self-4.result c.args.self.now.head c.run-left.result c.args.n xs c.and-self-4.ensures c.run-left.ensures rows.settling;
  unplaced = row-cut is_unplaced c.args.self.now.unplaced c.and-self-5.result c.args.self.now.head c.run-left.result c.args.n xs c.and-self-5.ensures c.run-left.ensures rows.unplaced;
}
