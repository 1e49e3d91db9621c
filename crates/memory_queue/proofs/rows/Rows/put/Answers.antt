use Rattle.std.proofs.Common.{◌+◌, ◌%◌, not, refl, ap}
use Rattle.memory_queue.specs.Rows.{is_open, is_settling, is_unknown, is_unplaced, is_waiting}
use Rattle.memory_queue.proofs.Ringed.{row-push, row-set, with-test}
use Rattle.memory_queue.proofs.rows.Rows.put.Goals as goal

pub returns-clause-changed : goal.returns-clause-changed
returns-clause-changed c = λ xs at rows. record {
  stores = row-set is_open c.args.self.now.stores c.with_if-self.result c.args.self.now.head c.args.k c.args.x.now xs c.requires at (with-test _ _ ((c.args.self.now.head + c.args.k) % 128) _ (is_open c.args.x.now) c.is_open.ensures c.with_if-self.ensures) rows.stores;
  unknown = row-set is_unknown c.args.self.now.unknown c.with_if-self-2.result c.args.self.now.head c.args.k c.args.x.now xs c.requires at (with-test _ _ ((c.args.self.now.head + c.args.k) % 128) _ (is_unknown c.args.x.now) (ap not c.lets_loads_pass.ensures) c.with_if-self-2.ensures) rows.unknown;
  waiting = row-set is_waiting c.args.self.now.waiting c.with_if-self-3.result c.args.self.now.head c.args.k c.args.x.now xs c.requires at (with-test _ _ ((c.args.self.now.head + c.args.k) % 128) _ (is_waiting c.args.x.now) c.is_waiting.ensures c.with_if-self-3.ensures) rows.waiting;
  settling = row-set is_settling c.args.self.now.settling c.with_if-self-4.result c.args.self.now.head c.args.k c.args.x.now xs c.requires at (with-test _ _ ((c.args.self.now.head + c.args.k) % 128) _ (is_settling c.args.x.now) c.is_settling.ensures c.with_if-self-4.ensures) rows.settling;
  unplaced = row-set is_unplaced c.args.self.now.unplaced c.with_if-self-5.result c.args.self.now.head c.args.k c.args.x.now xs c.requires at (with-test _ _ ((c.args.self.now.head + c.args.k) % 128) _ (is_unplaced c.args.x.now) refl c.with_if-self-5.ensures) rows.unplaced;
}

pub returns-clause-joined : goal.returns-clause-joined
returns-clause-joined c = λ xs at rows. record {
  stores = row-push is_open c.args.self.now.stores c.with_if-self.result c.args.self.now.head c.args.k c.args.x.now xs c.requires at (with-test _ _ ((c.args.self.now.head + c.args.k) % 128) _ (is_open c.args.x.now) c.is_open.ensures c.with_if-self.ensures) rows.stores;
  unknown = row-push is_unknown c.args.self.now.unknown c.with_if-self-2.result c.args.self.now.head c.args.k c.args.x.now xs c.requires at (with-test _ _ ((c.args.self.now.head + c.args.k) % 128) _ (is_unknown c.args.x.now) (ap not c.lets_loads_pass.ensures) c.with_if-self-2.ensures) rows.unknown;
  waiting = row-push is_waiting c.args.self.now.waiting c.with_if-self-3.result c.args.self.now.head c.args.k c.args.x.now xs c.requires at (with-test _ _ ((c.args.self.now.head + c.args.k) % 128) _ (is_waiting c.args.x.now) c.is_waiting.ensures c.with_if-self-3.ensures) rows.waiting;
  settling = row-push is_settling c.args.self.now.settling c.with_if-self-4.result c.args.self.now.head c.args.k c.args.x.now xs c.requires at (with-test _ _ ((c.args.self.now.head + c.args.k) % 128) _ (is_settling c.args.x.now) c.is_settling.ensures c.with_if-self-4.ensures) rows.settling;
  unplaced = row-push is_unplaced c.args.self.now.unplaced c.with_if-self-5.result c.args.self.now.head c.args.k c.args.x.now xs c.requires at (with-test _ _ ((c.args.self.now.head + c.args.k) % 128) _ (is_unplaced c.args.x.now) refl c.with_if-self-5.ensures) rows.unplaced;
}
