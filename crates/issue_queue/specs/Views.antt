-- The fields of a queue as a caller sees them.
use Rattle.std.specs.Prelude.{◌<◌}
use Rattle.issue_queue.specs.Queues.{QueueView}
use Rattle.issue_queue.specs.declared.queue.IssueQueue.TheInside.{Inside}

abbrev pub view_of : Inside → QueueView
view_of q = record {
  entries = q.table.entries;
  size = q.size;
  now = q.table.tick;
  alu_left = q.alu_left;
  mul_left = q.mul_left;
  dividers = q.dividers.items;
  settings = record {
    alu_units = q.alu_units;
    alu_latency = q.ticks.alu;
    mul_units = q.mul_units;
    mul_latency = q.ticks.mul;
    div_latency = q.ticks.div;
  };
  registers = q.table.registers;
}

-- no unit takes none
pub record TakeTicks (q : Inside) : Type 0 where
  pub alu : 0 < q.ticks.alu
  pub mul : 0 < q.ticks.mul
  pub div : 0 < q.ticks.div
