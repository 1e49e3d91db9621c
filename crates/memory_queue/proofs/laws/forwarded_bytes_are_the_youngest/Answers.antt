use Rattle.memory_queue.proofs.Seen.{forward-seen, gives-where-it-covers, unmet-unwritten}
use Rattle.memory_queue.proofs.laws.forwarded_bytes_are_the_youngest.Goals as goal

pub returns-clause-covered : goal.returns-clause-covered
returns-clause-covered c = gives-where-it-covers

pub returns-clause-seen : goal.returns-clause-seen
returns-clause-seen c = forward-seen c.parts_have_the_bytes.ensures

pub returns-clause-unwritten : goal.returns-clause-unwritten
returns-clause-unwritten c = unmet-unwritten
