use Rattle.memory_queue.proofs.Binding.{ungiven-meets-none}
use Rattle.memory_queue.proofs.laws.loads_bind_to_what_they_meet.Goals as goal

pub returns : goal.returns
returns c = ungiven-meets-none
