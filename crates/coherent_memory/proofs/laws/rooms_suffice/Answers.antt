-- The laws, each by its lemma.
use Rattle.coherent_memory.proofs.Rooms.{room, serving, shortens, starts, taking}
use Rattle.coherent_memory.proofs.laws.rooms_suffice.Goals as goal

pub returns-clause-start : goal.returns-clause-start
returns-clause-start c = starts

pub returns-clause-taking : goal.returns-clause-taking
returns-clause-taking c = taking

pub returns-clause-serving : goal.returns-clause-serving
returns-clause-serving c = serving

pub returns-clause-room : goal.returns-clause-room
returns-clause-room c = room c.lines_stay_coherent.ensures.one

pub returns-clause-shorter : goal.returns-clause-shorter
returns-clause-shorter c = shortens
