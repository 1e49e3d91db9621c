-- What each step does to the lines, by the laws of the protocol.
use Rattle.coherent_memory.proofs.Awaiting.{grants_awaited}
use Rattle.coherent_memory.proofs.Keeping.{ProtocolLaws}
use Rattle.coherent_memory.proofs.HomeSteps.{home_takes_message, serving_keeps}
use Rattle.coherent_memory.proofs.Moving.{mail_keeps, post_keeps}
use Rattle.coherent_memory.proofs.Staying.{carrying_keeps, nothing_keeps}
use Rattle.coherent_memory.proofs.laws.steps_keep_lines.Goals as goal
use Rattle.coherent_memory.proofs.laws.steps_keep_lines.Goals.{After-lines_stay_coherent}

laws_of : After-lines_stay_coherent → ProtocolLaws
laws_of c = record {
  events = c.lines_stay_coherent.ensures.events;
  order = c.lines_stay_coherent.ensures.order;
  current = c.lines_stay_coherent.ensures.current;
  one = c.lines_stay_coherent.ensures.one;
  awaited = c.lines_stay_coherent.ensures.awaited;
  owned = c.lines_stay_coherent.ensures.owned;
  alone = c.lines_stay_coherent.ensures.alone;
}

pub returns-clause-home : goal.returns-clause-home
returns-clause-home c = home_takes_message (laws_of c)

pub returns-clause-serving : goal.returns-clause-serving
returns-clause-serving c = serving_keeps (laws_of c)

pub returns-clause-post : goal.returns-clause-post
returns-clause-post c = post_keeps (laws_of c)

pub returns-clause-mail : goal.returns-clause-mail
returns-clause-mail c = mail_keeps (laws_of c)

pub returns-clause-carrying : goal.returns-clause-carrying
returns-clause-carrying c = carrying_keeps (laws_of c)

pub returns-clause-nothing : goal.returns-clause-nothing
returns-clause-nothing c = nothing_keeps (laws_of c)

pub returns-clause-awaited : goal.returns-clause-awaited
returns-clause-awaited c = grants_awaited (laws_of c)
