use Rattle.issue_queue.proofs.Firsts.{first_from_oldest, none_from_oldest}
use Rattle.issue_queue.proofs.words.first_age.Goals as goal

pub returns-then-age-lt-PLACES : goal.returns-then-age-lt-PLACES
returns-then-age-lt-PLACES c = first_from_oldest c.args.set c.args.low _ _ c.place_of.ensures.value c.oldest-age.ensures c.if-age-lt-PLACES.true

pub returns-else-age-lt-PLACES : goal.returns-else-age-lt-PLACES
returns-else-age-lt-PLACES c = none_from_oldest c.args.set c.args.low _ _ c.place_of.ensures.value c.oldest-age.ensures c.if-age-lt-PLACES.false
