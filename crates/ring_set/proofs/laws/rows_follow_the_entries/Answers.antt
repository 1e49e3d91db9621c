-- The laws are lemmas on the definitions.
use Rattle.ring_set.proofs.Entries.{row_and, row_cut, row_first, row_none, row_pop, row_push, row_set}
use Rattle.ring_set.proofs.laws.rows_follow_the_entries.Goals as goal

pub returns : goal.returns
returns c = record {
  none = row_none;
  first = row_first;
  cut = row_cut;
  push = row_push;
  pop = row_pop;
  set = row_set;
  both = row_and;
}
