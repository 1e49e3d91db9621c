-- The laws are lemmas on the definitions.
use Rattle.rename.proofs.Holders.{all_released_is_renaming, first_hold_values, given_once, holders_are_not_free, holders_keep_values, named_along}
use Rattle.rename.proofs.laws.holders_keep_their_values.Goals as goal

pub returns : goal.returns
returns c = record {
  along = named_along;
  busy = holders_are_not_free;
  values = holders_keep_values;
  once = given_once;
  released = all_released_is_renaming;
  first = first_hold_values;
}
