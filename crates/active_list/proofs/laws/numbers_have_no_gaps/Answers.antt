-- The laws are lemmas on the definitions.
use Rattle.active_list.proofs.Numbers.{change_keeps_numbers, numbered_are_rising, pops_keep_numbers, push_keeps_numbers, retire_keeps_numbers}
use Rattle.active_list.proofs.laws.numbers_have_no_gaps.Goals as goal

pub returns : goal.returns
returns c = record {
  rising = numbered_are_rising;
  push = push_keeps_numbers;
  retire = retire_keeps_numbers;
  pops = pops_keep_numbers;
  change = change_keeps_numbers;
}
