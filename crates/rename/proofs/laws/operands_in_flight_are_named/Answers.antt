-- The laws are lemmas on the definitions.
use Rattle.rename.proofs.ReadingInFlight.{cut_is_named, free_have_no_reader, join_is_named, operands_name_earlier, retired_is_named}
use Rattle.rename.proofs.laws.operands_in_flight_are_named.Goals as goal

pub returns : goal.returns
returns c = record {
  join = join_is_named;
  earlier = operands_name_earlier;
  cut = cut_is_named;
  retired = retired_is_named;
  free = free_have_no_reader;
}
