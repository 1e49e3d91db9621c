-- The laws are lemmas on the definitions.
use Rattle.rename.proofs.InFlight.{first_is_renaming, numbers_are_within, operands_name_writers, registers_are_apart, released_is_renaming, room_for_each, taken_is_renaming, undone_is_renaming}
use Rattle.rename.proofs.laws.operands_name_their_writers.Goals as goal

pub returns : goal.returns
returns c = record {
  first = first_is_renaming;
  taken = taken_is_renaming;
  released = released_is_renaming;
  undone = undone_is_renaming;
  reading = operands_name_writers;
  apart = registers_are_apart;
  room = room_for_each;
  numbers = numbers_are_within;
}
