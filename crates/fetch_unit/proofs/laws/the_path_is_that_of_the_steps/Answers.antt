-- The laws follow from those of the steps.
use Rattle.fetch_unit.proofs.Standing.{begun_stays, boot_spot, fetched_is_next, follow_is_after, redirects_are_spots, states_have_spots}
use Rattle.fetch_unit.proofs.laws.the_path_is_that_of_the_steps.Goals as goal

pub returns : goal.returns
returns c = record {
  next = fetched_is_next c.instructions_tell_ahead.ensures.windows;
  follow = follow_is_after c.instructions_tell_ahead.ensures.windows c.steps_are_computed.ensures.step c.steps_lead_on.ensures.leads;
  boot = boot_spot;
  begun = begun_stays c.instructions_tell_ahead.ensures.windows c.steps_are_computed.ensures.step;
  states = states_have_spots c.instructions_tell_ahead.ensures.windows;
  redirects = redirects_are_spots;
}
