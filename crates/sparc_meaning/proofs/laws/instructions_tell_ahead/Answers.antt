use Rattle.sparc_meaning.proofs.Telling.{addresses_alone, effects_ask}
use Rattle.sparc_meaning.proofs.laws.instructions_tell_ahead.Goals as goal

pub returns-clause-addresses : goal.returns-clause-addresses
returns-clause-addresses c = addresses_alone

pub returns-clause-windows : goal.returns-clause-windows
returns-clause-windows c = effects_ask
