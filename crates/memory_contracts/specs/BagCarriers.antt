-- A carrier that keeps a list, as its whole state.
use Rattle.memory_contracts.specs.Carrier.{CarrierView}
use Rattle.memory_contracts.specs.Packets.{carrier_of}
use Rattle.memory_contracts.specs.declared.bag.BagCarrier.{BagCarrier}

abbrev pub bag_of : BagCarrier → CarrierView
bag_of s = carrier_of s.mesh s.ticks s.packets.items
