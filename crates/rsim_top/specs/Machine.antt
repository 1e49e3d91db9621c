-- What is written of a machine that has run: its order, and its report.
use Rattle.std.specs.Prelude.{ℕ, List, length, map}
use Rattle.rsim_base.specs.declared.memory.Access.{Access}
use Rattle.rsim_base.specs.declared.memory.Model.{Model}
use Rattle.sparc_meaning.specs.declared.arch.End.{End}
use Rattle.memory_contracts.specs.BagCarriers.{bag_of}
use Rattle.memory_contracts.specs.declared.bag.BagCarrier.{BagCarrier}
use Rattle.coherent_memory.specs.Memories.{store_in}
use Rattle.coherent_memory.specs.declared.memory.CoherentMemory.{CoherentMemory}
use Rattle.order_certificate.specs.Certificate.{CertificateView, text_of}
use Rattle.cycle_loop.specs.Answers.{waiting_stores}
use Rattle.cycle_loop.specs.Machine.{MachineView}
use Rattle.cycle_loop.specs.MachineOf.{view_of}
use Rattle.cycle_loop.specs.declared.machine.Machine.{Machine}
use Rattle.rsim_top.specs.ReportText.{no_counts, report}

-- a machine over caches and directories, whose messages are kept in a list
abbrev pub shared_view : {c b : _} → Machine (CoherentMemory BagCarrier c) b → MachineView
shared_view {c} m = view_of (λ (s : CoherentMemory BagCarrier c). store_in bag_of s) m

-- by processor: the retired steps, how it stands, and what it has put
abbrev pub counts_of : MachineView → List ℕ
counts_of v = map (λ c. c.retired) v.cores

abbrev pub ends_of : MachineView → List End
ends_of v = map (λ c. c.arch.end) v.cores

abbrev pub outputs_of : MachineView → List (List ℕ)
outputs_of v = map (λ c. c.output) v.cores

-- the accesses of all, in their order
abbrev pub accesses_of : MachineView → List Access
accesses_of v = map (λ x. x.access) v.log

abbrev pub certificate_of : Model → MachineView → CertificateView
certificate_of model v = record { model = model; processors = length v.cores; lines = accesses_of v; counts = counts_of v }

-- the text of its order under a model
unfoldable pub order_of : Model → MachineView → List ℕ
order_of model v = text_of (certificate_of model v)

-- the text of its report: nothing is counted yet
unfoldable pub report_of : MachineView → List ℕ
report_of v = report v.cycles (counts_of v) (ends_of v) (outputs_of v) (waiting_stores v.cores) no_counts
