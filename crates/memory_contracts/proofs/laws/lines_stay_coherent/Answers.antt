-- The laws, each by its lemma.
use Rattle.memory_contracts.proofs.Protocol.Alike.{order_free}
use Rattle.memory_contracts.proofs.Protocol.Awaited.{leaving_awaits, register_awaits}
use Rattle.memory_contracts.proofs.Protocol.Known.{current_is, content_stands, shared_is, owned_is, owned_alone, owned_noted, one_from_home, grants_awaited}
use Rattle.memory_contracts.proofs.Protocol.Runs.{event_keeps, lines_stay}
use Rattle.memory_contracts.proofs.Protocol.Walked.{walks-mesi, walks-msi}
use Rattle.memory_contracts.proofs.laws.lines_stay_coherent.Goals as goal

pub returns-clause-lists : goal.returns-clause-lists
returns-clause-lists c = lines_stay

pub returns-clause-events : goal.returns-clause-events
returns-clause-events c = event_keeps

pub returns-clause-current : goal.returns-clause-current
returns-clause-current c = current_is

pub returns-clause-shared : goal.returns-clause-shared
returns-clause-shared c = shared_is

pub returns-clause-owned : goal.returns-clause-owned
returns-clause-owned c = owned_is

pub returns-clause-alone : goal.returns-clause-alone
returns-clause-alone c = owned_alone

pub returns-clause-one : goal.returns-clause-one
returns-clause-one c = one_from_home

pub returns-clause-awaited : goal.returns-clause-awaited
returns-clause-awaited c = grants_awaited

pub returns-clause-stands : goal.returns-clause-stands
returns-clause-stands c = content_stands

pub returns-clause-order : goal.returns-clause-order
returns-clause-order c = order_free

pub returns-clause-noted : goal.returns-clause-noted
returns-clause-noted c = owned_noted

pub returns-clause-register : goal.returns-clause-register
returns-clause-register c = register_awaits

pub returns-clause-leaving : goal.returns-clause-leaving
returns-clause-leaving c = leaving_awaits

pub returns-clause-walk_msi : goal.returns-clause-walk_msi
returns-clause-walk_msi c = walks-msi

pub returns-clause-walk_mesi : goal.returns-clause-walk_mesi
returns-clause-walk_mesi c = walks-mesi
