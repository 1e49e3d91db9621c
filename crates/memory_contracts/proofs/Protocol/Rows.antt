-- Rows of the tables, as they compute: of three nodes, the line has the bytes 7, 8 in memory.
use Rattle.std.proofs.Common.{◌≡◌, ℕ, Bool, true, false, ◌||◌, ◌==◌, List, [], ◌∷◌, Option, None, Some, refl}
use Rattle.machine_config.specs.declared.config.Protocol.TheVariants.{Msi, Mesi}
use Rattle.memory_contracts.specs.Protocol.Messages.{Message, GetS, GetM, Put, Inv, Recall, Grant, PutAck, InvAck, RecallAck, Done}
use Rattle.memory_contracts.specs.Protocol.Lines.{Phase, Idle, Collecting, Recalling, Granting, HomeRecord, Absent, Shared, Owned, Evicting, Emptied, nobody, besides}
use Rattle.memory_contracts.specs.Protocol.HomeTable.{HomeStep, home_takes}
use Rattle.memory_contracts.specs.Protocol.NodeTable.{node_takes, takes}

abbrev bytes : List ℕ
bytes = 7 ∷ 8 ∷ []

-- nodes 0 and 1
abbrev two : ℕ → Bool
two x = (x == 0) || (x == 1)

abbrev home : Phase → Option ℕ → (ℕ → Bool) → HomeRecord
home phase owner sharers = record { phase = phase; owner = owner; sharers = sharers; memory = bytes }

-- what a step leaves at the home and sends to the nodes 0, 1 and 2
abbrev seen : HomeStep → Phase × Option ℕ × List Message × List Message × List Message
seen step = (step.after.phase, step.after.owner, step.sent 0, step.sent 1, step.sent 2)

-- the first reader gets the line to own it under mesi, and to read it under msi
first_reader : seen (home_takes Mesi 3 2 GetS (home Idle None nobody)) ≡ (Granting 2, Some 2, [], [], Grant true bytes ∷ [])
first_reader = refl

first_reader_msi : seen (home_takes Msi 3 2 GetS (home Idle None nobody)) ≡ (Granting 2, None, [], [], Grant false bytes ∷ [])
first_reader_msi = refl

next_reader : seen (home_takes Mesi 3 2 GetS (home Idle None two)) ≡ (Granting 2, None, [], [], Grant false bytes ∷ [])
next_reader = refl

-- a writer among the sharers: the others give up their copies first
writer : seen (home_takes Mesi 3 0 GetM (home Idle None two)) ≡ (Collecting 0 (besides 0 two), None, [], Inv ∷ [], [])
writer = refl

last_answer : seen (home_takes Mesi 3 1 InvAck (home (Collecting 0 (besides 0 two)) None two)) ≡ (Granting 0, Some 0, Grant true bytes ∷ [], [], [])
last_answer = refl

-- an owner is called
called : seen (home_takes Msi 3 1 GetS (home Idle (Some 0) nobody)) ≡ (Recalling 0 1 false, Some 0, Recall false ∷ [], [], [])
called = refl

back : seen (home_takes Msi 3 0 (RecallAck true (9 ∷ 9 ∷ [])) (home (Recalling 0 1 false) (Some 0) nobody)) ≡ (Granting 1, None, [], Grant false (9 ∷ 9 ∷ []) ∷ [], [])
back = refl

back_and_kept : (home_takes Msi 3 0 (RecallAck true (9 ∷ 9 ∷ [])) (home (Recalling 0 1 false) (Some 0) nobody)).after.sharers 0 ≡ true
back_and_kept = refl

-- the owner puts it back, and one that is owner no more
put : (home_takes Mesi 3 1 (Put (9 ∷ 9 ∷ [])) (home Idle (Some 1) nobody)).after ≡ record { phase = Idle; owner = None; sharers = nobody; memory = 9 ∷ 9 ∷ [] }
put = refl

late : seen (home_takes Mesi 3 1 (Put (9 ∷ 9 ∷ [])) (home Idle (Some 0) nobody)) ≡ (Idle, Some 0, [], PutAck ∷ [], [])
late = refl

-- a request waits while another is served
busy : (home_takes Mesi 3 1 GetM (home (Granting 0) (Some 0) nobody)).waits ≡ true
busy = refl

over : seen (home_takes Mesi 3 0 Done (home (Granting 0) (Some 0) nobody)) ≡ (Idle, Some 0, [], [], [])
over = refl

-- the nodes' table
invalidated : node_takes Inv (Shared bytes) true ≡ takes Absent true (InvAck ∷ []) true
invalidated = refl

downgraded : node_takes (Recall false) (Owned bytes) false ≡ takes (Shared bytes) false (RecallAck true bytes ∷ []) false
downgraded = refl

emptied : node_takes (Recall true) (Evicting bytes) false ≡ takes Emptied false (RecallAck false bytes ∷ []) false
emptied = refl

granted : node_takes (Grant true bytes) Absent true ≡ takes (Owned bytes) false (Done ∷ []) false
granted = refl

never_comes : node_takes (Recall false) Absent false ≡ takes Absent false [] false
never_comes = refl
