-- The machine as its rules see it: processors that make one step at a time over a store of lines, and the order of their
-- accesses.
use Rattle.std.specs.Prelude.{◌≡◌, ℕ, suc, ◌+◌, Bool, true, false, not, ◌&&◌, if◌then◌else◌, List, [], ◌∷◌, ◌++◌, map, length}
use Rattle.rsim_base.specs.Accesses.{stores}
use Rattle.rsim_base.specs.Bytes.{count_of}
use Rattle.rsim_base.specs.Made.{Made}
use Rattle.rsim_base.specs.declared.memory.Access.{Access}
use Rattle.rsim_base.specs.declared.memory.Line.{Line}
use Rattle.rsim_base.specs.declared.memory.Node.{Node}
use Rattle.elf64_load.specs.Image.{ImageView}
use Rattle.sparc_meaning.specs.Accesses.{by_access}
use Rattle.sparc_meaning.specs.Arch.{is_running}
use Rattle.sparc_meaning.specs.Run.{accesses_of, output_of}
use Rattle.sparc_meaning.specs.Step.{step}
use Rattle.sparc_meaning.specs.Stepped.{Stepped}
use Rattle.sparc_meaning.specs.Wants.{wanted}
use Rattle.sparc_meaning.specs.declared.acts.Act.{Act}
use Rattle.sparc_meaning.specs.declared.acts.Want.{Want}
use Rattle.sparc_meaning.specs.declared.acts.Want.TheVariants as want
use Rattle.sparc_meaning.specs.declared.arch.Arch.{Arch}
use Rattle.memory_contracts.specs.Store.{StoreView, Ticks, line_at, stored, value_at}
use Rattle.order_log.specs.Log.{Place, placed}
use Rattle.cycle_loop.specs.Lines.{lacks}

pub record CoreView : Type 0 where
  pub arch : Arch
  -- how many steps it has retired, and how many accesses these have made
  pub retired : ℕ
  pub accesses : ℕ
  pub output : List ℕ
  -- retired stores that are not performed yet, the oldest first
  pub waiting : List Made

pub record MachineView : Type 0 where
  pub cores : List CoreView
  pub store : StoreView
  pub log : List Place
  pub cycles : ℕ

-- ---- a turn

-- what a processor's turn may change: its own state, the log, and memory
pub record At : Type 0 where
  pub core : CoreView
  pub log : List Place
  pub bytes : ℕ → ℕ

-- what memory has where a step reads it
abbrev pub value_found : (ℕ → ℕ) → Want → ℕ
value_found bytes (want.Load addr n) = value_at bytes addr.0 (count_of n)
value_found bytes (want.Atomic addr n) = value_at bytes addr.0 (count_of n)
value_found bytes want.None = 0
value_found bytes want.Ended = 0

-- the processor's next step, on what memory has
abbrev pub next_step : ImageView → (ℕ → ℕ) → Arch → Stepped
next_step image bytes arch = step image arch (value_found bytes (wanted image arch))

-- the access of a step lacks its line
abbrev pub lacks_line : StoreView → ℕ → Act → Bool
lacks_line v p act = by_access false (λ a. lacks v p (line_at v a.addr.0) a.kind) act

-- memory after a step
abbrev pub bytes_after : Act → (ℕ → ℕ) → ℕ → ℕ
bytes_after act bytes = by_access bytes (λ a. if stores a.kind then stored bytes a.addr.0 (count_of a.size) a.stored else bytes) act

-- processor p after this step
abbrev pub core_after : ℕ → Stepped → CoreView → CoreView
core_after p s c = record c { arch = s.state; retired = c.retired + 1; accesses = c.accesses + length (accesses_of p c.accesses s.act); output = c.output ++ output_of s.act }

-- ...which is retired at once, and so is its access
abbrev pub after_step : ℕ → Stepped → At → At
after_step p s x = record {
  core = core_after p s x.core;
  log = x.log ++ map (λ a. placed a true) (accesses_of p x.core.accesses s.act);
  bytes = bytes_after s.act x.bytes;
}

-- The turn of processor p over a store with these sets: one step, unless it has ended or must wait for a line.
abbrev pub turn : ImageView → StoreView → ℕ → At → At
turn image v p x =
    let s = next_step image x.bytes x.core.arch in
    if is_running x.core.arch.end && not (lacks_line v p s.act) then after_step p s x else x

-- ---- a cycle

pub record Turned : Type 0 where
  pub cores : List CoreView
  pub log : List Place
  pub bytes : ℕ → ℕ

-- the turns of these processors, the first of them number p, one after the other
abbrev pub turns : ImageView → StoreView → ℕ → List CoreView → List Place → (ℕ → ℕ) → Turned
turns image v p [] log bytes = record { cores = []; log = log; bytes = bytes }
turns image v p (c ∷ cs) log bytes =
    let x = turn image v p (record { core = c; log = log; bytes = bytes }) in
    let rest = turns image v (suc p) cs x.log x.bytes in
    record { cores = x.core ∷ rest.cores; log = rest.log; bytes = rest.bytes }

-- One cycle: the store ticks, and then each processor takes its turn, in rising order. Which lines are wished is left open,
-- and the lines that come are the store's choice; nothing else is.
pub record CoreCycle (image : ImageView) (old new : MachineView) : Type 0 where
  pub ticked : StoreView
  pub lost : List (Node × Line)
  pub ticks : Ticks old.store ticked lost
  pub cores : new.cores ≡ (turns image ticked 0 old.cores old.log ticked.bytes).cores
  pub log : new.log ≡ (turns image ticked 0 old.cores old.log ticked.bytes).log
  pub store : new.store ≡ record ticked { bytes = (turns image ticked 0 old.cores old.log ticked.bytes).bytes; wishes = new.store.wishes }
  pub cycles : new.cycles ≡ old.cycles + 1

-- the machine with the accesses that were taken out of its log put back
abbrev pub with_taken : List Access → MachineView → MachineView
with_taken taken m = record m { log = map (λ a. placed a true) taken ++ m.log }
