-- Instructions that wait for operands and units.
use Rattle.std.specs.Prelude.{◌≡◌, ℕ, ◌+◌, ◌-◌, ◌==◌, nat_lt, nat_le, Bool, true, false, not, ◌&&◌, if◌then◌else◌, List, [], ◌∷◌, ◌++◌, length, map, filter, find, replicate, Option, None, Some, option_map, slice_set}
use Rattle.std.specs.List.{All, list_all}
use Rattle.std.specs.Option.{option_map_or}
use Rattle.machine_config.specs.declared.config.Config.{Config}
use Rattle.rsim_base.specs.declared.processor.PhysReg.{PhysReg}
use Rattle.rsim_base.specs.Limits.{arch_registers}
use Rattle.rsim_base.specs.declared.processor.Unit.{Unit}
use Rattle.rsim_base.specs.declared.processor.Unit.TheVariants.{Alu, Mul, Div}

pub record Entry : Type 0 where
  pub seq : ℕ
  pub unit : Unit
  -- the registers that it waits for
  pub needs : List (Option ℕ)
  -- where a unit has it, the tick from which it is finished
  pub until : Option ℕ

-- how many units there are, and how many ticks each takes
pub record Settings : Type 0 where
  pub alu_units : ℕ
  pub alu_latency : ℕ
  pub mul_units : ℕ
  pub mul_latency : ℕ
  pub div_latency : ℕ

pub record QueueView : Type 0 where
  -- the oldest first, at most so many
  pub entries : List Entry
  pub size : ℕ
  pub now : ℕ
  -- how many more can be issued in this tick
  pub alu_left : ℕ
  pub mul_left : ℕ
  -- by divider, the tick from which it is free
  pub dividers : List ℕ
  pub settings : Settings
  -- registers have numbers below this
  pub registers : ℕ

-- ---- joining

abbrev pub AreNeeded : ℕ → List (Option PhysReg) → Type 0
AreNeeded registers needs = All (λ n. option_map_or (λ (r : PhysReg). nat_lt r.0 registers) n true ≡ true) needs

abbrev pub has_place : QueueView → Bool
has_place q = nat_lt (length q.entries) q.size

abbrev pub entry : ℕ → Unit → List (Option PhysReg) → Entry
entry seq unit needs = record { seq = seq; unit = unit; needs = map (option_map (λ (r : PhysReg). r.0)) needs; until = None }

abbrev pub added : ℕ → Unit → List (Option PhysReg) → QueueView → QueueView
added seq unit needs q = if has_place q then record q { entries = q.entries ++ entry seq unit needs ∷ [] } else q

-- ---- waking

-- nothing where it is this register
abbrev pub without : ℕ → Option ℕ → Option ℕ
without r None = None
without r (Some x) = if x == r then None else Some x

abbrev pub woken_entry : ℕ → Entry → Entry
woken_entry r e = record e { needs = map (without r) e.needs }

abbrev pub woken : ℕ → QueueView → QueueView
woken r q = record q { entries = map (woken_entry r) q.entries }

-- ---- issuing

abbrev pub is_waiting : Entry → Bool
is_waiting e = option_map_or (λ _. false) e.until true

abbrev pub is_ready : Entry → Bool
is_ready e = list_all (λ n. option_map_or (λ _. false) n true) e.needs

-- the first divider that is free, or as many as there are
abbrev pub free_divider : ℕ → List ℕ → ℕ
free_divider now [] = 0
free_divider now (t ∷ ts) = if nat_le t now then 0 else 1 + free_divider now ts

-- whether a unit has a place in this tick
abbrev pub has_unit : QueueView → Unit → Bool
has_unit q Alu = nat_lt 0 q.alu_left
has_unit q Mul = nat_lt 0 q.mul_left
has_unit q Div = nat_lt (free_divider q.now q.dividers) (length q.dividers)

abbrev pub can_issue : QueueView → Entry → Bool
can_issue q e = is_waiting e && (is_ready e && has_unit q e.unit)

-- a unit takes an entry
abbrev pub latency : Settings → Unit → ℕ
latency s Alu = s.alu_latency
latency s Mul = s.mul_latency
latency s Div = s.div_latency

abbrev pub takes_unit : Unit → QueueView → QueueView
takes_unit Alu q = record q { alu_left = q.alu_left - 1 }
takes_unit Mul q = record q { mul_left = q.mul_left - 1 }
takes_unit Div q = record q { dividers = slice_set q.dividers (free_divider q.now q.dividers) (q.now + q.settings.div_latency) }

-- the entry of this number is finished from this tick on
abbrev pub issued_until : ℕ → ℕ → Entry → Entry
issued_until seq until e = if e.seq == seq then record e { until = Some until } else e

abbrev pub issued_as : Entry → QueueView → QueueView
issued_as x q = takes_unit x.unit (record q { entries = map (issued_until x.seq (q.now + latency q.settings x.unit)) q.entries })

-- the oldest that can be issued, and what it leaves
abbrev pub SelectsOf : QueueView → Option Entry → Option ℕ → QueueView → Type 0
SelectsOf old None result new = (result ≡ None) × (new ≡ old)
SelectsOf old (Some x) result new = (result ≡ Some x.seq) × (new ≡ issued_as x old)

abbrev pub Selects : QueueView → Option ℕ → QueueView → Type 0
Selects old result new = SelectsOf old (find (can_issue old) old.entries) result new

-- ---- finishing

abbrev pub is_finished : ℕ → Entry → Bool
is_finished now e = option_map_or (λ t. nat_le t now) e.until false

abbrev pub FinishesOf : QueueView → Option Entry → Option ℕ → QueueView → Type 0
FinishesOf old None result new = (result ≡ None) × (new ≡ old)
FinishesOf old (Some x) result new = (result ≡ Some x.seq) × (new ≡ record old { entries = filter (λ e. not (e.seq == x.seq)) old.entries })

abbrev pub Finishes : QueueView → Option ℕ → QueueView → Type 0
Finishes old result new = FinishesOf old (find (is_finished old.now) old.entries) result new

-- ---- ticks and squashes

abbrev pub ticked : QueueView → QueueView
ticked q = record q { now = q.now + 1; alu_left = q.settings.alu_units; mul_left = q.settings.mul_units }

abbrev pub cut : ℕ → QueueView → QueueView
cut seq q = record q { entries = filter (λ e. nat_le e.seq seq) q.entries }

-- ---- at first

abbrev pub first_queue : Config → QueueView
first_queue config = record {
  entries = [];
  size = config.active_list;
  now = 0;
  alu_left = config.alu_units;
  mul_left = config.mul_units;
  dividers = replicate config.div_units 0;
  settings = record {
    alu_units = config.alu_units;
    alu_latency = config.alu_latency;
    mul_units = config.mul_units;
    mul_latency = config.mul_latency;
    div_latency = config.div_latency;
  };
  registers = arch_registers + config.rename_registers;
}
