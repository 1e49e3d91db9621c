-- What is guessed of where a program goes on, and what is learnt.
use Rattle.std.specs.Prelude.{ℕ, pos, int_lt, ◌+◌, ◌-◌, ◌/◌, ◌%◌, ◌^◌, ◌==◌, nat_lt, nat_le, not, ◌&&◌, ◌||◌, min, Bool, true, false, if◌then◌else◌, List, [], ◌∷◌, ◌++◌, length, take, filter, replicate, slice_get, slice_index, slice_set, Option, None, Some}
use Rattle.circular_buffer.specs.Buffer.{keep_last}
use Rattle.machine_config.specs.declared.config.Config.{Config}
use Rattle.machine_config.specs.declared.config.PredictorKind.{PredictorKind}
use Rattle.machine_config.specs.declared.config.PredictorKind.TheVariants.{Static, TwoBit}
use Rattle.sparc_decode.specs.declared.instr.Instr.{Instr}
use Rattle.sparc_decode.specs.declared.instr.Op.{Op}
use Rattle.sparc_decode.specs.declared.instr.Op.TheVariants.{Bicc, BPcc, BPr, Call, Jmpl, Return}
use Rattle.branch_predict.specs.declared.return_stack.Pushed.{Pushed}
use Rattle.branch_predict.specs.declared.predictor.Guess.{Guess}
use Rattle.branch_predict.specs.declared.predictor.Guess.TheVariants.{Taken, NotTaken, Target, Unknown}

pub record PredictorView : Type 0 where
  pub kind : PredictorKind
  -- of two bits each; none where the kind has none
  pub counters : List ℕ
  -- the oldest first, at most so many
  pub stack : List Pushed
  pub places : ℕ
  -- how many addresses have been pushed so far
  pub pushes : ℕ

-- ---- conditional branches

-- the counter of the branch at pc
abbrev pub place_of : ℕ → PredictorView → ℕ
place_of pc v = pc / 4 % length v.counters

-- by the instruction alone: the prediction bit, and where there is none, whether the branch goes back (A.3, A.6, A.7)
abbrev pub hinted : Op → Instr → Bool
hinted Bicc i = int_lt i.disp (pos 0)
hinted op i = i.hint

-- by the branch's counter: taken from 2 on
abbrev pub counted : ℕ → PredictorView → Bool
counted pc v = nat_le 2 (slice_index v.counters (place_of pc v))

abbrev pub goes : PredictorKind → ℕ → Instr → PredictorView → Bool
goes Static pc i v = hinted i.op i
goes TwoBit pc i v = counted pc v

-- a branch on the condition codes: that of condition 8 always goes, that of condition 0 never (A.6, A.7)
abbrev pub on_codes : ℕ → Instr → PredictorView → Bool
on_codes pc i v = if i.cond == 8 then true else if i.cond == 0 then false else goes v.kind pc i v

-- ---- return addresses

-- the oldest address gives way where no place is free
abbrev pub pushed : ℕ → PredictorView → PredictorView
pushed pc v =
    record v {
      stack = keep_last v.places (v.stack ++ record { number = v.pushes; address = (pc + 8) % 2 ^ 64 } ∷ []);
      pushes = v.pushes + 1;
    }

abbrev pub popped : PredictorView → PredictorView
popped v = record v { stack = take (length v.stack - 1) v.stack }

-- ---- guesses

pub record Guessed : Type 0 where
  pub guess : Guess
  pub after : PredictorView

abbrev pub branches : Bool → PredictorView → Guessed
branches taken v = record { guess = if taken then Taken else NotTaken; after = v }

-- to the youngest address
abbrev pub returns_to : Option Pushed → PredictorView → Guessed
returns_to None v = record { guess = Unknown; after = v }
returns_to (Some p) v = record { guess = Target p.address; after = popped v }

abbrev pub returns : PredictorView → Guessed
returns v = returns_to (slice_get v.stack (length v.stack - 1)) v

-- JMPL that leaves its address in %o7 is a call; one that leaves it nowhere and goes by %o7 or %i7 is a return (A.24, H.1)
abbrev pub jumps : ℕ → Instr → PredictorView → Guessed
jumps pc i v =
    if i.rd == 15 then record { guess = Unknown; after = pushed pc v }
    else if (i.rd == 0) && ((i.rs1 == 15) || (i.rs1 == 31)) then returns v
    else record { guess = Unknown; after = v }

abbrev pub guessed_by : Op → ℕ → Instr → PredictorView → Guessed
guessed_by Bicc pc i v = branches (on_codes pc i v) v
guessed_by BPcc pc i v = branches (on_codes pc i v) v
guessed_by BPr pc i v = branches (goes v.kind pc i v) v
guessed_by Call pc i v = record { guess = Taken; after = pushed pc v }
guessed_by Jmpl pc i v = jumps pc i v
guessed_by Return pc i v = returns v
guessed_by op pc i v = record { guess = NotTaken; after = v }

abbrev pub guessed : ℕ → Instr → PredictorView → Guessed
guessed pc i v = guessed_by i.op pc i v

-- ---- learning

-- which way a branch went is learnt where it may go either way: not of conditions 8 and 0, as above
abbrev pub learns_by : Op → Instr → Bool
learns_by Bicc i = not (i.cond == 8 || i.cond == 0)
learns_by BPcc i = not (i.cond == 8 || i.cond == 0)
learns_by BPr i = true
learns_by op i = false

abbrev pub learns : Instr → Bool
learns i = learns_by i.op i

-- one up or down, within 0 to 3
abbrev pub moved : Bool → ℕ → ℕ
moved taken n = if taken then min 3 (n + 1) else n - 1

abbrev pub learned : ℕ → Bool → PredictorView → PredictorView
learned pc taken v = record v { counters = slice_set v.counters (place_of pc v) (moved taken (slice_index v.counters (place_of pc v))) }

-- ---- squashes

abbrev pub without_pushes : ℕ → PredictorView → PredictorView
without_pushes mark v = record v { stack = filter (λ p. nat_lt p.number mark) v.stack }

-- ---- at first

abbrev pub counters_of : PredictorKind → ℕ → List ℕ
counters_of Static size = []
counters_of TwoBit size = replicate size 1

abbrev pub first_predictor : Config → PredictorView
first_predictor config = record {
  kind = config.predictor;
  counters = counters_of config.predictor config.predictor_size;
  stack = [];
  places = config.return_stack;
  pushes = 0;
}
