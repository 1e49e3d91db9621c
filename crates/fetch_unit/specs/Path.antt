-- The path that a core fetches along.
use Rattle.std.specs.Prelude.{◌≡◌, ℕ, ◌+◌, ◌%◌, ◌^◌, ◌<◌, ◌≤◌, ◌==◌, Bool, true, false, ◌||◌, if◌then◌else◌, Option, None, Some, option_map}
use Rattle.rsim_base.specs.declared.processor.Pair.{Pair}
use Rattle.rsim_base.specs.declared.processor.Window.{Window}
use Rattle.elf64_load.specs.Image.{ImageView}
use Rattle.sparc_decode.specs.declared.instr.Instr.{Instr}
use Rattle.sparc_decode.specs.declared.kinds.FormKind.{FormKind}
use Rattle.sparc_decode.specs.declared.kinds.FormKind.TheVariants.{BranchesOnCodes, BranchesOnRegister, Calls, Traps}
use Rattle.sparc_decode.specs.Effects.{window_effect_of}
use Rattle.sparc_decode.specs.Kinds.{kind}
use Rattle.sparc_alu.specs.Accesses.{effective}
use Rattle.sparc_alu.specs.Numbers.{twos_complement}
use Rattle.sparc_meaning.specs.Fetched.{AreWindows, fills_by, spills_by, windows_by}
use Rattle.sparc_meaning.specs.Step.{instr_at}
use Rattle.sparc_meaning.specs.Stepped.{branched, by_slot_to, straight}
use Rattle.sparc_meaning.specs.declared.arch.ArchPhase.{ArchPhase}
use Rattle.sparc_meaning.specs.declared.arch.ArchPhase.TheVariants.{Run, Spill, Fill}
use Rattle.sparc_meaning.specs.declared.fetched.Fetched as meaning
use Rattle.branch_predict.specs.Guesses.{PredictorView, guessed}
use Rattle.branch_predict.specs.declared.predictor.Guess.{Guess}
use Rattle.branch_predict.specs.declared.predictor.Guess.TheVariants.{Taken, NotTaken, Target, Unknown}
use Rattle.fetch_unit.specs.declared.path.Fetched.{Fetched}
use Rattle.fetch_unit.specs.declared.path.Spot.{Spot}

-- ---- spills and fills

-- the instruction spills or fills a window before it runs
abbrev pub spills : Instr → Window → Bool
spills i w = spills_by (window_effect_of i) w

abbrev pub fills : Instr → Window → Bool
fills i w = fills_by (window_effect_of i) w

abbrev pub waits : Instr → Window → Bool
waits i w = spills i w || fills i w

-- which step of it stands at a place: the first, where it is still to begin; none where the instruction runs
abbrev pub micro_at : Option ℕ → Instr → Window → Option ℕ
micro_at (Some k) i w = Some k
micro_at None i w = if waits i w then Some 0 else None

-- the part of the instruction that this is
abbrev pub part_of : Option ℕ → Instr → Window → ArchPhase
part_of None i w = Run
part_of (Some k) i w = if spills i w then Spill k else Fill k

-- the step behind it; none behind the last
abbrev pub micro_after : Option ℕ → Option ℕ
micro_after None = None
micro_after (Some k) = if k == 15 then None else Some (k + 1)

-- ---- guesses

-- a branch that has no condition (SPARC V9, A.6, A.7)
abbrev pub is_always : Instr → Bool
is_always i = i.cond == 8

abbrev pub target_of : Instr → Pair → ℕ
target_of i pair = effective pair.pc (twos_complement i.disp)

-- where a branch leads that goes, or does not; CALL always goes, and other kinds lead straight on
abbrev pub branch_to : FormKind → Bool → Instr → Pair → Pair
branch_to BranchesOnCodes goes i pair = branched (is_always i) goes i.annul (target_of i pair) pair
branch_to BranchesOnRegister goes i pair = branched false goes i.annul (target_of i pair) pair
branch_to Calls goes i pair = by_slot_to (target_of i pair) pair
branch_to _ goes i pair = straight pair

-- the pair that a guess at an instruction of this kind leads to
abbrev pub led_to : Guess → FormKind → Instr → Pair → Option Pair
led_to Taken k i pair = Some (branch_to k true i pair)
led_to NotTaken k i pair = Some (branch_to k false i pair)
led_to (Target t) k i pair = Some (by_slot_to t pair)
led_to Unknown k i pair = None

abbrev pub led_by : Guess → Instr → Pair → Option Pair
led_by g i pair = led_to g (kind i.op) i pair

-- the pair that is guessed to follow, and how the predictor is left
pub record Leading : Type 0 where
  pub guess : Option Pair
  pub after : PredictorView

-- a trap leads nowhere, and the predictor is not asked
abbrev pub leading_run : FormKind → Instr → Pair → PredictorView → Leading
leading_run Traps i pair p = record { guess = None; after = p }
leading_run _ i pair p = let g = guessed pair.pc i p in record { guess = led_by g.guess i pair; after = g.after }

-- after a step of a spill or fill comes the same pair
abbrev pub leading : Option ℕ → Instr → Pair → PredictorView → Leading
leading (Some k) i pair p = record { guess = Some pair; after = p }
leading None i pair p = leading_run (kind i.op) i pair p

-- ---- what is fetched

-- what stands at a place, and how the predictor is left
pub record Fetching : Type 0 where
  pub entry : Fetched
  pub predictor : PredictorView

abbrev pub fetching : ImageView → Spot → PredictorView → Fetching
fetching image s p =
    let i = instr_at image s.pair.pc in
    let micro = micro_at s.micro i s.window in
    let l = leading micro i s.pair p in
    record {
      entry = record { pair = s.pair; guess = l.guess; micro = micro; window = s.window; instr = i; mark = l.after.pushes };
      predictor = l.after;
    }

-- an entry as what a step runs
abbrev pub meant_by : Fetched → meaning.Fetched
meant_by f = record { pair = f.pair; window = f.window; part = part_of f.micro f.instr f.window; instr = f.instr }

-- where an entry is guessed to lead: the windows follow, also from the last step of a spill or fill
abbrev pub follow : Fetched → Option Spot
follow f =
    option_map (λ pair. record { pair = pair; micro = micro_after f.micro; window = windows_by (part_of f.micro f.instr f.window) f.instr f.window }) f.guess

abbrev pub FetchesAt : ImageView → Option Spot → PredictorView → Option Fetched → Option Spot → PredictorView → Type 0
FetchesAt image None before result next after = (result ≡ None) × (next ≡ None) × (after ≡ before)
FetchesAt image (Some s) before result next after =
    let x = fetching image s before in
    (result ≡ Some x.entry) × (next ≡ follow x.entry) × (after ≡ x.predictor)

-- ---- places

-- the windows are sound, and a spill or fill is under way only where the instruction spills or fills
pub record IsSpotAt (image : ImageView) (s : Spot) : Type 0 where
  pub windows : AreWindows s.window
  pub micro : (k : ℕ) → s.micro ≡ Some k → (1 ≤ k) × (k < 16) × (waits (instr_at image s.pair.pc) s.window ≡ true)

-- the first step of a spill or fill stands at the place of its instruction
abbrev pub begun : Option ℕ → Option ℕ
begun None = None
begun (Some k) = if k == 0 then None else Some k

abbrev pub redirected : Pair → Option ℕ → Window → Spot
redirected pair micro window = record { pair = pair; micro = begun micro; window = window }

-- where a unit fetches next, if it knows
abbrev pub IsSpot : ImageView → Option Spot → Type 0
IsSpot image next = (s : Spot) → next ≡ Some s → IsSpotAt image s

-- ---- at first

abbrev pub first_spot : ImageView → Spot
first_spot image = record {
  pair = record { pc = image.entry; npc = (image.entry + 4) % 2 ^ 64 };
  micro = None;
  window = record { cwp = 0; cansave = 6; canrestore = 0 };
}
