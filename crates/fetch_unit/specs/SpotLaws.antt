-- The path beside the steps of a processor that it foretells.
use Rattle.std.specs.Prelude.{◌≡◌, ℕ, true, Some, None}
use Rattle.rsim_base.specs.declared.processor.Pair.{Pair}
use Rattle.rsim_base.specs.declared.processor.Window.{Window}
use Rattle.elf64_load.specs.Image.{ImageView}
use Rattle.sparc_meaning.specs.declared.arch.Arch.{Arch}
use Rattle.sparc_meaning.specs.Arch.{IsSound, boot, is_running}
use Rattle.sparc_meaning.specs.Fetched.{AreWindows, next_of}
use Rattle.sparc_meaning.specs.Step.{step}
use Rattle.sparc_meaning.specs.Stepped.{pair_of}
use Rattle.branch_predict.specs.Guesses.{PredictorView}
use Rattle.fetch_unit.specs.declared.path.Spot.{Spot}
use Rattle.fetch_unit.specs.Path.{IsSpotAt, fetching, first_spot, follow, meant_by, redirected}
use Rattle.fetch_unit.specs.Spots.{HasBegun, spot_of}

-- What is fetched where a processor stands is what its next step runs.
abbrev pub FetchedIsNext : Type 0
FetchedIsNext = (image : ImageView) (s : Arch) (p : PredictorView) → HasBegun image s → meant_by (fetching image (spot_of s) p).entry ≡ next_of image s

-- And where the pair of the state after that step was guessed, the path leads to where the processor stands then.
abbrev pub FollowIsAfter : Type 0
FollowIsAfter =
    (image : ImageView) (s : Arch) (p : PredictorView) (value : ℕ) → HasBegun image s →
    let f = (fetching image (spot_of s) p).entry in let after = (step image s value).state in
    is_running after.end ≡ true → f.guess ≡ Some (pair_of after) → follow f ≡ Some (spot_of after)

-- The path begins where a processor does.
abbrev pub BootSpot : Type 0
BootSpot = (image : ImageView) (p n : ℕ) → (spot_of (boot image p n) ≡ first_spot image) × HasBegun image (boot image p n)

-- A spill or fill begins only where an instruction needs it, and goes on there.
abbrev pub BegunStays : Type 0
BegunStays = (image : ImageView) (s : Arch) (value : ℕ) → HasBegun image s → HasBegun image (step image s value).state

-- Where a processor stands is a place on the path.
abbrev pub StatesHaveSpots : Type 0
StatesHaveSpots = (image : ImageView) (s : Arch) → IsSound s → HasBegun image s → IsSpotAt image (spot_of s)

-- A redirect to a pair of the program, and one back to where something was fetched, lead to a place on the path.
abbrev pub RedirectsAreSpots : Type 0
RedirectsAreSpots =
    ((image : ImageView) (pair : Pair) (w : Window) → AreWindows w → IsSpotAt image (redirected pair None w))
    × ((image : ImageView) (s : Spot) (p : PredictorView) → IsSpotAt image s → let f = (fetching image s p).entry in redirected f.pair f.micro f.window ≡ s)
