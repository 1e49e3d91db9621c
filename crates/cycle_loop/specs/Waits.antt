-- What a cycle brings each processor.
use Rattle.std.specs.Prelude.{◌≡◌, ◌⊎◌, ℕ, ◌+◌, true, Some, slice_get}
use Rattle.elf64_load.specs.Image.{ImageView}
use Rattle.sparc_meaning.specs.Arch.{is_running}
use Rattle.cycle_loop.specs.Machine.{CoreView, MachineView, lacks_line, next_step}

-- A processor that has not ended makes one step, or it stays as it is and waits: whatever memory has, its next step makes
-- an access whose line it lacks.
abbrev pub StepsOrWaits : ImageView → MachineView → MachineView → Type 0
StepsOrWaits image old new = (p : ℕ) (c : CoreView) → slice_get old.cores p ≡ Some c → is_running c.arch.end ≡ true →
    (d : CoreView) × (slice_get new.cores p ≡ Some d)
    × ((d.retired ≡ c.retired + 1) ⊎ ((d ≡ c) × ((bytes : ℕ → ℕ) → lacks_line new.store p (next_step image bytes c.arch).act ≡ true)))
