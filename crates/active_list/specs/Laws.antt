-- What follows where numbers rise from the oldest entry to the youngest.
use Rattle.std.specs.Prelude.{◌≡◌, ℕ, ◌+◌, ◌<◌, ◌≤◌, ◌++◌, ◌∷◌, List, [], length, drop, take, ◌-◌, All, false, slice_get, slice_set, Some}
use Rattle.active_list.specs.declared.flight.Flight.{Flight}
use Rattle.active_list.specs.Lists.{AreNumbered, is_after}

-- each entry has a greater number than every one before it
abbrev pub AreRising : List Flight → Type 0
AreRising entries = (i k : ℕ) (f g : Flight) → i < k → slice_get entries i ≡ Some f → slice_get entries k ≡ Some g → f.seq < g.seq

-- the youngest has no greater number exactly where no entry has
abbrev pub NoneIsAfter : Type 0
NoneIsAfter =
    (seq : ℕ) (entries : List Flight)
    → AreRising entries
    → (is_after seq entries ≡ false → All (λ f. f.seq ≤ seq) entries) × (All (λ f. f.seq ≤ seq) entries → is_after seq entries ≡ false)

-- numbers still rise where an entry joins with a greater number than all have
abbrev pub PushKeepsRising : Type 0
PushKeepsRising = (f : Flight) (entries : List Flight) → AreRising entries → All (λ g. g.seq < f.seq) entries → AreRising (entries ++ f ∷ [])

-- where the oldest is taken out
abbrev pub RetireKeepsRising : Type 0
RetireKeepsRising = (entries : List Flight) → AreRising entries → AreRising (drop 1 entries)

-- and where the youngest is
abbrev pub PopsKeepRising : Type 0
PopsKeepRising = (entries : List Flight) → AreRising entries → AreRising (take (length entries - 1) entries)

-- and where an entry is changed that keeps its number
abbrev pub ChangeKeepsRising : Type 0
ChangeKeepsRising =
    (entries : List Flight) (k : ℕ) (f g : Flight) → AreRising entries → slice_get entries k ≡ Some f → g.seq ≡ f.seq → AreRising (slice_set entries k g)

-- ---- numbers without gaps

-- they rise
abbrev pub NumberedAreRising : Type 0
NumberedAreRising = (first : ℕ) (entries : List Flight) → AreNumbered first entries → AreRising entries

-- they go on where an entry joins with the next number
abbrev pub PushKeepsNumbers : Type 0
PushKeepsNumbers =
    (first : ℕ) (f : Flight) (entries : List Flight) → AreNumbered first entries → f.seq ≡ first + length entries → AreNumbered first (entries ++ f ∷ [])

-- where the oldest is taken out they begin one later
abbrev pub RetireKeepsNumbers : Type 0
RetireKeepsNumbers = (first : ℕ) (entries : List Flight) → AreNumbered first entries → AreNumbered (first + 1) (drop 1 entries)

-- where the youngest is, they end one earlier
abbrev pub PopsKeepNumbers : Type 0
PopsKeepNumbers = (first : ℕ) (entries : List Flight) → AreNumbered first entries → AreNumbered first (take (length entries - 1) entries)

-- and an entry that is changed may keep its number
abbrev pub ChangeKeepsNumbers : Type 0
ChangeKeepsNumbers =
    (first : ℕ) (entries : List Flight) (k : ℕ) (f g : Flight) → AreNumbered first entries → slice_get entries k ≡ Some f → g.seq ≡ f.seq → AreNumbered first (slice_set entries k g)
