-- What entries in flight read, while some join, retire and are undone.
use Rattle.std.specs.Prelude.{◌≡◌, ℕ, ◌∷◌, ◌++◌, List, [], All, IfSome, map, slice_index}
use Rattle.rename.specs.Names.{NamesView}
use Rattle.rename.specs.Reading.{Access, AreBelow, AreNamed, IsNamed, behind, holders, takes_along}
use Rattle.rename.specs.Renaming.{IsRenaming, named, times}

-- An entry joins whose operands were looked up before its takes: they name what the youngest earlier writers got.
abbrev pub JoinIsNamed : Type 0
JoinIsNamed =
    (retired : ℕ → ℕ) (entries : List Access) (e : Access) (v : NamesView)
    → IsRenaming retired (takes_along entries) v
    → AreNamed retired entries
    → AreBelow e.reads
    → e.sources ≡ holders (slice_index v.current) e.reads
    → map (λ t. t.reg.0) e.takes ≡ e.writes
    → AreNamed retired (entries ++ e ∷ [])

-- Each operand in flight names what the takes before its entry gave, or the retired register.
abbrev pub OperandsNameEarlier : Type 0
OperandsNameEarlier =
    (retired : ℕ → ℕ) (before after : List Access) (e : Access)
    → AreNamed retired (before ++ e ∷ after)
    → IsNamed (λ r. named r (takes_along before) (retired r)) e

-- The youngest entries leave, and what is left reads as before.
abbrev pub CutIsNamed : Type 0
CutIsNamed = (retired : ℕ → ℕ) (kept gone : List Access) → AreNamed retired (kept ++ gone) → AreNamed retired kept

-- The oldest entry retires, and what it wrote is retired from then on.
abbrev pub RetiredIsNamed : Type 0
RetiredIsNamed = (retired : ℕ → ℕ) (e : Access) (entries : List Access) → AreNamed retired (e ∷ entries) → AreNamed (behind e retired) entries

-- A free register has no reader in flight.
abbrev pub FreeHaveNoReader : Type 0
FreeHaveNoReader =
    (retired : ℕ → ℕ) (entries : List Access) (v : NamesView)
    → IsRenaming retired (takes_along entries) v
    → AreNamed retired entries
    → All (λ e. All (λ p. IfSome p (λ q. times q.0 v.free ≡ 0)) e.sources) entries
