-- What the entries in flight read: which register each operand names.
use Rattle.std.specs.Prelude.{◌≡◌, ℕ, ◌<◌, ⊤, ◌∷◌, List, [], All, map, Option, IfSome, option_map}
use Rattle.std.specs.List.{flat_map}
use Rattle.rsim_base.specs.Limits.{arch_registers}
use Rattle.rsim_base.specs.declared.processor.PhysReg.{PhysReg}
use Rattle.rsim_base.specs.declared.processor.Renamed.{Renamed}
use Rattle.rename.specs.Renaming.{named}

-- an entry in flight, as far as registers go
pub record Access : Type 0 where
  -- the architectural registers that it reads, by operand, and those that it writes
  pub reads : List (Option ℕ)
  pub writes : List ℕ
  -- the registers that its operands name
  pub sources : List (Option PhysReg)
  -- its takes, one for each register that it writes
  pub takes : List Renamed

-- the takes of entries in flight, the oldest first
abbrev pub takes_along : List Access → List Renamed
takes_along entries = flat_map (λ e. e.takes) entries

-- what holds register r behind an entry, where `held` holds the registers before it
abbrev pub behind : Access → (ℕ → ℕ) → ℕ → ℕ
behind e held r = named r e.takes (held r)

abbrev pub AreBelow : List (Option ℕ) → Type 0
AreBelow reads = All (λ n. IfSome n (λ r. r < arch_registers)) reads

-- what holds each register that is read
abbrev pub holders : (ℕ → ℕ) → List (Option ℕ) → List (Option PhysReg)
holders held reads = map (option_map (λ r. record { 0 = held r })) reads

-- its operands name what holds the registers that it reads, and it takes a register for each that it writes
pub record IsNamed (held : ℕ → ℕ) (e : Access) : Type 0 where
  pub below : AreBelow e.reads
  pub operands : e.sources ≡ holders held e.reads
  pub results : map (λ t. t.reg.0) e.takes ≡ e.writes

-- so it is along the list: an operand names what the youngest earlier writer got
abbrev pub AreNamed : (ℕ → ℕ) → List Access → Type 0
AreNamed held [] = ⊤
AreNamed held (e ∷ entries) = IsNamed held e × AreNamed (behind e held) entries
