-- A table of lines as a caller of it sees it, and the slab's entries as the lines that they stand for.
use Rattle.std.specs.Prelude.{◌≡◌, ◌≢◌, ℕ, ◌≤◌, map, Some, refl}
use Rattle.std.specs.Coded.{Coded, code_by, coded×, coded_ℕ}
use Rattle.std.specs.Ordering.{nat_cmp}
use Rattle.std.specs.FinMap as finite
use Rattle.slab.specs.Slab.{Slab, get, slab_len, values}
use Rattle.miss_registers.specs.declared.line_table.Entry.{Entry}

-- how many places there are, and the lines that have one, each with its value
pub record Table (T : Type 0) : Type 0 where
  pub places : ℕ
  pub lines : finite.FinMap nat_cmp T

abbrev pub table_code : {T : Type 0} → Coded T → Coded (Table T)
table_code {T} code =
    code_by
    (ℕ × finite.FinMap nat_cmp T)
    (coded× coded_ℕ (finite.code coded_ℕ code))
    (λ t. (t.places, t.lines))
    (λ p. record { places = p.0; lines = p.1 })
    (λ _. refl)

module _ {T : Type 0} where
  abbrev pub entry_of : ℕ → T → Entry T
  entry_of line value = record { line = record { 0 = line }; value = value }

  -- the lines of the entries of a slab
  abbrev pub lines_of : Slab (Entry T) → finite.FinMap nat_cmp T
  lines_of s = finite.from_entries (map (λ e. (e.line.0, e.value)) (values s))

  -- the line has an entry, under this key
  abbrev pub HasLineAt : Slab (Entry T) → ℕ → ℕ → Type 0
  HasLineAt s line key = (value : T) × (get s key ≡ Some (entry_of line value))

  -- the line has no entry
  abbrev pub LacksLine : Slab (Entry T) → ℕ → Type 0
  LacksLine s line = (key : ℕ) (value : T) → get s key ≢ Some (entry_of line value)

  -- no line has two entries
  abbrev pub AreApart : Slab (Entry T) → Type 0
  AreApart s = (i j line : ℕ) (v w : T) → get s i ≡ Some (entry_of line v) → get s j ≡ Some (entry_of line w)
      → i ≡ j

  -- no line has two entries, and each place has room in the slab
  pub record IsSound (s : Slab (Entry T)) (places : ℕ) : Type 0 where
    pub apart : AreApart s
    pub within : slab_len s ≤ places
    pub room : places ≤ s.capacity
