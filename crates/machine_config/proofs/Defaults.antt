-- Before any line is read each key has its default, which its row allows.
use Rattle.std.specs.Int.Count.{ones, ones_in}
use Rattle.std.specs.List.{list_all}
use Rattle.std.proofs.Common.{◌≡◌, ℕ, Bool, true, false, List, [], ◌∷◌, map, replicate, refl}
use Rattle.std.proofs.lemmas.Bool.{and_parts}
use Rattle.machine_config.specs.Keys.{Key, keys}
use Rattle.machine_config.specs.Reading.{AreAllowed, HasRead}
use Rattle.machine_config.proofs.Numbers.{allows, Allows-allows}
use Rattle.machine_config.proofs.Lines.{is_given}

abbrev has_default : Key → Bool
has_default key = allows key.values key.default

keys-have_defaults : list_all has_default keys ≡ true
unfolding keys ones ones_in
keys-have_defaults = refl

AreAllowed-defaults : (rows : List Key) → list_all has_default rows ≡ true → AreAllowed rows (map (λ key. key.default) rows)
AreAllowed-defaults [] all = tt
AreAllowed-defaults (key ∷ rest) all =
    let (head, tail) = and_parts (has_default key) (list_all has_default rest) all in
    (Allows-allows key.values key.default head, AreAllowed-defaults rest tail)

none_given : replicate 33 false ≡ map (is_given []) keys
unfolding keys
none_given = refl

pub HasRead-none : (numbers : List ℕ) → numbers ≡ map (λ key. key.default) keys
    → HasRead [] (record { lines = 0; named = replicate 33 false; numbers = numbers })
HasRead-none numbers defaults = record {
  lines = refl;
  named = none_given;
  numbers = defaults;
  allowed = rw defaults (AreAllowed-defaults keys keys-have_defaults);
}
