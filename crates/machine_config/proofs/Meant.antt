-- What is known of a value that has no fault.
use Rattle.std.specs.Int.{is_power_of_two}
use Rattle.std.specs.List.{list_any, position_or_len}
use Rattle.std.specs.Option.{option_or}
use Rattle.std.specs.Str.{bytes_eq}
use Rattle.std.specs.Str.Parse.{digits_value}
use Rattle.std.proofs.Common.{◌≡◌, ℕ, ◌<◌, Bool, true, false, cond, List, [], ◌∷◌, length, Option, Some, None, refl, arith}
use Rattle.std.proofs.lemmas.Bool.{lt-ltb}
use Rattle.rsim_base.specs.Decimals.{is_number}
use Rattle.machine_config.specs.Keys.{Values, number, power, word}
use Rattle.machine_config.specs.Allowed.{Allows}
use Rattle.machine_config.specs.Faults.{range_fault, power_fault, value_fault, number_of}
use Rattle.machine_config.proofs.Numbers.{is_within, allows, Allows-allows}

-- a choice of a fault or none, where it is none
chosen-none : {A : Type 0} (b : Bool) (fault : A) → cond b None (Some fault) ≡ None → b ≡ true
chosen-none true fault e = refl
chosen-none false fault e = cc

first-none : {A : Type 0} (b : Bool) (o : Option A) (fault : A) → cond b o (Some fault) ≡ None → o ≡ None
first-none true o fault e = e
first-none false o fault e = cc

both-none : {A : Type 0} (o p : Option A) → option_or o p ≡ None → (o ≡ None) × (p ≡ None)
both-none None p e = (refl, e)
both-none (Some x) p e = cc

below-cons : {X : Type 0} (p : X → Bool) (x : X) (xs : List X) (b : Bool) → p x ≡ b → list_any p (x ∷ xs) ≡ true
    → (list_any p xs ≡ true → position_or_len p xs < length xs) → position_or_len p (x ∷ xs) < length (x ∷ xs)
below-cons p x xs true is e more = rw is (omega arith)
below-cons p x xs false is e more = let rest = more (rw is at e) in rw is (omega (arith, rest))

position-below : {X : Type 0} (p : X → Bool) (xs : List X) → list_any p xs ≡ true → position_or_len p xs < length xs
position-below p [] e = cc
position-below p (x ∷ xs) e = below-cons p x xs (p x) refl e (λ h. position-below p xs h)

allows-value : (values : Values) (n : ℕ) (value : List ℕ) → value_fault values n value ≡ None → allows values (number_of values value) ≡ true
allows-value (number low high) n value none =
    chosen-none (is_within low high (digits_value 10 value)) _ (first-none (is_number value) _ _ none)
allows-value (power low high) n value none =
    let x = digits_value 10 value in
    let (range, two) = both-none (range_fault low high n x) (power_fault n x) (first-none (is_number value) _ _ none) in
    rw (chosen-none (is_within low high x) _ range) (chosen-none (is_power_of_two x) _ two)
allows-value (word words) n value none =
    lt-ltb _ _ (position-below (bytes_eq value) words (chosen-none (list_any (bytes_eq value) words) _ none))

-- a value without a fault means a number that is allowed
pub Allows-value : (values : Values) (n : ℕ) (value : List ℕ) → value_fault values n value ≡ None → Allows values (number_of values value)
Allows-value values n value none = Allows-allows values (number_of values value) (allows-value values n value none)

pub value_fault-same : (v w : Values) (m n : ℕ) (xs ys : List ℕ) → v ≡ w → m ≡ n → xs ≡ ys → value_fault v m xs ≡ value_fault w n ys
value_fault-same v w m n xs ys values line value = rw (values, line, value) refl

pub number_of-same : (v w : Values) (xs ys : List ℕ) → v ≡ w → xs ≡ ys → number_of v xs ≡ number_of w ys
number_of-same v w xs ys values value = rw (values, value) refl
