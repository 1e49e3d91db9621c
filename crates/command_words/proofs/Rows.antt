-- What is held for the names and the seeds that were read, whatever their order.
use Rattle.std.proofs.Common.{◌≡◌, ◌≢◌, ◌∙◌, ◌<◌, ℕ, zero, suc, Bool, true, false, true≢false, refl, sym, ap, arith, List, [], ◌∷◌, ◌++◌, length, Option, Some, None, cond, append-nil}
use Rattle.std.specs.Prelude.{slice_get, find, is_some}
use Rattle.std.specs.Str.{bytes_eq}
use Rattle.std.proofs.lemmas.Bool.{cases_Bool}
use Rattle.std.proofs.lemmas.Slice.Eq.{bytes_eq-Decides}
use Rattle.std.proofs.Common.{inl, inr}
use Rattle.clap.specs.Walk.{Row, Rule, arg_by_id, at_row, has_row, more_values, reading_by, used}
use Rattle.clap.specs.declared.builder.action.ArgAction.TheVariants.{Set}
use Rattle.clap.specs.declared.builder.value_parser.ValueParser.TheVariants as vp
use Rattle.clap.specs.declared.parser.matches.ValueSource.TheVariants.{CommandLine}
use Rattle.command_words.specs.Words.{Text}

-- an argument of one value, which may be any text
pub record IsValueRule (rules : List Rule) (a : Rule) : Type 0 where
  pub by_id : arg_by_id rules a.id ≡ Some a
  pub action : a.action ≡ Some Set
  pub range : a.range ≡ Some (record { start_inclusive = 1; end_inclusive = 1 })
  pub parser : a.parser ≡ Some vp.String
  pub trailing : a.trailing_var_arg ≡ false

-- the row of an argument that was given a value
abbrev pub value_row : Rule → Text → Row
value_row a v = record { id = a.id; values = v ∷ []; count = None; source = Some CommandLine; reading = reading_by a }

abbrev pub row_at : Text → List Row → Option Row
row_at id rows = find (λ r. bytes_eq r.id id) rows

pub same : (id : Text) → bytes_eq id id ≡ true
same id = (bytes_eq-Decides id id).1 refl

-- ---- one more row

-- the first of two rows is not the one that is sought
none_of : (b : Bool) (r : Row) (o : Option Row) → cond b (Some r) o ≡ None → (b ≡ false) × (o ≡ None)
none_of true r o e = absurd (true≢false (ap is_some e))
none_of false r o e = (refl, e)

pub has_row-none : (id : Text) (rows : List Row) → row_at id rows ≡ None → has_row id rows ≡ false
has_row-none id [] e = refl
has_row-none id (r ∷ rs) e =
    let parts = none_of (bytes_eq r.id id) r (row_at id rs) e in
    rw (parts.0) (has_row-none id rs parts.1)

some_of : (b : Bool) (x r : Row) (o : Option Row) → cond b (Some x) o ≡ Some r → b ≡ false → o ≡ Some r
some_of b x r o e f = rw f at e

pub has_row-some : (id : Text) (rows : List Row) (r : Row) → row_at id rows ≡ Some r → has_row id rows ≡ true
has_row-some id [] r e = absurd (true≢false (ap is_some (sym e)))
has_row-some id (x ∷ xs) r e = elim (cases_Bool (bytes_eq x.id id)) [
  | inl t ↦ rw t refl
  | inr f ↦ rw f (has_row-some id xs r (some_of (bytes_eq x.id id) x r (row_at id xs) e f))
]

at_row-none : (id : Text) (change : Row → List Row) (missing rows : List Row) → row_at id rows ≡ None → at_row id change missing rows ≡ rows ++ missing
at_row-none id change missing [] e = refl
at_row-none id change missing (r ∷ rs) e =
    let parts = none_of (bytes_eq r.id id) r (row_at id rs) e in
    rw (parts.0) (ap (λ xs. r ∷ xs) (at_row-none id change missing rs parts.1))

pub used-new : (rules : List Rule) (a : Rule) (v : Text) (rows : List Row) → IsValueRule rules a → row_at a.id rows ≡ None → used a (v ∷ []) rows ≡ rows ++ value_row a v ∷ []
used-new rules a v rows rule e =
    let without : at_row a.id (λ _. []) [] rows ≡ rows = at_row-none a.id (λ _. []) [] rows e ∙ append-nil rows in
    rw (rule.action, without) (at_row-none a.id (more_values CommandLine (v ∷ [])) (value_row a v ∷ []) rows e)

pub row_at-push : (r : Row) (rows : List Row) → row_at r.id rows ≡ None → row_at r.id (rows ++ r ∷ []) ≡ Some r
row_at-push r [] e = rw (same r.id) refl
row_at-push r (x ∷ xs) e =
    let parts = none_of (bytes_eq x.id r.id) x (row_at r.id xs) e in
    rw (parts.0) (row_at-push r xs parts.1)

pub row_at-push-other : (id : Text) (r : Row) (rows : List Row) → bytes_eq r.id id ≡ false → row_at id (rows ++ r ∷ []) ≡ row_at id rows
row_at-push-other id r [] e = rw e refl
row_at-push-other id r (x ∷ xs) e = ap (λ o. cond (bytes_eq x.id id) (Some x) o) (row_at-push-other id r xs e)

-- one more element of a list
pub slice_get-push : {X : Type 0} (xs : List X) (x : X) → slice_get (xs ++ x ∷ []) (length xs) ≡ Some x
slice_get-push [] x = refl
slice_get-push (y ∷ ys) x = slice_get-push ys x

pub slice_get-push-other : {X : Type 0} (xs : List X) (x : X) (k : ℕ) → k ≢ length xs → slice_get (xs ++ x ∷ []) k ≡ slice_get xs k
slice_get-push-other [] x zero differs = absurd (differs refl)
slice_get-push-other [] x (suc k) differs = refl
slice_get-push-other (y ∷ ys) x zero differs = refl
slice_get-push-other (y ∷ ys) x (suc k) differs = slice_get-push-other ys x k (λ e. differs (ap suc e))

pub slice_get-past : {X : Type 0} (xs : List X) → slice_get xs (length xs) ≡ None
slice_get-past [] = refl
slice_get-past (y ∷ ys) = slice_get-past ys

pub slice_get-within : {X : Type 0} (xs : List X) (k : ℕ) (x : X) → slice_get xs k ≡ Some x → k < length xs
slice_get-within [] k x e = absurd (true≢false (ap is_some (sym e)))
slice_get-within (y ∷ ys) zero x e = omega arith
slice_get-within (y ∷ ys) (suc k) x e = let rest = slice_get-within ys k x e in omega arith
