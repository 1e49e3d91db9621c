-- What a text is read as, line by line.
use Rattle.std.specs.Prelude.{◌≡◌, ℕ, ◌+◌, ◌<◌, ◌≤◌, ◌==◌, nat_lt, Bool, true, false, if◌then◌else◌, ◌⊎◌, List, [], ◌∷◌, ◌++◌, length, sum, codes, decimal, Result, Ok, Err}
use Rattle.std.specs.List.{slice_split}
use Rattle.rsim_base.specs.declared.memory.Access.{Access}
use Rattle.rsim_base.specs.declared.memory.Model.{Model}
use Rattle.order_certificate.specs.declared.fault.TextFault.{TextFault}
use Rattle.order_certificate.specs.declared.fault.TextFault.TheVariants.{BadLine, Truncated, TooMany, Memory}
use Rattle.order_certificate.specs.Certificate.{CertificateView, IsInText}
use Rattle.rsim_base.specs.Limits.{max_processors, max_steps}
use Rattle.order_certificate.specs.OrderText.{model_name, line, ending}

-- A text is cut at its line feeds. All pieces but the last are whole lines.
abbrev pub pieces : List ℕ → List (List ℕ)
pieces text = slice_split (λ b. b == 10) text

-- ---- the kinds of lines, without their line feeds

abbrev pub IsVersion : List ℕ → Type 0
IsVersion piece = piece ≡ codes "rsim order 1"

abbrev pub IsModel : List ℕ → Model → Type 0
IsModel piece m = piece ≡ codes "model " ++ model_name m

abbrev pub IsProcessors : List ℕ → ℕ → Type 0
IsProcessors piece n = (piece ≡ codes "processors " ++ decimal n) × (1 ≤ n) × (n ≤ max_processors)

abbrev pub IsAccess : List ℕ → Access → Type 0
IsAccess piece e = (piece ++ codes "\n" ≡ line e) × IsInText e

abbrev pub AreCounts : List ℕ → Type 0
AreCounts [] = Unit {0}
AreCounts (k ∷ ks) = (k ≤ max_steps) × AreCounts ks

-- the end line of n processors
abbrev pub IsEnding : ℕ → List ℕ → List ℕ → Type 0
IsEnding n piece counts = (piece ++ codes "\n" ≡ ending counts) × (length counts ≡ n) × AreCounts counts

-- ---- what a text is read as

-- nothing is left behind the last line feed
abbrev pub is_all : List (List ℕ) → Bool
is_all ([] ∷ []) = true
is_all _ = false

-- what a text with these counts in its end line is read as, where all is well this order; after the line come these
-- pieces, the first of them line k
abbrev pub ended : {C : Type 0} → List ℕ → C → ℕ → List (List ℕ) → Result C TextFault
ended counts order k left =
    if nat_lt max_steps (sum counts) then Err TooMany
    else if is_all left then Ok order
    else Err (BadLine k)

-- What a text of n processors is read as, of which these entries are read; the pieces left come from line k on. An entry
-- and its line are as `IsEntry` says, and the order has its entries and its counts.
abbrev pub IsBody : {A C : Type 0} → (List ℕ → A → Type 0) → (List A → List ℕ → C) → ℕ → List A → ℕ → List (List ℕ) → Result C TextFault → Type 0
IsBody IsEntry order n entries k [] r = ⊥
IsBody IsEntry order n entries k (piece ∷ []) r = r ≡ Err Truncated
IsBody {A} IsEntry order n entries k (piece ∷ next ∷ more) r =
    ((e : A) × IsEntry piece e × (length entries < max_steps) × IsBody IsEntry order n (entries ++ e ∷ []) (k + 1) (next ∷ more) r)
    ⊎ (((e : A) × IsEntry piece e × (max_steps ≤ length entries) × (r ≡ Err TooMany))
    ⊎ (((counts : List ℕ) × IsEnding n piece counts × (r ≡ ended counts (order entries counts) (k + 1) (next ∷ more)))
    ⊎ (((e : A) → IsEntry piece e → ⊥) × ((counts : List ℕ) → IsEnding n piece counts → ⊥) × (r ≡ Err (BadLine k)))))

-- line k of the heading, which tells a value, and then the rest
abbrev pub IsHeading : {A C : Type 0} → (List ℕ → A → Type 0) → ℕ → (A → List (List ℕ) → Type 0) → List (List ℕ) → Result C TextFault → Type 0
IsHeading Is k Then [] r = ⊥
IsHeading Is k Then (piece ∷ []) r = r ≡ Err Truncated
IsHeading {A} Is k Then (piece ∷ next ∷ more) r =
    ((a : A) × Is piece a × Then a (next ∷ more)) ⊎ (((a : A) → Is piece a → ⊥) × (r ≡ Err (BadLine k)))

-- the order of n processors under a model
abbrev pub order_of : Model → ℕ → List Access → List ℕ → CertificateView
order_of m n lines counts = record { model = m; processors = n; lines = lines; counts = counts }

-- what stands behind the heading: an access on each line, and the end line
abbrev pub IsOrder : Model → ℕ → List (List ℕ) → Result CertificateView TextFault → Type 0
IsOrder m n left r = IsBody IsAccess (order_of m n) n [] 4 left r

abbrev pub IsRead : List ℕ → Result CertificateView TextFault → Type 0
IsRead text r =
    IsHeading {A = Unit {0}} (λ piece a. IsVersion piece) 1
    (λ a left. IsHeading IsModel 2 (λ m left. IsHeading IsProcessors 3 (λ n left. IsOrder m n left r) left r) left r) (pieces text) r

-- the result is so, unless memory could not be had
abbrev pub Reads : {C : Type 0} → (Result C TextFault → Type 0) → Result C TextFault → Type 0
Reads P (Err Memory) = Unit {0}
Reads P r = P r
