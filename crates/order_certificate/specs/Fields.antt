-- Reading a text from its front. Each function gives what it has read and what is left, where its field stands there.
use Rattle.std.specs.Prelude.{◌≡◌, ◌≤◌, IsSome, ℕ, zero, suc, ◌+◌, ◌-◌, ◌*◌, ◌==◌, nat_lt, nat_le, Bool, ◌&&◌, if◌then◌else◌, List, [], ◌∷◌, ◌++◌, codes, length, take, drop, Option, Some, None, option_and_then, option_map}
use Rattle.std.specs.List.{All, flat_map, list_any}
use Rattle.std.specs.Option.{option_or}
use Rattle.rsim_base.specs.Accesses.{loads, stores}
use Rattle.rsim_base.specs.Bytes.{count_of}
use Rattle.rsim_base.specs.declared.memory.Access.{Access}
use Rattle.rsim_base.specs.declared.memory.Kind.{Kind}
use Rattle.rsim_base.specs.declared.memory.Kind.TheVariants.{Load, Store, Atomic}
use Rattle.rsim_base.specs.declared.memory.Model.{Model}
use Rattle.rsim_base.specs.declared.memory.Model.TheVariants.{Sc, Pc, Rc}
use Rattle.rsim_base.specs.declared.memory.Size.{Size}
use Rattle.rsim_base.specs.declared.memory.Size.TheVariants.{B1, B2, B4, B8}
use Rattle.order_certificate.specs.declared.fault.TextFault.{TextFault}
use Rattle.order_certificate.specs.declared.fault.TextFault.TheVariants.{BadLine, Truncated}
use Rattle.order_certificate.specs.Certificate.{IsInText}
use Rattle.rsim_base.specs.Limits.{max_processors, max_steps}
use Rattle.order_certificate.specs.OrderText.{heading, line}

infixl 10 ◌>>=◌
abbrev pub ◌>>=◌ : {A B : Type 0} → Option A → (A → Option B) → Option B
o >>= f = option_and_then f o

-- what stands behind a word
unfoldable pub after : List ℕ → List ℕ → Option (List ℕ)
after [] text = Some text
after (w ∷ word) [] = None
after (w ∷ word) (b ∷ text) = if b == w then after word text else None

-- a field, and the byte that stands behind it
abbrev pub then_byte : {A : Type 0} → ℕ → Option (A × List ℕ) → Option (A × List ℕ)
then_byte behind field = field >>= λ x. after (behind ∷ []) x.1 >>= λ rest. Some (x.0, rest)

-- ---- decimals

-- a digit, '0' to '9'
unfoldable pub digit_at : List ℕ → Option (ℕ × List ℕ)
digit_at [] = None
digit_at (b ∷ text) = if nat_le 48 b && nat_le b 57 then Some (b - 48, text) else None

-- a number below the limit, with one more digit
unfoldable pub with_digit : ℕ → ℕ → List ℕ → Option (ℕ × List ℕ)
with_digit limit number text = if nat_lt number limit then (digit_at text >>= λ x. Some (10 * number + x.0, x.1)) else None

-- a number with all the digits that follow; of one that has come to the limit the rest may be left
unfoldable pub with_digits : ℕ → ℕ → List ℕ → ℕ × List ℕ
with_digits limit number [] = (number, [])
with_digits limit number (b ∷ text) =
    if nat_lt number limit && (nat_le 48 b && nat_le b 57) then with_digits limit (10 * number + (b - 48)) text else (number, b ∷ text)

-- 0 alone, or the digits of another number
unfoldable pub digits_at : ℕ → List ℕ → Option (ℕ × List ℕ)
digits_at limit text = digit_at text >>= λ first. Some (if first.0 == 0 then first else with_digits limit first.0 first.1)

-- a number below the limit
unfoldable pub decimal_at : ℕ → List ℕ → Option (ℕ × List ℕ)
decimal_at limit text = digits_at limit text >>= λ x. if nat_lt x.0 limit then Some x else None

-- such a number, and a byte behind it
unfoldable pub decimal_then : ℕ → ℕ → List ℕ → Option (ℕ × List ℕ)
decimal_then limit behind text = then_byte behind (decimal_at limit text)

-- ---- hexadecimals

-- '0' to '9', or 'a' to 'f'
abbrev pub hex_digit : ℕ → Option ℕ
hex_digit b =
    if nat_le 48 b && nat_le b 57 then Some (b - 48)
    else if nat_le 97 b && nat_le b 102 then Some (b - 87)
    else None

-- a number with these digits behind its own
unfoldable pub hex_from : ℕ → List ℕ → Option ℕ
hex_from number [] = Some number
hex_from number (b ∷ digits) = hex_digit b >>= λ d. hex_from (16 * number + d) digits

-- a number of so many digits, and a byte behind it
unfoldable pub hex_then : ℕ → ℕ → List ℕ → Option (ℕ × List ℕ)
hex_then width behind text =
    if nat_lt (length text) width then None
    else (hex_from 0 (take width text) >>= λ number. after (behind ∷ []) (drop width text) >>= λ rest. Some (number, rest))

-- a value, or the dash of one that is not there, and a byte behind it
unfoldable pub value_then : Bool → Size → ℕ → List ℕ → Option (ℕ × List ℕ)
value_then has size behind text =
    if has then hex_then (2 * count_of size) behind text else (after (codes "-" ++ behind ∷ []) text >>= λ rest. Some (0, rest))

-- ---- letters

-- a byte that means a value, and the byte behind it
unfoldable pub letter_then : {A : Type 0} → (ℕ → Option A) → ℕ → List ℕ → Option (A × List ℕ)
letter_then of behind [] = None
letter_then of behind (b ∷ text) = of b >>= λ a. after (behind ∷ []) text >>= λ rest. Some (a, rest)

-- 'L', 'S' or 'A'
abbrev pub kind_of : ℕ → Option Kind
kind_of b = if b == 76 then Some Load else if b == 83 then Some Store else if b == 65 then Some Atomic else None

-- '1', '2', '4' or '8'
abbrev pub size_of : ℕ → Option Size
size_of b = if b == 49 then Some B1 else if b == 50 then Some B2 else if b == 52 then Some B4 else if b == 56 then Some B8 else None

-- ---- lines

-- a model's name, and the line feed
abbrev pub model_in : List ℕ → Option (Model × List ℕ)
model_in text =
    option_or (option_map (λ rest. (Sc, rest)) (after (codes "sc\n") text))
    (option_or (option_map (λ rest. (Pc, rest)) (after (codes "pc\n") text))
    (option_map (λ rest. (Rc, rest)) (after (codes "rc\n") text)))

-- the line of the model
unfoldable pub model_at : List ℕ → Option (Model × List ℕ)
model_at text = after (codes "model ") text >>= λ rest. model_in rest

-- the line of the number of processors
unfoldable pub processors_at : List ℕ → Option (ℕ × List ℕ)
processors_at text = after (codes "processors ") text >>= λ rest. decimal_then (max_processors + 1) 10 rest >>= λ x. if x.0 == 0 then None else Some x

-- the line of an access
unfoldable pub access_at : List ℕ → Option (Access × List ℕ)
access_at text = do
  node ← decimal_then 256 32 text
  index ← decimal_then max_steps 32 node.1
  kind ← letter_then kind_of 32 index.1
  size ← letter_then size_of 32 kind.1
  addr ← hex_then 16 32 size.1
  loaded ← value_then (loads kind.0) size.0 32 addr.1
  stored ← value_then (stores kind.0) size.0 10 loaded.1
  Some (record { node = record { 0 = node.0 }; kind = kind.0; size = size.0; index = index.0; addr = record { 0 = addr.0 }; loaded = loaded.0; stored = stored.0 }, stored.1)

-- a blank and a count
unfoldable pub count_at : List ℕ → Option (ℕ × List ℕ)
count_at text = after (codes " ") text >>= λ rest. decimal_at (max_steps + 1) rest

-- so many counts more, and the end of the line
unfoldable pub counts_from : ℕ → List ℕ → List ℕ → Option (List ℕ × List ℕ)
counts_from zero counts text = after (codes "\n") text >>= λ rest. Some (counts, rest)
counts_from (suc n) counts text = count_at text >>= λ x. counts_from n (counts ++ x.0 ∷ []) x.1

-- the end line of n processors
unfoldable pub ending_at : ℕ → List ℕ → Option (List ℕ × List ℕ)
ending_at n text = after (codes "end") text >>= λ rest. counts_from n [] rest

-- ---- faults

-- of a text that begins with no good line, the first of it line k
abbrev pub fault_at : ℕ → List ℕ → TextFault
fault_at k text = if list_any (λ b. b == 10) text then BadLine k else Truncated

-- a text begins with the heading of so many processors
pub record HasHeading (text : List ℕ) (m : Model) (n : ℕ) (rest : List ℕ) : Type 0 where
  pub is : text ≡ heading m n ++ rest
  pub some : 1 ≤ n
  pub most : n ≤ max_processors

-- a text begins with the lines of these accesses
pub record HasLines (text : List ℕ) (lines : List Access) (rest : List ℕ) : Type 0 where
  pub is : text ≡ flat_map line lines ++ rest
  pub in_text : All IsInText lines
  pub few : length lines ≤ max_steps

-- a text begins with the lines of as many accesses as there may be, and then with one more
pub record IsOverfull (text : List ℕ) : Type 0 where
  pub lines : List Access
  pub rest : List ℕ
  pub has : HasLines text lines rest
  pub full : max_steps ≤ length lines
  pub next : IsSome (access_at rest)
