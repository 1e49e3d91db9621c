-- One more line: its fault, and what the lines give then.
use Rattle.std.specs.Prelude.{find, position, option_map, unwrap_or}
use Rattle.std.specs.List.{list_any}
use Rattle.std.specs.Option.{option_or}
use Rattle.std.proofs.Common.{◌≡◌, ℕ, suc, ◌+◌, ◌<◌, ◌==◌, Bool, true, false, ◌||◌, List, [], ◌∷◌, ◌++◌, map, length, drop, get_or, set, Option, Some, None, refl, sym, ap, ◌∙◌, arith, append_assoc, append-nil}
use Rattle.std.proofs.Math.ListN.{drop_of_length-le}
use Rattle.std.proofs.Math.Seq.{drop-cons}
use Rattle.std.proofs.Math.Bool.{or-false}
use Rattle.std.proofs.lemmas.Bool.{eqb-true}
use Rattle.std.proofs.lemmas.List.{get_or-map, length-append}
use Rattle.std.proofs.lemmas.List.Folds.{find-append}
use Rattle.std.proofs.lemmas.List.Quantifiers.{position-Some}
use Rattle.std.proofs.lemmas.List.Recursion.{or_push}
use Rattle.std.proofs.lemmas.Slice.Eq.{bytes_eq-Decides}
use Rattle.machine_config.specs.Text.{lines, key_of, value_of}
use Rattle.machine_config.specs.Keys.{Key, keys, processors}
use Rattle.machine_config.specs.Allowed.{Allows}
use Rattle.machine_config.specs.Faults.{names, value_fault, named_fault, line_fault, lines_fault, number_of, given_by}
use Rattle.machine_config.specs.Reading.{HasRead}
use Rattle.machine_config.specs.declared.fault.ConfigFault.{ConfigFault}
use Rattle.machine_config.specs.declared.fault.ConfigFault.TheVariants.{UnknownName, Repeated}
use Rattle.machine_config.specs.declared.reader.Given.{Given}
use Rattle.machine_config.proofs.Places.{find-Some, find-None, find-none}
use Rattle.machine_config.proofs.Table.{is_named, keys-distinct, length-keys, map-set, map-unnamed}
use Rattle.machine_config.proofs.Numbers.{AreAllowed-set}

-- ---- what lines name, with one more

-- whether one of these lines names the key
abbrev pub is_given : List (List ℕ) → Key → Bool
is_given earlier key = list_any (names key) earlier

is_given-more : (earlier : List (List ℕ)) (line : List ℕ) (key : Key) → is_given (earlier ++ line ∷ []) key ≡ (is_given earlier key || names key line)
is_given-more earlier line key = or_push (list_any (names key)) (names key) refl (λ _ _. refl) earlier line

is_given-other : (earlier : List (List ℕ)) (line : List ℕ) (key : Key) → names key line ≡ false → is_given (earlier ++ line ∷ []) key ≡ is_given earlier key
is_given-other earlier line key other = is_given-more earlier line key ∙ rw other (or-false (is_given earlier key))

or-true : (b : Bool) → (b || true) ≡ true
or-true true = refl
or-true false = refl

is_given-here : (earlier : List (List ℕ)) (line : List ℕ) (key : Key) → names key line ≡ true → is_given (earlier ++ line ∷ []) key ≡ true
is_given-here earlier line key here = is_given-more earlier line key ∙ rw here (or-true (is_given earlier key))

option_or-None : {X : Type 0} (o : Option X) → option_or o None ≡ o
option_or-None None = refl
option_or-None (Some x) = refl

given_by-other : (earlier : List (List ℕ)) (line : List ℕ) (key : Key) → names key line ≡ false → given_by (earlier ++ line ∷ []) key ≡ given_by earlier key
given_by-other earlier line key other =
    let same : find (names key) (earlier ++ line ∷ []) ≡ find (names key) earlier =
    find-append (names key) earlier (line ∷ []) ∙ rw other (option_or-None (find (names key) earlier)) in
    ap (λ o. unwrap_or (option_map (λ l. number_of key.values (value_of l)) o) key.default) same

given_by-here : (earlier : List (List ℕ)) (line : List ℕ) (key : Key) → names key line ≡ true → is_given earlier key ≡ false
    → given_by (earlier ++ line ∷ []) key ≡ number_of key.values (value_of line)
given_by-here earlier line key here first =
    let found : find (names key) (earlier ++ line ∷ []) ≡ Some line =
    find-append (names key) earlier (line ∷ []) ∙ rw (find-none (names key) earlier first, here) refl in
    ap (λ o. unwrap_or (option_map (λ l. number_of key.values (value_of l)) o) key.default) found

-- ---- the fault of a line

pub line_fault-empty : (earlier : List (List ℕ)) (line : List ℕ) → key_of line ≡ [] → line_fault earlier line ≡ None
line_fault-empty earlier line empty = rw empty refl

line_fault-named : (earlier : List (List ℕ)) (line : List ℕ) (found : Option Key) → (length (key_of line) == 0) ≡ false
    → find (λ key. names key line) keys ≡ found → line_fault earlier line ≡ named_fault found earlier line
line_fault-named earlier line found some at = rw (some, at) refl

pub line_fault-unknown : (earlier : List (List ℕ)) (line : List ℕ) → (length (key_of line) == 0) ≡ false
    → position (is_named (key_of line)) keys ≡ None → line_fault earlier line ≡ Some (UnknownName (length earlier + 1))
line_fault-unknown earlier line some none =
    line_fault-named earlier line None some (find-None (is_named (key_of line)) keys processors none)

pub line_fault-repeated : (earlier : List (List ℕ)) (line : List ℕ) (k : ℕ) → (length (key_of line) == 0) ≡ false
    → position (is_named (key_of line)) keys ≡ Some k → is_given earlier (get_or keys k processors) ≡ true
    → line_fault earlier line ≡ Some (Repeated (length earlier + 1))
line_fault-repeated earlier line k some at again =
    line_fault-named earlier line _ some (find-Some (is_named (key_of line)) keys k processors at) ∙ rw again refl

pub line_fault-value : (earlier : List (List ℕ)) (line : List ℕ) (k : ℕ) → (length (key_of line) == 0) ≡ false
    → position (is_named (key_of line)) keys ≡ Some k → is_given earlier (get_or keys k processors) ≡ false
    → line_fault earlier line ≡ value_fault (get_or keys k processors).values (length earlier + 1) (value_of line)
line_fault-value earlier line k some at first =
    line_fault-named earlier line _ some (find-Some (is_named (key_of line)) keys k processors at) ∙ rw first refl

-- ---- what has been read

-- whether the key at a place has been named
pub named-at : (earlier : List (List ℕ)) (given : Given) (k : ℕ) (d : Bool) → HasRead earlier given → k < 33
    → get_or given.named k d ≡ is_given earlier (get_or keys k processors)
named-at earlier given k d read below =
    let low : k < length keys = omega (arith, length-keys) in
    ap (λ named. get_or named k d) read.named ∙ get_or-map (is_given earlier) keys k processors d low

pub HasRead-empty : (earlier : List (List ℕ)) (line : List ℕ) (given : Given) → HasRead earlier given → key_of line ≡ []
    → HasRead (earlier ++ line ∷ []) (record given { lines = given.lines + 1 })
HasRead-empty earlier line given read empty =
    let other : (key : Key) → is_named [] key ≡ false → names key line ≡ false = λ key unnamed. rw empty unnamed in record {
      lines = omega (arith, read.lines, length-append earlier (line ∷ []));
      named = read.named ∙ sym (map-unnamed (is_given earlier) (is_given (earlier ++ line ∷ [])) (λ key unnamed. is_given-other earlier line key (other key unnamed)));
      numbers = read.numbers ∙ sym (map-unnamed (given_by earlier) (given_by (earlier ++ line ∷ [])) (λ key unnamed. given_by-other earlier line key (other key unnamed)));
      allowed = read.allowed;
    }

pub HasRead-value : (earlier : List (List ℕ)) (line : List ℕ) (given : Given) (k x : ℕ) → HasRead earlier given
    → position (is_named (key_of line)) keys ≡ Some k → is_given earlier (get_or keys k processors) ≡ false
    → x ≡ number_of (get_or keys k processors).values (value_of line) → Allows (get_or keys k processors).values x
    → HasRead (earlier ++ line ∷ []) (record { lines = given.lines + 1; named = set given.named k true; numbers = set given.numbers k x })
HasRead-value earlier line given k x read at first is allowed =
    let key = get_or keys k processors in
    let (below, here, _) = position-Some (is_named (key_of line)) keys k processors at in
    let name : key.name ≡ key_of line = (bytes_eq-Decides key.name (key_of line)).0 here in
    let same : is_given (earlier ++ line ∷ []) key ≡ true = is_given-here earlier line key here in
    let number : given_by (earlier ++ line ∷ []) key ≡ x = given_by-here earlier line key here first ∙ sym is in record {
      lines = omega (arith, read.lines, length-append earlier (line ∷ []));
      named = ap (λ named. set named k true) read.named ∙ sym
          (map-set (is_given earlier) (is_given (earlier ++ line ∷ [])) (key_of line) keys k processors keys-distinct below name (λ key other. is_given-other earlier line key other)
          ∙ ap (λ b. set (map (is_given earlier) keys) k b) same);
      numbers = ap (λ numbers. set numbers k x) read.numbers ∙ sym
          (map-set (given_by earlier) (given_by (earlier ++ line ∷ [])) (key_of line) keys k processors keys-distinct below name (λ key other. given_by-other earlier line key other)
          ∙ ap (λ n. set (map (given_by earlier) keys) k n) number);
      allowed = AreAllowed-set keys given.numbers k x processors read.allowed allowed;
    }

-- ---- what the code asks of a key

no_length : (xs : List ℕ) → (length xs == 0) ≡ true → xs ≡ []
no_length [] e = refl
no_length (x ∷ xs) e = let none = eqb-true _ _ e in absurd (omega (arith, none))

pub key-empty : (name key : List ℕ) (r : Bool) → name ≡ key → r ≡ (length name == 0) → r ≡ true → key ≡ []
key-empty name key r same empty is = no_length key (ap (λ xs. length xs == 0) (sym same) ∙ sym empty ∙ is)

pub key-some : (name key : List ℕ) (r : Bool) → name ≡ key → r ≡ (length name == 0) → r ≡ false → (length key == 0) ≡ false
key-some name key r same empty is = ap (λ xs. length xs == 0) (sym same) ∙ sym empty ∙ is

pub key-place : (name key : List ℕ) (r o : Option ℕ) → name ≡ key → r ≡ position (is_named name) keys → r ≡ o → position (is_named key) keys ≡ o
key-place name key r o same place is = ap (λ xs. position (is_named xs) keys) (sym same) ∙ sym place ∙ is

-- ---- all lines

-- a text of which these lines have been read, and the rest is left
pub record IsReading (text : List ℕ) (left : List (List ℕ)) (given : Given) : Type 0 where
  pub earlier : List (List ℕ)
  pub parts : lines text ≡ earlier ++ left
  pub fault : lines_fault [] (lines text) ≡ lines_fault earlier left
  pub read : HasRead earlier given

-- the line at a place is the first of those that are left there
left-at : (all : List (List ℕ)) (n m : ℕ) (line : List ℕ) → n < length all → line ≡ get_or all n line → m ≡ n + 1 → drop n all ≡ line ∷ drop m all
left-at all n m line below is next =
    let place : m ≡ suc n = omega arith in drop-cons all n line below ∙ rw (← is, place) refl

pub IsReading-more : (text line : List ℕ) (n m : ℕ) (old new : Given) (reading : IsReading text (drop n (lines text)) old)
    → n < length (lines text) → line ≡ get_or (lines text) n line → m ≡ n + 1
    → line_fault reading.earlier line ≡ None → HasRead (reading.earlier ++ line ∷ []) new → IsReading text (drop m (lines text)) new
IsReading-more text line n m old new reading below is next fine read =
    let left = left-at (lines text) n m line below is next in record {
      earlier = reading.earlier ++ line ∷ [];
      parts = reading.parts ∙ rw (left, append_assoc) refl;
      fault = reading.fault ∙ rw (left, fine) refl;
      read = read;
    }

pub IsReading-fault : (text line : List ℕ) (n : ℕ) (given : Given) (fault : ConfigFault) (reading : IsReading text (drop n (lines text)) given)
    → n < length (lines text) → line ≡ get_or (lines text) n line
    → line_fault reading.earlier line ≡ Some fault → lines_fault [] (lines text) ≡ Some fault
IsReading-fault text line n given fault reading below is faulty =
    let left = left-at (lines text) n (n + 1) line below is refl in reading.fault ∙ rw (left, faulty) refl

pub IsReading-all : (text : List ℕ) (n : ℕ) (given : Given) → IsReading text (drop n (lines text)) given → n ≡ length (lines text)
    → (lines_fault [] (lines text) ≡ None) × HasRead (lines text) given
IsReading-all text n given reading whole =
    let none : drop n (lines text) ≡ [] = drop_of_length-le (lines text) (omega arith) in
    let all : lines text ≡ reading.earlier = reading.parts ∙ rw none (append-nil reading.earlier) in
    (reading.fault ∙ rw none refl, rw all reading.read)
