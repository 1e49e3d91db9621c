-- What is said by a word of each kind and the words after it.
use Rattle.std.proofs.Common.{◌≡◌, ◌&&◌, ◌++◌, ◌≤◌, ◌<◌, refl, arith, ℕ, true, false, List, [], ◌∷◌, length, drop, Option, Some, None, append-nil, append_assoc}
use Rattle.std.specs.Prelude.{nat_le, if◌then◌else◌}
use Rattle.std.proofs.lemmas.Bool.{and_right}
use Rattle.std.proofs.lemmas.Bool.Decides.{nat_tests}
use Rattle.std.proofs.lemmas.List.{length-append}
use Rattle.command_words.specs.Words.{Text, Said, said, only_names, with_name, with_seed, is_option}
use Rattle.command_words.proofs.Lex.{IsDashes, IsBare, IsValued, IsOther, IsShort, IsName}

pub said-dashes : (word : Text) (rest : List Text) → IsDashes word → said (word ∷ rest) ≡ only_names rest
unfolding said
said-dashes word [] d = rw (d.dashes) refl
said-dashes word (next ∷ rest) d = rw (d.dashes) refl

pub said-valued : (word : Text) (rest : List Text) → IsValued word → said (word ∷ rest) ≡ with_seed (drop 11 word) (said rest)
unfolding said
said-valued word [] v = rw (v.dashes, v.value) refl
said-valued word (next ∷ rest) v = rw (v.dashes, v.generate, v.value) refl

pub said-other : (word : Text) (rest : List Text) → IsOther word → said (word ∷ rest) ≡ None
unfolding said
said-other word [] o = rw (o.dashes, o.value, o.option) refl
said-other word (next ∷ rest) o = rw (o.dashes, o.generate, o.value, o.option) refl

pub said-short : (word : Text) (rest : List Text) → IsShort word → said (word ∷ rest) ≡ None
unfolding said
said-short word [] o = rw (o.dashes, o.value, o.option) refl
said-short word (next ∷ rest) o = rw (o.dashes, o.generate, o.value, o.option) refl

pub said-name : (word : Text) (rest : List Text) → IsName word → said (word ∷ rest) ≡ with_name word (said rest)
unfolding said
said-name word [] n = rw (n.dashes, n.value, n.option) refl
said-name word (next ∷ rest) n = rw (n.dashes, n.generate, n.value, n.option) refl

pub said-bare_last : (word : Text) → IsBare word → said (word ∷ []) ≡ None
unfolding said
said-bare_last word b = rw (b.dashes, b.value, b.option) refl

pub said-bare_option : (word next : Text) (rest : List Text) → IsBare word → is_option next ≡ true → said (word ∷ next ∷ rest) ≡ None
unfolding said
said-bare_option word next rest b o = rw (b.dashes, b.generate, o) refl

pub said-bare : (word next : Text) (rest : List Text) → IsBare word → is_option next ≡ false → said (word ∷ next ∷ rest) ≡ with_seed next (said rest)
unfolding said
said-bare word next rest b o = rw (b.dashes, b.generate, o) refl

-- ---- what was said before, and what is said later, where it fits a command of `most` names

abbrev pub total : ℕ → List Text → List Text → Option Said → Option (List Text × List Text)
total most ns ss None = None
total most ns ss (Some s) =
    if nat_le (length (ns ++ s.names)) most && nat_le (length (ss ++ s.seeds)) 1 then Some (ns ++ s.names, ss ++ s.seeds) else None

pub total-name : (most : ℕ) (ns ss : List Text) (word : Text) (later : Option Said) → total most (ns ++ word ∷ []) ss later ≡ total most ns ss (with_name word later)
total-name most ns ss word None = refl
total-name most ns ss word (Some s) = rw (append_assoc ns (word ∷ []) s.names) refl

pub total-seed : (most : ℕ) (ns : List Text) (v : Text) (later : Option Said) → total most ns (v ∷ []) later ≡ total most ns [] (with_seed v later)
total-seed most ns v None = refl
total-seed most ns v (Some s) = refl

-- a name too many, and a second seed
pub total-stray : (most : ℕ) (ns ss : List Text) (word : Text) (later : Option Said) → most ≤ length ns → total most ns ss (with_name word later) ≡ None
total-stray most ns ss word None full = refl
total-stray most ns ss word (Some s) full =
    let many : most < length (ns ++ word ∷ s.names) = omega (arith, length-append ns (word ∷ s.names)) in
    let no : nat_le (length (ns ++ word ∷ s.names)) most ≡ false = grind (arith, nat_tests) in
    rw no refl

pub total-again : (most : ℕ) (ns : List Text) (v w : Text) (later : Option Said) → total most ns (v ∷ []) (with_seed w later) ≡ None
total-again most ns v w None = refl
total-again most ns v w (Some s) =
    let no : nat_le (length (v ∷ w ∷ s.seeds)) 1 ≡ false = grind (arith, nat_tests) in
    rw (and_right (nat_le (length (ns ++ s.names)) most) _ no) refl

pub total-nothing : (most : ℕ) (ns ss : List Text) → length ns ≤ most → length ss ≤ 1 → total most ns ss (only_names []) ≡ Some (ns, ss)
total-nothing most ns ss few one =
    let named : nat_le (length ns) most ≡ true = grind (arith, nat_tests) in
    let seeded : nat_le (length ss) 1 ≡ true = grind (arith, nat_tests) in
    rw (append-nil ns, append-nil ss, named, seeded) refl
