-- The shape that the words have, by what was found of each name and of the seed.
use Rattle.std.proofs.Common.{◌≡◌, ℕ, if◌then◌else◌, ◌≤◌, ◌∙◌, Bool, true, false, refl, ap, arith, List, [], ◌∷◌, length, Option, Some, None}
use Rattle.std.specs.Prelude.{slice_get, nat_le, codes, IsSomeAnd}
use Rattle.std.proofs.lemmas.Bool.{leb-true, and_parts}
use Rattle.clap.specs.declared.parser.matches.ArgMatches.{ArgMatches}
use Rattle.command_words.specs.Words.{Text, Said}
use Rattle.command_words.specs.Asked.{RunShape, CheckShape, named, seeded, run_shape, check_shape, run_shape_of, check_shape_of}
use Rattle.command_words.specs.Reading.{fits, fitting, read_at, RunTells, CheckTells}

-- the shape by what was found of the names, in order, and of the seed
abbrev pub run_found : Option Text → Option Text → Option Text → Option Text → Option Text → Option RunShape
run_found (Some first) (Some second) (Some third) (Some fourth) None =
    Some (record { executable = named first; config = second; cycles = third; order = fourth })
run_found (Some first) (Some second) (Some third) None (Some seed) =
    Some (record { executable = seeded seed; config = first; cycles = second; order = third })
run_found _ _ _ _ _ = None

abbrev pub check_found : Option Text → Option Text → Option Text → Option CheckShape
check_found (Some first) (Some second) None = Some (record { executable = named first; order = second })
check_found (Some first) None (Some seed) = Some (record { executable = seeded seed; order = first })
check_found _ _ _ = None

pub run_shape-found : (ns ss : List Text) → length ns ≤ 4 → length ss ≤ 1
    → run_shape ns ss ≡ run_found (slice_get ns 0) (slice_get ns 1) (slice_get ns 2) (slice_get ns 3) (slice_get ss 0)
run_shape-found [] ss few one = refl
run_shape-found (a ∷ []) ss few one = refl
run_shape-found (a ∷ b ∷ []) ss few one = refl
run_shape-found (a ∷ b ∷ c ∷ []) [] few one = refl
run_shape-found (a ∷ b ∷ c ∷ []) (s ∷ []) few one = refl
run_shape-found (a ∷ b ∷ c ∷ []) (s ∷ t ∷ more) few one = absurd (omega arith)
run_shape-found (a ∷ b ∷ c ∷ d ∷ []) [] few one = refl
run_shape-found (a ∷ b ∷ c ∷ d ∷ []) (s ∷ more) few one = refl
run_shape-found (a ∷ b ∷ c ∷ d ∷ e ∷ more) ss few one = absurd (omega arith)

pub check_shape-found : (ns ss : List Text) → length ns ≤ 2 → length ss ≤ 1
    → check_shape ns ss ≡ check_found (slice_get ns 0) (slice_get ns 1) (slice_get ss 0)
check_shape-found [] ss few one = refl
check_shape-found (a ∷ []) [] few one = refl
check_shape-found (a ∷ []) (s ∷ []) few one = refl
check_shape-found (a ∷ []) (s ∷ t ∷ more) few one = absurd (omega arith)
check_shape-found (a ∷ b ∷ []) [] few one = refl
check_shape-found (a ∷ b ∷ []) (s ∷ more) few one = refl
check_shape-found (a ∷ b ∷ c ∷ more) ss few one = absurd (omega arith)

-- what fits is not too long
room : (least most : ℕ) (s : Said) → fits least most s ≡ true → (length s.names ≤ most) × (length s.seeds ≤ 1)
room least most s e =
    let outer = and_parts (nat_le least (length s.names)) _ e in
    let inner = and_parts (nat_le (length s.names) most) _ outer.1 in
    (leb-true _ _ inner.0, leb-true _ _ inner.1)

-- what fits, with what is told of it
told_of : (least most : ℕ) (want : Option Said) (P : Said → Type 0) → IsSomeAnd (fitting least most want) P → (s : Said) × (want ≡ Some s) × (fits least most s ≡ true) × P s
told_of least most None P h = absurd h
told_of least most (Some s) P h = by (fits least most s) refl h
  where
    by : (b : Bool) → fits least most s ≡ b → IsSomeAnd (if b then Some s else None) P → (t : Said) × (Some s ≡ Some t) × (fits least most t ≡ true) × P t
    by true e h = (s, refl, e, h)
    by false e h = absurd h

abbrev pub run_read : ArgMatches → Option RunShape
run_read m = run_found (read_at m (codes "first")) (read_at m (codes "second")) (read_at m (codes "third")) (read_at m (codes "fourth")) (read_at m (codes "generate"))

run_found-read : (s : Said) (m : ArgMatches) → RunTells s m → run_found (slice_get s.names 0) (slice_get s.names 1) (slice_get s.names 2) (slice_get s.names 3) (slice_get s.seeds 0) ≡ run_read m
run_found-read s m t = rw (t.0, t.1, t.2, t.3, t.4) refl

pub run_shape_told : (want : Option Said) (m : ArgMatches) → IsSomeAnd (fitting 3 4 want) (λ s. RunTells s m) → run_shape_of want ≡ run_read m
run_shape_told want m h =
    let told = told_of 3 4 want (λ s. RunTells s m) h in
    let fit = room 3 4 told.0 told.2 in
    ap run_shape_of told.1 ∙ run_shape-found told.0.names told.0.seeds fit.0 fit.1 ∙ run_found-read told.0 m told.3

abbrev pub check_read : ArgMatches → Option CheckShape
check_read m = check_found (read_at m (codes "first")) (read_at m (codes "second")) (read_at m (codes "generate"))

check_found-read : (s : Said) (m : ArgMatches) → CheckTells s m → check_found (slice_get s.names 0) (slice_get s.names 1) (slice_get s.seeds 0) ≡ check_read m
check_found-read s m t = rw (t.0, t.1, t.2) refl

pub check_shape_told : (want : Option Said) (m : ArgMatches) → IsSomeAnd (fitting 1 2 want) (λ s. CheckTells s m) → check_shape_of want ≡ check_read m
check_shape_told want m h =
    let told = told_of 1 2 want (λ s. CheckTells s m) h in
    let fit = room 1 2 told.0 told.2 in
    ap check_shape_of told.1 ∙ check_shape-found told.0.names told.0.seeds fit.0 fit.1 ∙ check_found-read told.0 m told.3
