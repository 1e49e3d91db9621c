-- The files of a map from names to bytes.
use Rattle.std.proofs.Common.{◌≡◌, ℕ, Bool, true, false, cond, List, [], ◌∷◌, ◌++◌, map, Option, Some, None, option_map, refl, sym, ap, ◌∙◌, inl, inr, append-nil}
use Rattle.std.specs.Prelude.{String, Vec}
use Rattle.std.specs.String.{string_bytes, string_cmp}
use Rattle.std.specs.Ordering.{nat_cmp, eq_by_cmp}
use Rattle.std.specs.Cmp.{eq_by_cmp_equiv}
use Rattle.std.specs.Cmp.Lexicographic.{slice_cmp, nat_list_cmp_total}
use Rattle.std.specs.Str.{bytes_eq}
use Rattle.std.specs.Map.{lookup}
use Rattle.std.specs.BTreeMap.{BTreeMap, UpdatesBy, get_by_text, is_at}
use Rattle.std.specs.FinMap.{find, get, insert, get-insert, get-from_entries, same_map, slice_cmp-IsAntisymmetric, nat_cmp-IsAntisymmetric}
use Rattle.std.proofs.lemmas.Map.Text.{btree_map_updates_text, is_eq-slice_cmp}
use Rattle.std.specs.Result.{MatchResult}
use Rattle.std.specs.Prelude.{Result, Ok, Err}
use Rattle.rsim_io.specs.declared.shelf.StoreFault.{StoreFault}
use Rattle.rsim_io.specs.Entries.{files_of}
use Rattle.rsim_io.specs.Files.{Files, Appends}

-- a choice of two options, read through a function
option_map-cond : {A B : Type 0} (f : A → B) (b : Bool) (x : A) (o : Option A) → option_map f (cond b (Some x) o) ≡ cond b (Some (f x)) (option_map f o)
option_map-cond f true x o = refl
option_map-cond f false x o = refl

-- the files have under a name what the entries have at its bytes
find-lookup : {Y Z : Type 0} (q : List ℕ) (es : List (String Y × Vec ℕ Z)) → find (slice_cmp nat_cmp) q (map (λ e. (string_bytes e.0, e.1.items)) es) ≡ option_map (λ v. v.items) (lookup (is_at (λ k. slice_cmp nat_cmp q (string_bytes k))) es)
find-lookup q [] = refl
find-lookup q (e ∷ es) =
    ap (cond (is_at (λ k. slice_cmp nat_cmp q (string_bytes k)) e.0) (Some e.1.items)) (find-lookup q es)
    ∙ sym (option_map-cond (λ v. v.items) (is_at (λ k. slice_cmp nat_cmp q (string_bytes k)) e.0) e.1 (lookup (is_at (λ k. slice_cmp nat_cmp q (string_bytes k))) es))

-- what the files of a map have under a name
pub get-files_of : {Y Z : Type 0} (m : BTreeMap (String Y) (Vec ℕ Z)) (q : List ℕ) → get (files_of m) q ≡ option_map (λ v. v.items) (get_by_text m q)
get-files_of m q = get-from_entries nat_list_cmp_total _ q ∙ find-lookup q m.entries

-- both orders of two texts make the same choice
same_choice : {A : Type 0} (q bs : List ℕ) (x y : A) → cond (bytes_eq bs q) x y ≡ cond (eq_by_cmp (slice_cmp nat_cmp) q bs) x y
same_choice q bs x y = ap (λ b. cond b x y) (sym (is_eq-slice_cmp bs q) ∙ (eq_by_cmp_equiv nat_list_cmp_total).symm bs q)

-- a map that took a value under a name has the files with these bytes under it
pub files_of-update : {Y Z : Type 0} (m n : BTreeMap (String Y) (Vec ℕ Z)) (bs : List ℕ) (v : Vec ℕ Z) → UpdatesBy string_cmp (λ k. slice_cmp nat_cmp bs (string_bytes k)) m n (Some v) → files_of n ≡ insert (files_of m) bs v.items
files_of-update m n bs v updates =
    same_map nat_list_cmp_total (slice_cmp-IsAntisymmetric nat_cmp-IsAntisymmetric) _ _ (λ q.
    get-files_of n q
    ∙ ap (option_map (λ v. v.items)) (btree_map_updates_text bs m n (Some v) updates q)
    ∙ option_map-cond (λ v. v.items) (bytes_eq bs q) v (get_by_text m q)
    ∙ ap (cond (bytes_eq bs q) (Some v.items)) (sym (get-files_of m q))
    ∙ same_choice q bs (Some v.items) (get (files_of m) q)
    ∙ sym (get-insert nat_list_cmp_total (files_of m) bs v.items q))

-- a held file that took the bytes behind its end, or stayed
pub Appends-held : (old new : Files) (name bytes held now : List ℕ) (r : Result (Unit {0}) StoreFault) → get old name ≡ Some held → new ≡ insert old name now → MatchResult r (λ _. now ≡ held ++ bytes) (λ _. now ≡ held) → Appends (Some old) name bytes r (Some new)
Appends-held old new name bytes held now (Ok u) was is grown = rw (is, was, grown) refl
Appends-held old new name bytes held now (Err e) was is stayed = inr (0, rw (is, was, stayed, append-nil) refl)

-- a file that was made of the bytes, or not made
pub Appends-made : (old new : Files) (name bytes : List ℕ) (r : Result (Unit {0}) StoreFault) → get old name ≡ None → MatchResult r (λ _. new ≡ insert old name bytes) (λ _. new ≡ old) → Appends (Some old) name bytes r (Some new)
Appends-made old new name bytes (Ok u) was made = rw (made, was) refl
Appends-made old new name bytes (Err e) was stayed = inl (ap Some stayed)
