-- What stands after a file was made and written in pieces, or not whole, and after some of a stream was.
use Rattle.std.proofs.Common.{◌≡◌, ℕ, List, [], ◌++◌, Option, Some, None, Result, Ok, Err, Bool, true, false, cond, take, drop, option_map, unwrap_or, OnOk, OnErr, refl, sym, ap, ◌∙◌, inl, inr, ⊎_elim, append-nil, append_assoc, subst, nat_cmp}
use Rattle.std.proofs.lemmas.List.{take-append-drop}
use Rattle.std.specs.Ordering.{eq_by_cmp}
use Rattle.std.specs.Cmp.{eq_by_cmp_equiv}
use Rattle.std.specs.Cmp.Lexicographic.{slice_cmp, nat_list_cmp_total}
use Rattle.std.specs.FinMap.{get, insert, get-insert, same_map, slice_cmp-IsAntisymmetric, nat_cmp-IsAntisymmetric}
use Rattle.rsim_io.specs.Files.{Files, with_more, Appends}
use Rattle.rsim_io.specs.Written.{Puts}
use Rattle.rsim_io.specs.declared.shelf.StoreFault.{StoreFault}
use Rattle.rsim_top.specs.Outside.{IsPrefix, HasFile, HasPrefixOfFile, HasPrefixWritten}
use Rattle.rsim_top.specs.Pieces.{IsSoFar}

-- the bytes of a name that was just set
get-insert_same : (files : Files) (name bytes : List ℕ) → get (insert files name bytes) name ≡ Some bytes
get-insert_same files name bytes =
    get-insert nat_list_cmp_total files name bytes name
    ∙ ap (λ b. cond b (Some bytes) (get files name)) ((eq_by_cmp_equiv nat_list_cmp_total).refl name)

cond_twice : {A : Type 0} (b : Bool) (x y z : A) → cond b x (cond b y z) ≡ cond b x z
cond_twice true x y z = refl
cond_twice false x y z = refl

-- what a name was set to first is lost
insert_twice : (files : Files) (name first last : List ℕ) → insert (insert files name first) name last ≡ insert files name last
insert_twice files name first last =
    same_map nat_list_cmp_total (slice_cmp-IsAntisymmetric nat_cmp-IsAntisymmetric) _ _
    (λ q. get-insert nat_list_cmp_total (insert files name first) name last q
    ∙ ap (cond (eq_by_cmp (slice_cmp nat_cmp) q name) (Some last)) (get-insert nat_list_cmp_total files name first q)
    ∙ cond_twice (eq_by_cmp (slice_cmp nat_cmp) q name) (Some last) (Some first) (get files q)
    ∙ sym (get-insert nat_list_cmp_total files name last q))

with_more-insert : (files : Files) (name before bytes : List ℕ) → with_more name bytes (insert files name before) ≡ insert files name (before ++ bytes)
with_more-insert files name before bytes =
    ap (λ content. insert (insert files name before) name (unwrap_or content [] ++ bytes)) (get-insert_same files name before)
    ∙ insert_twice files name before (before ++ bytes)

grown : (old : Option Files) (name before bytes : List ℕ) → option_map (with_more name bytes) (option_map (λ files. insert files name before) old) ≡ option_map (λ files. insert files name (before ++ bytes)) old
grown None name before bytes = refl
grown (Some files) name before bytes = ap Some (with_more-insert files name before bytes)

-- ---- a file that is written in pieces

pub IsSoFar-more : (old now : Option Files) (name so_far piece more : List ℕ) → IsSoFar name so_far old now piece → IsSoFar name (so_far ++ more) old now (piece ++ more)
IsSoFar-more old now name so_far piece more is =
    record { done = is.done; file = is.file; follows = sym (append_assoc is.done piece more) ∙ ap (λ p. p ++ more) is.follows }

-- the file after the piece was put behind it
file_after : (old now new : Option Files) (name so_far piece : List ℕ) → (is : IsSoFar name so_far old now piece) (bytes : List ℕ) → new ≡ option_map (with_more name bytes) now → HasFile name (is.done ++ bytes) old new
file_after old now new name so_far piece is bytes put = put ∙ ap (option_map (with_more name bytes)) is.file ∙ grown old name is.done bytes

pub IsSoFar-written : (old now new : Option Files) (name so_far piece : List ℕ) → IsSoFar name so_far old now piece → Appends now name piece (Ok tt) new → IsSoFar name so_far old new []
IsSoFar-written old now new name so_far piece is put = record {
  done = is.done ++ piece;
  file = file_after old now new name so_far piece is piece put;
  follows = append-nil (is.done ++ piece) ∙ is.follows;
}

pub HasFile-written : (old now new : Option Files) (name bytes piece : List ℕ) (r : Result (Unit {0}) StoreFault) → IsSoFar name bytes old now piece → Appends now name piece r new → OnOk r (HasFile name bytes old new)
HasFile-written old now new name bytes piece (Ok done) is put = subst (λ b. HasFile name b old new) is.follows (file_after old now new name bytes piece is piece put)
HasFile-written old now new name bytes piece (Err fault) is left = tt

-- a part of what was to be written by now is a part of the whole
part_of_whole : (done rest so_far more bytes : List ℕ) → done ++ rest ≡ so_far → so_far ++ more ≡ bytes → IsPrefix done bytes
part_of_whole done rest so_far more bytes follows whole = (rest ++ more, sym whole ∙ ap (λ s. s ++ more) (sym follows) ∙ append_assoc done rest more)

pub HasPrefixOfFile-so_far : (old now : Option Files) (name so_far more bytes piece : List ℕ) → IsSoFar name so_far old now piece → so_far ++ more ≡ bytes → HasPrefixOfFile name bytes old now
HasPrefixOfFile-so_far old now name so_far more bytes piece is whole = inr (is.done, part_of_whole is.done piece so_far more bytes is.follows whole, is.file)

-- what is a part of a text is a part of a longer one
pub HasPrefixOfFile-longer : (name bytes more : List ℕ) (old new : Option Files) → HasPrefixOfFile name bytes old new → HasPrefixOfFile name (bytes ++ more) old new
HasPrefixOfFile-longer name bytes more old new part =
    ⊎_elim inl (λ (done, (rest, whole), file). inr (done, (rest ++ more, ap (λ b. b ++ more) whole ∙ append_assoc done rest more), file)) part

pub HasPrefixOfFile-from_failed : (old now new : Option Files) (name so_far more bytes piece : List ℕ) (fault : StoreFault) → IsSoFar name so_far old now piece → so_far ++ more ≡ bytes → Appends now name piece (Err fault) new → HasPrefixOfFile name bytes old new
HasPrefixOfFile-from_failed old now new name so_far more bytes piece fault is whole left =
    ⊎_elim (λ same. rw same (HasPrefixOfFile-so_far old now name so_far more bytes piece is whole))
    (λ put. inr (
      is.done ++ take put.0 piece,
      part_of_whole (is.done ++ take put.0 piece) (drop put.0 piece) so_far more bytes (append_assoc is.done (take put.0 piece) (drop put.0 piece) ∙ ap (λ p. is.done ++ p) (take-append-drop put.0 piece) ∙ is.follows) whole,
      file_after old now new name so_far piece is (take put.0 piece) put.1,
    )) left

pub HasPrefixOfFile-from_append : (old now new : Option Files) (name bytes piece : List ℕ) (r : Result (Unit {0}) StoreFault) → IsSoFar name bytes old now piece → Appends now name piece r new → OnErr r (HasPrefixOfFile name bytes old new)
HasPrefixOfFile-from_append old now new name bytes piece (Ok done) is put = tt
HasPrefixOfFile-from_append old now new name bytes piece (Err fault) is left = HasPrefixOfFile-from_failed old now new name bytes [] bytes piece fault is (append-nil bytes) left

pub HasPrefixWritten-from_failed : (old new : Option (List ℕ)) (bytes : List ℕ) (fault : StoreFault) → Puts old bytes (Err fault) new → HasPrefixWritten bytes old new
HasPrefixWritten-from_failed old new bytes fault put = (take put.0 bytes, (drop put.0 bytes, sym (take-append-drop put.0 bytes)), put.1)
