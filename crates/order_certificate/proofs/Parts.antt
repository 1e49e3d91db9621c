-- The parts of an order's text, piece by piece.
use Rattle.std.proofs.Common.{◌≡◌, ℕ, ◌^◌, ◌<◌, ◌≤◌, List, [], ◌∷◌, ◌++◌, codes, decimal, take, take_all, length, Result, Ok, Err, OnOk, append_assoc}
use Rattle.std.specs.List.{concat, flat_map}
use Rattle.rsim_base.specs.Accesses.{loads, stores}
use Rattle.rsim_base.specs.Bytes.{count_of}
use Rattle.rsim_base.specs.declared.memory.Access.{Access}
use Rattle.rsim_base.specs.declared.memory.Model.{Model}
use Rattle.rsim_base.specs.declared.memory.Size.TheVariants.{B8}
use Rattle.order_certificate.specs.OrderText.{model_name, kind_letter, value_text, value_or_dash, line, heading, ending}
use Rattle.order_certificate.proofs.Hex.{value_text-whole}

-- what follows from a fact that an Ok has
pub onto_ok : {T E : Type 0} {P Q : Type 0} (r : Result T E) → (P → Q) → OnOk r P → OnOk r Q
onto_ok (Ok x) f p = f p
onto_ok (Err e) f p = tt

pub heading-pieces : (m : Model) (n : ℕ) (before first named second whole : List ℕ) → first ≡ before ++ codes "rsim order 1\nmodel " → named ≡ first ++ model_name m →
    second ≡ named ++ codes "\nprocessors " → whole ≡ second ++ decimal n ++ 10 ∷ [] → whole ≡ before ++ heading m n
unfolding heading
heading-pieces m n before first named second whole e₁ e₂ e₃ e₄ = rw (e₄, e₃, e₂, e₁) (simp append_assoc)

pub line-pieces : (e : Access) (before node index kind blank size address gap whole : List ℕ) → e.addr.0 < 2 ^ 64 → node ≡ before ++ decimal e.node.0 ++ 32 ∷ [] →
    index ≡ node ++ decimal e.index ++ 32 ∷ [] → kind ≡ index ++ kind_letter e.kind → blank ≡ kind ++ 32 ∷ [] → size ≡ blank ++ decimal (count_of e.size) ++ 32 ∷ [] →
    address ≡ size ++ value_text B8 e.addr.0 → gap ≡ address ++ 32 ∷ [] →
    whole ≡ gap ++ concat (value_or_dash (loads e.kind) e.size e.loaded ∷ codes " " ∷ value_or_dash (stores e.kind) e.size e.stored ∷ codes "\n" ∷ []) → whole ≡ before ++ line e
unfolding line
line-pieces e before node index kind blank size address gap whole fits e₁ e₂ e₃ e₄ e₅ e₆ e₇ e₈ =
    rw (e₈, e₇, e₆, value_text-whole e.addr.0 fits, e₅, e₄, e₃, e₂, e₁) (simp append_assoc)

pub ending-pieces : (counts : List ℕ) (i : ℕ) (before so_far whole : List ℕ) → length counts ≤ i →
    so_far ≡ (before ++ codes "end") ++ flat_map (λ count. codes " " ++ decimal count) (take i counts) → whole ≡ so_far ++ 10 ∷ [] → whole ≡ before ++ ending counts
unfolding ending
ending-pieces counts i before so_far whole past e₁ e₂ = rw (e₂, e₁, take_all i counts past) (simp append_assoc)
