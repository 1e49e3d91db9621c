-- The room of a set, found in one walk over its slots.
use Rattle.std.proofs.Common.{◌≡◌, ℕ, Bool, true, false, ◌&&◌, cond, List, [], ◌∷◌, find, reverse, is_none, Option, Some, None, refl, sym, ap, ◌∙◌}
use Rattle.std.specs.Option.{option_or}
use Rattle.std.proofs.lemmas.List.Folds.{find-append}
use Rattle.std.proofs.lemmas.Grind.{reverse_onto}
use Rattle.list_facts.specs.Options.{option_or_assoc}
use Rattle.rsim_base.specs.declared.memory.Line.{Line}
use Rattle.cache_sets.specs.Layout.{mark_at}

-- not reserved, and empty too
abbrev pub bare : List (Option Line) → ℕ → Bool
bare reserved slot = is_none (mark_at reserved slot)

abbrev pub free : List (Option Line) → List (Option Line) → ℕ → Bool
free lines reserved slot = is_none (mark_at lines slot) && is_none (mark_at reserved slot)

-- the first that is free, else the last that is not reserved, which is `last` where none of these is
abbrev pub room_after : {X : Type 0} → (X → Bool) → (X → Bool) → Option X → List X → Option X
room_after free bare last [] = last
room_after free bare last (x ∷ xs) = cond (free x) (Some x) (room_after free bare (cond (bare x) (Some x) last) xs)

last_head : {X : Type 0} (b : Bool) (x : X) (last : Option X) → option_or (cond b (Some x) None) last ≡ cond b (Some x) last
last_head true x last = refl
last_head false x last = refl

free_head : {X : Type 0} (b : Bool) (x : X) (found later rest : Option X) → later ≡ option_or found rest → cond b (Some x) later ≡ option_or (cond b (Some x) found) rest
free_head true x found later rest e = refl
free_head false x found later rest e = e

pub room_after_is : {X : Type 0} (free bare : X → Bool) (last : Option X) (xs : List X) →
    room_after free bare last xs ≡ option_or (find free xs) (option_or (find bare (reverse xs)) last)
room_after_is free bare last [] = refl
room_after_is free bare last (x ∷ xs) =
    let turned : find bare (reverse (x ∷ xs)) ≡ option_or (find bare (reverse xs)) (cond (bare x) (Some x) None) =
    ap (find bare) (reverse_onto xs x []) ∙ find-append bare (reverse xs) (x ∷ []) in
    let behind : option_or (find bare (reverse (x ∷ xs))) last ≡ option_or (find bare (reverse xs)) (cond (bare x) (Some x) last) =
    ap (λ o. option_or o last) turned
    ∙ (option_or_assoc (find bare (reverse xs)) (cond (bare x) (Some x) None) last ∙ ap (option_or (find bare (reverse xs))) (last_head (bare x) x last)) in
    free_head (free x) x (find free xs) (room_after free bare (cond (bare x) (Some x) last) xs) (option_or (find bare (reverse (x ∷ xs))) last)
    (room_after_is free bare (cond (bare x) (Some x) last) xs ∙ ap (option_or (find free xs)) (sym behind))

option_or-none : {X : Type 0} (o : Option X) → option_or o None ≡ o
option_or-none None = refl
option_or-none (Some x) = refl

pub room_after_none : {X : Type 0} (free bare : X → Bool) (xs : List X) → room_after free bare None xs ≡ option_or (find free xs) (find bare (reverse xs))
room_after_none free bare xs = room_after_is free bare None xs ∙ ap (option_or (find free xs)) (option_or-none (find bare (reverse xs)))
