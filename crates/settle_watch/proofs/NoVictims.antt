-- Where a node loses no line, none of its loads is a victim.
use Rattle.std.proofs.Common.{◌≡◌, ℕ, ◌==◌, not, false, List, [], ◌∷◌, None, refl}
use Rattle.std.specs.List.{list_any}
use Rattle.std.proofs.lemmas.Bool.{and_right, or_parts}
use Rattle.rsim_base.specs.declared.memory.Line.{Line}
use Rattle.rsim_base.specs.declared.memory.Node.{Node}
use Rattle.memory_contracts.specs.Store.{is_among}
use Rattle.settle_watch.specs.declared.watch.Watched.{Watched}
use Rattle.settle_watch.specs.Watches.{first_victim, oldest_victim}

is_among-false : (p line : ℕ) (lost : List (Node × Line)) → list_any (λ x. x.0.0 == p) lost ≡ false → is_among lost p line ≡ false
is_among-false p line [] none = refl
is_among-false p line (x ∷ lost) none =
    let parts = or_parts (x.0.0 == p) (list_any (λ y. y.0.0 == p) lost) none in
    rw parts.0 (is_among-false p line lost parts.1)

pub oldest_victim-none : (p : ℕ) (lost : List (Node × Line)) (loads : List Watched) → list_any (λ x. x.0.0 == p) lost ≡ false → oldest_victim p lost loads ≡ None
oldest_victim-none p lost [] none = refl
oldest_victim-none p lost (x ∷ loads) none = rw (and_right (not x.from_store) (is_among lost p x.line.0) (is_among-false p x.line.0 lost none)) (oldest_victim-none p lost loads none)

pub first_victim-none : (p : ℕ) (lost : List (Node × Line)) (loads : List Watched) → list_any (λ x. x.0.0 == p) lost ≡ false → first_victim p lost loads ≡ None
first_victim-none p lost [] none = refl
first_victim-none p lost (x ∷ loads) none = rw (and_right (not x.from_store) (is_among lost p x.line.0) (is_among-false p x.line.0 lost none)) (first_victim-none p lost loads none)
