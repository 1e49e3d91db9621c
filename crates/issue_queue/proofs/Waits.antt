-- The registers that an entry waits for, after one of them is taken off.
use Rattle.std.proofs.Common.{◌≡◌, ℕ, ◌==◌, Bool, true, false, cond, ◌||◌, List, [], ◌∷◌, map, Option, Some, None, option_map, refl, ap, ◌∙◌}
use Rattle.std.proofs.lemmas.Bool.{cond-false, false≢true, or_parts}
use Rattle.rsim_base.specs.declared.processor.PhysReg.{PhysReg}
use Rattle.issue_queue.specs.Needs.{is_clear, is_need, needs_it, numbers, without_reg}
use Rattle.issue_queue.specs.Queues.{without}

or_right_true : (a b : Bool) → b ≡ true → (a || b) ≡ true
or_right_true true b e = refl
or_right_true false b e = e

or_keeps : (a old new : Bool) → (new ≡ true → old ≡ true) → (a || new) ≡ true → (a || old) ≡ true
or_keeps true old new h e = refl
or_keeps false old new h e = h e

-- one who waits for none does not wait for r
pub clear-needs_it : (r : ℕ) (needs : List (Option PhysReg)) → is_clear needs ≡ true → needs_it r needs ≡ false
clear-needs_it r [] clear = refl
clear-needs_it r (None ∷ needs) clear = clear-needs_it r needs clear
clear-needs_it r (Some x ∷ needs) clear = absurd (false≢true clear)

-- nothing changes for one who does not wait for r
pub without-needs_it : (r : ℕ) (needs : List (Option PhysReg)) → needs_it r needs ≡ false → map (without r) (numbers needs) ≡ numbers needs
without-needs_it r [] other = refl
without-needs_it r (None ∷ needs) other = ap (λ (ns : List (Option ℕ)). None ∷ ns) (without-needs_it r needs other)
without-needs_it r (Some x ∷ needs) other =
    let parts = or_parts (x.0 == r) (needs_it r needs) other in
    let here = cond-false (x.0 == r) None (Some x.0) parts.0 in
    let rest = without-needs_it r needs parts.1 in
    λ i. here i ∷ rest i

number_if : (b : Bool) (x : PhysReg) → cond b None (Some x.0) ≡ option_map (λ (r : PhysReg). r.0) (cond b None (Some x))
number_if true x = refl
number_if false x = refl

pub numbers-without : (r : ℕ) (needs : List (Option PhysReg)) → map (without r) (numbers needs) ≡ numbers (map (without_reg r) needs)
numbers-without r [] = refl
numbers-without r (None ∷ needs) = ap (λ (ns : List (Option ℕ)). None ∷ ns) (numbers-without r needs)
numbers-without r (Some x ∷ needs) =
    let here = number_if (x.0 == r) x in
    let rest = numbers-without r needs in
    λ i. here i ∷ rest i

-- who is woken does not wait for r
gone_if : (r : ℕ) (b : Bool) (x : PhysReg) → (x.0 == r) ≡ b → is_need r (cond b None (Some x)) ≡ false
gone_if r true x e = refl
gone_if r false x e = e

pub needs_it-without : (r : ℕ) (needs : List (Option PhysReg)) → needs_it r (map (without_reg r) needs) ≡ false
needs_it-without r [] = refl
needs_it-without r (None ∷ needs) = needs_it-without r needs
needs_it-without r (Some x ∷ needs) =
    let here = gone_if r (x.0 == r) x refl in
    ap (λ b. b || needs_it r (map (without_reg r) needs)) here ∙ needs_it-without r needs

-- and for no register for which it did not wait
kept_if : (q : ℕ) (b : Bool) (x : PhysReg) (old new : Bool) → (new ≡ true → old ≡ true) → (is_need q (cond b None (Some x)) || new) ≡ true → ((x.0 == q) || old) ≡ true
kept_if q true x old new h e = or_right_true (x.0 == q) old (h e)
kept_if q false x old new h e = or_keeps (x.0 == q) old new h e

pub needs_it-kept : (q r : ℕ) (needs : List (Option PhysReg)) → needs_it q (map (without_reg r) needs) ≡ true → needs_it q needs ≡ true
needs_it-kept q r [] e = e
needs_it-kept q r (None ∷ needs) e = needs_it-kept q r needs e
needs_it-kept q r (Some x ∷ needs) e =
    kept_if q (x.0 == r) x (needs_it q needs) (needs_it q (map (without_reg r) needs)) (needs_it-kept q r needs) e

pub clear-without : (r : ℕ) (needs : List (Option PhysReg)) → is_clear needs ≡ true → is_clear (map (without_reg r) needs) ≡ true
clear-without r [] clear = refl
clear-without r (None ∷ needs) clear = clear-without r needs clear
clear-without r (Some x ∷ needs) clear = absurd (false≢true clear)
