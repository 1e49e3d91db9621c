-- What a change leaves of each line: the line's own register or slot is new, and each other line's is as before. That a
-- change of registers leaves every slot, and the other way round, computes.
use Rattle.std.proofs.Common.{◌≡◌, ℕ, ◌==◌, Bool, true, false, cond, List, Option, Some, None, option_map, is_some, refl, ap, ◌∙◌}
use Rattle.std.specs.Ordering.{nat_cmp}
use Rattle.std.specs.Cmp.{nat_cmp_total, unsigned_tied}
use Rattle.std.specs.FinMap.{FinMap, get, insert, remove, get-insert, get-remove}
use Rattle.std.proofs.lemmas.Bool.{eqb-true}
use Rattle.miss_registers.specs.Misses.{MissView, register_of, victim_of, with_register, without_register, with_victim, without_victim, with_emptied}

module _ {T : Type 0} (m : FinMap nat_cmp T) (line q : ℕ) where
  get-insert_line : (v : T) → get (insert m line v) q ≡ cond (q == line) (Some v) (get m q)
  get-insert_line v = get-insert nat_cmp_total m line v q ∙ ap (λ b. cond b (Some v) (get m q)) (unsigned_tied q line)

  get-remove_line : get (remove m line) q ≡ cond (q == line) None (get m q)
  get-remove_line = get-remove nat_cmp_total m line q ∙ ap (λ b. cond b None (get m q)) (unsigned_tied q line)

  -- a line that has nothing is no other line than one that has something
  get-absent : get m line ≡ None → get m q ≡ cond (q == line) None (get m q)
  get-absent none = elim (q == line) as (λ b. (q == line) ≡ b → get m q ≡ cond b None (get m q)) [
    | true ↦ λ same. ap (get m) (eqb-true q line same) ∙ none
    | false ↦ λ other. refl
  ] refl

emptied_line : (m : FinMap nat_cmp (Option (List ℕ))) (line q : ℕ) (was : Option (Option (List ℕ))) → get m line ≡ was → get (cond (is_some was) (insert m line None) m) q ≡ cond (q == line) (option_map (λ slot. None) was) (get m q)
emptied_line m line q None is = get-absent m line q is
emptied_line m line q (Some slot) is = get-insert_line m line q None

pub register_of-with_register : (line : ℕ) (own : Bool) (m : MissView) (q : ℕ) → register_of (with_register line own m) q ≡ cond (q == line) (Some own) (register_of m q)
register_of-with_register line own m q = get-insert_line m.registers line q own

pub register_of-without_register : (line : ℕ) (m : MissView) (q : ℕ) → register_of (without_register line m) q ≡ cond (q == line) None (register_of m q)
register_of-without_register line m q = get-remove_line m.registers line q

pub victim_of-with_victim : (line : ℕ) (slot : Option (List ℕ)) (m : MissView) (q : ℕ) → victim_of (with_victim line slot m) q ≡ cond (q == line) (Some slot) (victim_of m q)
victim_of-with_victim line slot m q = get-insert_line m.victims line q slot

pub victim_of-without_victim : (line : ℕ) (m : MissView) (q : ℕ) → victim_of (without_victim line m) q ≡ cond (q == line) None (victim_of m q)
victim_of-without_victim line m q = get-remove_line m.victims line q

pub victim_of-with_emptied : (line : ℕ) (m : MissView) (q : ℕ) → victim_of (with_emptied line m) q ≡ cond (q == line) (option_map (λ slot. None) (victim_of m line)) (victim_of m q)
victim_of-with_emptied line m q = emptied_line m.victims line q (victim_of m line) refl

pub ruleset one_line = (register_of-with_register, register_of-without_register, victim_of-with_victim, victim_of-without_victim, victim_of-with_emptied)
