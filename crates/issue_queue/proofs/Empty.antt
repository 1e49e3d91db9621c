-- A table with no entry, and the ticks that a configuration gives each unit.
use Rattle.std.proofs.Common.{◌≡◌, ℕ, ◌+◌, ◌%◌, ◌<◌, false, not, ◌&&◌, nat_le, [], length, Result, Ok, Err, IfOk, MatchResult, is_ok, vec_len, subst, sym, ap, ◌∙◌, arith, Vec, Global}
use Rattle.std.proofs.lemmas.Bool.{both_ways}
use Rattle.machine_config.specs.Keys.{keys}
use Rattle.machine_config.specs.Allowed.{IsAllowed}
use Rattle.machine_config.specs.declared.config.Config.{Config}
use Rattle.ring_set.specs.Sets.{has}
use Rattle.ring_set.specs.declared.set.Places.{Places}
use Rattle.issue_queue.specs.Needs.{is_clear}
use Rattle.issue_queue.specs.Tables.{IsSound, entries_of, entry_of, needs_at, until_at}
use Rattle.issue_queue.specs.declared.table.Table.TheInside.{Inside}
use Rattle.issue_queue.proofs.Gaps.{listed_empty}

abbrev pub HasNone : Places → Type 0
HasNone set = (j : ℕ) → has set j ≡ false

pub sound-empty : (t : Inside) → t.low ≡ 0 → HasNone t.live → HasNone t.ready → HasNone t.done → length t.needs.items ≡ 128 → length t.until.items ≡ 128 → IsSound t
sound-empty t low live ready done needs until = record {
  small = omega (arith, low);
  needs = needs;
  until = until;
  ready = λ p lt. ready p ∙ ap (λ b. b && (not (has t.issued p) && is_clear (needs_at t p))) (sym (live p));
  done = λ p lt. done p ∙ ap (λ b. b && (has t.issued p && nat_le (until_at t p) t.tick)) (sym (live p));
  clear = λ p lt at taken. absurd (both_ways (has t.live p) (live p) at);
  waited = λ p r lt at waits. absurd (both_ways (has t.live p) (live p) at);
}

pub entries-empty : (t : Inside) → HasNone t.live → entries_of t ≡ []
unfolding entries_of
entries-empty t live = listed_empty (λ k. has t.live ((t.low + k) % 128)) (λ k. entry_of t (t.low + k)) 128 (λ k lt. live ((t.low + k) % 128))

pub ticks_of : (config : Config) → IsAllowed config → (0 < config.alu_latency) × ((0 < config.mul_latency) × (0 < config.div_latency))
unfolding keys
ticks_of config allowed =
    let (_, (_, (_, (_, (_, (_, (_, (_, (_, (_, (_, (_, (_, (_, (_, (_, (_, (_, (_, (_, (alu, (_, (mul, (_, (div, _))))))))))))))))))))))))) = allowed.rows in
    (omega (arith, alu.0), (omega (arith, mul.0), omega (arith, div.0)))

-- how long a list is that was made, behind another error too
pub length_made : {T E F : Type 0} (made : Result (Vec T Global) E) (told : Result (Vec T Global) F) (Q : E → Type 0) (n : ℕ) (v : Vec T Global) → IfOk made (λ x. vec_len x ≡ n) → MatchResult made (λ x. told ≡ Ok x) Q → is_ok told ≡ is_ok made → told ≡ Ok v → length v.items ≡ n
length_made {T = T} {F = F} (Ok x) told Q n v len same kind is =
    let Lasts : Result (Vec T Global) F → Type 0 = λ r. IfOk r (λ y. length y.items ≡ n) in
    let here : length x.items ≡ n = omega (arith, len, x.ok.0) in
    let there : Lasts told = subst Lasts (sym same) here in
    subst Lasts is there
length_made {F = F} (Err e) told Q n v len same kind is = absurd (both_ways (is_ok told) kind (ap (λ (r : Result _ F). is_ok r) is))
