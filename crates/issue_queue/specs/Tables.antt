-- The fields of a table as the entries that they stand for.
use Rattle.std.specs.Prelude.{◌≡◌, ℕ, zero, suc, ◌+◌, ◌%◌, ◌^◌, ◌<◌, Bool, true, not, ◌&&◌, if◌then◌else◌, List, [], ◌∷◌, length, Option, None, Some, nat_le, slice_index, slice_index_or}
use Rattle.rsim_base.specs.declared.processor.PhysReg.{PhysReg}
use Rattle.ring_set.specs.Sets.{has}
use Rattle.issue_queue.specs.Held.{Held}
use Rattle.issue_queue.specs.Needs.{is_clear, needs_it, numbers, readers_at}
use Rattle.issue_queue.specs.Queues.{Entry}
use Rattle.issue_queue.specs.Words.{unit_in}
use Rattle.issue_queue.specs.declared.table.Table.TheInside.{Inside}

-- what stands at the ages below n that pass, in order
unfoldable pub listed : {X : Type 0} → (ℕ → Bool) → (ℕ → X) → ℕ → List X
listed p f zero = []
listed p f (suc n) = if p zero then f zero ∷ listed (λ k. p (suc k)) (λ k. f (suc k)) n else listed (λ k. p (suc k)) (λ k. f (suc k)) n

abbrev pub needs_at : Inside → ℕ → List (Option PhysReg)
needs_at t place = slice_index_or t.needs.items place []

abbrev pub until_at : Inside → ℕ → ℕ
until_at t place = slice_index t.until.items place

-- the entry of a number, if it is held
abbrev pub entry_of : Inside → ℕ → Entry
entry_of t seq = record {
  seq = seq;
  unit = unit_in t.mul t.div (seq % 128);
  needs = numbers (needs_at t (seq % 128));
  until = if has t.issued (seq % 128) then Some (until_at t (seq % 128)) else None;
}

unfoldable pub entries_of : Inside → List Entry
entries_of t = listed (λ k. has t.live ((t.low + k) % 128)) (λ k. entry_of t (t.low + k)) 128

abbrev pub held_of : Inside → Held
held_of t = record { entries = entries_of t; tick = t.tick; registers = length t.readers.items }

pub record IsSound (t : Inside) : Type 0 where
  pub small : t.low < 2 ^ 63
  pub needs : length t.needs.items ≡ 128
  pub until : length t.until.items ≡ 128
  -- ready are those that wait for a unit alone
  pub ready : (p : ℕ) → p < 128 → has t.ready p ≡ (has t.live p && (not (has t.issued p) && is_clear (needs_at t p)))
  pub done : (p : ℕ) → p < 128 → has t.done p ≡ (has t.live p && (has t.issued p && nat_le (until_at t p) t.tick))
  pub clear : (p : ℕ) → p < 128 → has t.live p ≡ true → has t.issued p ≡ true → is_clear (needs_at t p) ≡ true
  -- who waits for a register is among its readers. Others may be too: to wake them changes nothing
  pub waited : (p r : ℕ) → p < 128 → has t.live p ≡ true → needs_it r (needs_at t p) ≡ true
      → has (readers_at t.readers.items r) p ≡ true
