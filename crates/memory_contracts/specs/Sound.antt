-- Each store whose lines are with one node at a time is sound.
use Rattle.std.proofs.Common.{◌≡◌, ℕ, ◌≤◌, ◌<◌, true, List, length, Option, None, Some, sym, ◌∙◌, arith}
use Rattle.std.proofs.lemmas.List.{length-map}
use Rattle.std.proofs.lemmas.Bool.{eqb-true}
use Rattle.rsim_base.specs.declared.memory.Node.{Node}
use Rattle.memory_contracts.specs.Store.{IsSound}
use Rattle.elf64_load.specs.declared.span.Span.{Span}
use Rattle.memory_contracts.specs.Flat.{is_at, store_of}
use Rattle.memory_contracts.specs.FlatLayout.{AreKept, view_of}
use Rattle.memory_contracts.specs.Parts.{byte_of_all, doubleword_in, owner_in, wanted_in, wish_of}
use Rattle.memory_contracts.specs.declared.memory.Memory.{Memory}
use Rattle.memory_contracts.specs.declared.owners.Owners.{Owners}
use Rattle.memory_contracts.specs.declared.wishes.Wishes.{Wishes}

at_one : (o : Option Node) (p q : ℕ) → is_at o p ≡ true → is_at o q ≡ true → q ≡ p
at_one None p q e f = cc
at_one (Some r) p q e f = sym (eqb-true r.0 q f) ∙ eqb-true r.0 p e

-- each byte of a number is below 256
pub byte_of_all-small : (doublewords : ℕ → ℕ) (a : ℕ) → byte_of_all doublewords a < 256
byte_of_all-small doublewords a = omega arith

pub IsSound-kept : (memory : Memory) (owners : Owners) (wishes : Wishes) (order : List Span) (line_bytes ticks : ℕ) → AreKept memory owners wishes order line_bytes → IsSound (store_of (view_of memory owners wishes order line_bytes ticks))
IsSound-kept memory owners wishes order line_bytes ticks kept = record {
  within = kept.owned;
  near = λ p l near. near;
  owned = λ p l owned. owned;
  alone = λ p q l owned held. at_one (owner_in owners l) p q owned held;
  few = λ p.
      let l = length-map (wanted_in wishes p) wish_of in
      let most : length (wanted_in wishes p) ≤ 16 = kept.few p in
      omega (arith, l, most);
  small = byte_of_all-small (doubleword_in memory);
}
