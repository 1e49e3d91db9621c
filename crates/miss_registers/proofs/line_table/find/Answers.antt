use Rattle.std.proofs.Common.{◌≡◌, ℕ, ap, sym, ◌∙◌, inl, inr, arith}
use Rattle.std.proofs.lemmas.Bool.{eqb-true, eqb-false}
use Rattle.slab.proofs.SlabLemmas.{Contains-cons, Contains-cons_cases, Contains-entries}
use Rattle.miss_registers.specs.LineMap.{entry_of}
use Rattle.miss_registers.proofs.line_table.find.Goals as goal

pub loop-key-init : goal.loop-key-init
loop-key-init g c =
    let left = c.into_iter-key-iterator.ensures.into_iter_gives ∙ c.iter-key-items.ensures.rest in (
      tt,
      tt,
      λ key value found. rw left ((Contains-entries c.args.entries.now key (entry_of c.args.line.0 value)).1 found),
      λ key value there. (Contains-entries c.args.entries.now key (entry_of c.args.line.0 value)).0 (rw left at there),
    )

pub returns-then-eq-clause-found : goal.returns-then-eq-clause-found
returns-then-eq-clause-found g c =
    let same : c.in-Some.entry.now.line.0 ≡ c.args.line.0 = eqb-true _ _ (sym c.if-eq.ensures) in
    let value = c.in-Some.entry.now.value in (
      value,
      c.loop-key.invariant.3 c.in-Some.key value (rw c.in-Some.ensures.steps (0, omega arith, ap (λ (l : ℕ). (c.in-Some.key, entry_of l value)) same)),
    )

pub loop-key-preserved : goal.loop-key-preserved
loop-key-preserved g c =
    let at = c.in-Some.ensures.steps in (
      tt,
      tt,
      λ key value found. elim (Contains-cons_cases _ _ _ (rw at at (c.loop-key.invariant.2 key value found))) [
        | inl same ↦ absurd (eqb-false _ _ (sym c.if-eq.ensures) (ap (λ e. e.1.line.0) same))
        | inr rest ↦ rest
      ],
      λ key value there. c.loop-key.invariant.3 key value (rw at (Contains-cons _ _ _ there)),
    )
