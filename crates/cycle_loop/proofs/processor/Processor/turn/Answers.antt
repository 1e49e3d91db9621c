use Rattle.std.proofs.Common.{◌≡◌, true, false, ap, sym, ◌∙◌}
use Rattle.memory_contracts.specs.Store.{StoreView}
use Rattle.sparc_decode.specs.declared.instr.Instr.{Instr}
use Rattle.sparc_meaning.specs.Arch.{is_running}
use Rattle.sparc_meaning.specs.Step.{step}
use Rattle.cycle_loop.specs.Lines.{wants_line}
use Rattle.cycle_loop.specs.Machine.{value_found}
use Rattle.cycle_loop.specs.Processors.{view_of}
use Rattle.cycle_loop.specs.Stores.{may_store}
use Rattle.cycle_loop.proofs.Allowed.{step_stores}
use Rattle.cycle_loop.proofs.Parting.{has_line_over, step_next, turn_made_over, turn_tried_over, wanted_mapped}
use Rattle.cycle_loop.proofs.processor.Processor.turn.Goals as goal

pub lacks_wanted-requires-clause-mapped : goal.lacks_wanted-requires-clause-mapped
lacks_wanted-requires-clause-mapped g c =
    let runs : is_running c.args.self.now.arch.end ≡ true = cc in
    wanted_mapped c.args.image.now (g.M.CoherentStore.meaning c.args.store.now) c.args.self.now.arch c.peek_at-want.result c.requires.may.mapped (c.peek_at-want.ensures.wants runs 0)

pub value_for-value-requires-clause-mapped : goal.value_for-value-requires-clause-mapped
value_for-value-requires-clause-mapped g c =
    let runs : is_running c.args.self.now.arch.end ≡ true = cc in
    wanted_mapped c.args.image.now (g.M.CoherentStore.meaning c.lacks_wanted.new.store) c.args.self.now.arch c.peek_at-want.result
    (ap (λ (v : StoreView). v.mapped) c.lacks_wanted.ensures.store ∙ c.requires.may.mapped) (c.peek_at-want.ensures.wants runs 0)

pub step-requires-clause-has : goal.step-requires-clause-has
step-requires-clause-has g c =
    let v = g.M.CoherentStore.meaning c.args.store.now in
    let w = g.M.CoherentStore.meaning c.value_for-value.new.store in
    let arch = c.args.self.now.arch in
    let runs : is_running arch.end ≡ true = cc in
    let asked : w ≡ record v { wishes = w.wishes } = c.value_for-value.ensures.store ∙ c.lacks_wanted.ensures.store ∙ ap (λ (u : StoreView). let x : StoreView = record v { wishes = u.wishes } in x) (sym c.value_for-value.ensures.store) in
    let has : wants_line v c.args.p.0 c.peek_at-want.result ≡ false = sym c.lacks_wanted.ensures.value ∙ c.if-lacks_wanted.false in
    let off : may_store arch.phase c.instr_at-i.result.op ≡ false = sym c.may_store.ensures ∙ c.if-may_store.false in
    has_line_over c.args.image.now v w c.args.p.0 arch c.value_for-value.result c.peek_at-want.result asked (c.peek_at-want.ensures.wants runs 0) has
    (step_stores c.args.image.now arch c.value_for-value.result (ap (λ (i : Instr). may_store arch.phase i.op) (sym c.instr_at-i.ensures.value) ∙ off))

pub returns-then-may_store-clause-rule : goal.returns-then-may_store-clause-rule
returns-then-may_store-clause-rule g c =
    let v = g.M.CoherentStore.meaning c.args.store.now in
    let w = g.M.CoherentStore.meaning c.value_for-value.new.store in
    let arch = c.args.self.now.arch in
    let runs : is_running arch.end ≡ true = cc in
    let asked : w ≡ record v { wishes = w.wishes } = c.value_for-value.ensures.store ∙ c.lacks_wanted.ensures.store ∙ ap (λ (u : StoreView). let x : StoreView = record v { wishes = u.wishes } in x) (sym c.value_for-value.ensures.store) in
    let bytes = ap (λ (u : StoreView). u.bytes) c.lacks_wanted.ensures.store in
    let found = step_next c.args.image.now v.bytes arch c.peek_at-want.result c.value_for-value.result (c.peek_at-want.ensures.wants runs 0)
    (c.value_for-value.ensures.value ∙ ap (λ b. value_found b c.peek_at-want.result) bytes) in
    c.try_step.ensures.rule ∙ turn_tried_over c.args.image.now v w c.args.p.0 (view_of c.args.self.now) c.args.log.now.places (step c.args.image.now arch c.value_for-value.result) asked runs found

pub returns-else-may_store-clause-rule : goal.returns-else-may_store-clause-rule
returns-else-may_store-clause-rule g c =
    let v = g.M.CoherentStore.meaning c.args.store.now in
    let w = g.M.CoherentStore.meaning c.value_for-value.new.store in
    let arch = c.args.self.now.arch in
    let runs : is_running arch.end ≡ true = cc in
    let asked : w ≡ record v { wishes = w.wishes } = c.value_for-value.ensures.store ∙ c.lacks_wanted.ensures.store ∙ ap (λ (u : StoreView). let x : StoreView = record v { wishes = u.wishes } in x) (sym c.value_for-value.ensures.store) in
    let has : wants_line v c.args.p.0 c.peek_at-want.result ≡ false = sym c.lacks_wanted.ensures.value ∙ c.if-lacks_wanted.false in
    let off : may_store arch.phase c.instr_at-i.result.op ≡ false = sym c.may_store.ensures ∙ c.if-may_store.false in
    let bytes = ap (λ (u : StoreView). u.bytes) c.lacks_wanted.ensures.store in
    let found = step_next c.args.image.now v.bytes arch c.peek_at-want.result c.value_for-value.result (c.peek_at-want.ensures.wants runs 0)
    (c.value_for-value.ensures.value ∙ ap (λ b. value_found b c.peek_at-want.result) bytes) in
    c.step.ensures.rule ∙ turn_made_over c.args.image.now v w c.args.p.0 (view_of c.args.self.now) c.args.log.now.places (step c.args.image.now arch c.value_for-value.result) asked runs found
    (has_line_over c.args.image.now v w c.args.p.0 arch c.value_for-value.result c.peek_at-want.result asked (c.peek_at-want.ensures.wants runs 0) has
    (step_stores c.args.image.now arch c.value_for-value.result (ap (λ (i : Instr). may_store arch.phase i.op) (sym c.instr_at-i.ensures.value) ∙ off)))
