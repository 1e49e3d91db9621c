use Rattle.std.proofs.Common.{◌/◌, ◌%◌, Some, option_map, slice_index, sym, ap, ◌∙◌}
use Rattle.rsim_base.specs.Bytes.{count_of}
use Rattle.cache_levels.specs.Levels as level
use Rattle.cache_levels.specs.Levels.{LevelsView, near, touched_levels, touched_line}
use Rattle.cache_levels.specs.declared.levels.LineCopy.{LineCopy}
use Rattle.memory_contracts.specs.Store.{value_at}
use Rattle.node_memory.specs.NodeViews.{node_of}
use Rattle.node_memory.proofs.Below.{CacheLaws}
use Rattle.node_memory.proofs.Reading.{near-has_bytes, read-near, read-value}
use Rattle.node_memory.proofs.Touching.{sound-touched}
use Rattle.node_memory.proofs.node.NodeMemory.read.Goals as goal

pub invariant_of-self : goal.invariant_of-self
invariant_of-self c =
    let laws : CacheLaws = assumption in
    let s = c.args.self.now in
    let v = node_of s in
    record { sound = sound-touched laws c.line_of-line.result.0 v c.touch.new.self s.sound c.touch.ensures.touched c.touch.ensures.sound; bytes = ap (λ (l : LevelsView). l.line_bytes) c.touch.ensures.touched ∙ s.bytes }

pub returns-in_err-bytes-clause-value : goal.returns-in_err-bytes-clause-value
returns-in_err-bytes-clause-value c =
    let laws : CacheLaws = assumption in
    let s = c.args.self.now in
    let v = node_of s in
    let line = c.line_of-line.result.0 in
    let bytes = c.in_err-bytes.ensures ∙ ap (λ (levels : LevelsView). option_map (λ (copy : LineCopy). copy.bytes) (level.copy_of line levels)) c.touch.ensures.touched in
    absurd (near-has_bytes laws line v s.sound (sym c.near.ensures ∙ c.if-not-near.false) (sym bytes))

pub returns-clause-value : goal.returns-clause-value
returns-clause-value c =
    let laws : CacheLaws = assumption in
    let s = c.args.self.now in
    let v = node_of s in
    let a = c.args.a.0 in
    let line = ap (λ l. l.0) c.line_of-line.ensures ∙ ap (λ n. a / n) (sym s.bytes) in
    let there = ap (λ l. near l v.levels) (sym line) ∙ (sym c.near.ensures ∙ c.if-not-near.false) in
    let levels = ap (λ (levels : LevelsView). option_map (λ (copy : LineCopy). copy.bytes) (level.copy_of c.line_of-line.result.0 levels)) c.touch.ensures.touched in
    let bytes = sym (c.in_ok-bytes.ensures ∙ (levels ∙ ap (λ l. option_map (λ (copy : LineCopy). copy.bytes) (level.copy_of l (touched_levels l v.levels))) line)) in
    let value = ap (λ n. value_at (slice_index c.in_ok-bytes.bytes.now) (a % n) (count_of c.args.n)) (sym s.bytes) ∙ read-value laws v a c.args.n c.in_ok-bytes.bytes.now s.sound c.requires bytes in
    ap Some (c.value_of.ensures ∙ value) ∙ sym (read-near v a c.args.n there)
