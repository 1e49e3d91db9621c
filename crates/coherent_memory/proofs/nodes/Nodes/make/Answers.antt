use Rattle.std.proofs.Common.{◌≡◌, ℕ, ◌<◌, [], ◌∷◌, ◌++◌, List, length, rules, subst, sym, arith}
use Rattle.node_memory.specs.NodeViews.{node_of}
use Rattle.node_memory.specs.Nodes.{NodeView, empty_node}
use Rattle.node_memory.specs.declared.node.NodeMemory.{NodeMemory}
use Rattle.coherent_memory.specs.NodeRows.{no_node}
use Rattle.coherent_memory.specs.Rows.{rows_of}
use Rattle.coherent_memory.proofs.PartRows.{rows_of-more}
use Rattle.machine_config.specs.Sizes.{sizes_of}
use Rattle.coherent_memory.proofs.nodes.Nodes.make.Goals as goal

pub overflow_cast-p : goal.overflow_cast-p
overflow_cast-p c = omega (arith, (sizes_of c.args.config.now c.requires).processors.1)

pub loop-p-preserved : goal.loop-p-preserved
loop-p-preserved c =
    let list = c.loop-p.list.items in
    let node = c.in_ok-node.node in
    let count = c.loop-p.invariant.count in
    let pushed : c.push.new.self.items ≡ list ++ node ∷ [] = search rules in
    let P : ℕ → NodeView → Type 0 = λ q v. v ≡ empty_node c.args.config.now q in
    let last : P (length list) (node_of node) = subst (λ (q : ℕ). P q (node_of node)) (sym count) c.in_ok-node.ensures in
    let all : (q : ℕ) → q < length (list ++ node ∷ []) → P q (rows_of node_of no_node (list ++ node ∷ []) q) = rows_of-more node_of no_node P list node c.loop-p.invariant.start last in
    record {
      count = search rules;
      start = subst (λ (ns : List NodeMemory). (q : ℕ) → q < length ns → P q (rows_of node_of no_node ns q)) (sym pushed) all;
    }
