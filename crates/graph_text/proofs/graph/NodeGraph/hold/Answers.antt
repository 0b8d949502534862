-- `graph_text::graph::NodeGraph::hold`: a node's number is a place, and at no other entry a number is stored.
use Rattle.std.proofs.Common.{◌≤◌, sym, ◌∙◌, arith}
use Rattle.graph_text.specs.means.Entries.{held_with, stored_at}
use Rattle.graph_text.proofs.Entries.{node_bounds}
use Rattle.graph_text.proofs.graph.NodeGraph.hold.Goals.{Then-is_node, then-is_node, else-is_node}
use Rattle.graph_text.proofs.graph.NodeGraph.hold.Goals as goal

bounds-at : (c : Then-is_node) → (1 ≤ c.args.v) × (c.args.v ≤ 32)
bounds-at c = node_bounds c.args.self.now.count c.args.v (sym c.is_node.ensures ∙ c.if-is_node.true)

pub overflow_sub-i : goal.overflow_sub-i
overflow_sub-i c = (bounds-at c).0

pub bounds-self-i : goal.bounds-self-i
bounds-self-i c = let b = bounds-at (goal.at.bounds-self-i c).Then-is_node in omega arith

pub bounds-self-i-then-is_node : goal.bounds-self-i-then-is_node
bounds-self-i-then-is_node c = let b = bounds-at (goal.at.bounds-self-i-then-is_node c).Then-is_node in omega arith

pub returns : goal.returns
unfolding held_with stored_at
returns c =
    elim c.if-is_node.branch [
      | then-is_node w ↦ let is = sym c.is_node.ensures ∙ w.if-is_node.true in rw (w.self-is, is)
      | else-is_node w ↦ let is = sym c.is_node.ensures ∙ w.if-is_node.false in rw (w.self-is, is)
    ]
