-- `graph_text::graph::read_named`: the loop's invariant.
use Rattle.std.proofs.Common.{◌≡◌, ◌-◌}
use Rattle.graph_text.specs.means.Entries.{taken_from, named_from}
use Rattle.graph_text.proofs.graph.read_named.Given as goal

-- The node as it stands, with the predecessors that are left, is the node with all.
abbrev pub invariant-loop : goal.invariant-loop
invariant-loop l =
    taken_from (named_from l.v (l.many - l.counter) l.node) l.numerals ≡ taken_from (named_from l.v l.many l.initial.node) l.initial.numerals
