-- `graph_text::graph::read_graph`: the graph that is held is the one that the numerals say.
use Rattle.std.proofs.Common.{◌≡◌, suc, sym, ap, ◌∙◌}
use Rattle.std.proofs.lemmas.Result.{err_from_is_err_and}
use Rattle.graph_text.specs.Graph.{graph_of, graph_from}
use Rattle.graph_text.specs.Read.{node_graph, read_of}
use Rattle.graph_text.specs.means.Entries.{none_held, held_of, held_graph}
use Rattle.graph_text.proofs.Held.{graph_held, graph_none}
use Rattle.graph_text.proofs.graph.read_graph.Goals.{In_ok-take}
use Rattle.graph_text.proofs.graph.read_graph.Goals as goal

pub returns-in_err-take : goal.returns-in_err-take
unfolding read_of graph_of
returns-in_err-take c =
    let p = err_from_is_err_and c.from_residual.result c.from_residual.ensures.1 in
    rw p.1 (ap node_graph (sym (graph_none _ (rw c.new-numerals.ensures at c.in_err-take.ensures.told))))

-- What is held of the numerals behind the count is what the text says.
read_at : (c : In_ok-take) →
    held_graph (held_of c.in_ok-take.field-0 0 (suc (suc c.in_ok-take.field-0)) (none_held c.in_ok-take.field-0) c.take.new.self)
    ≡ read_of c.args.text.now
unfolding read_of graph_of
read_at c =
    graph_held c.in_ok-take.field-0 c.take.new.self
    ∙ ap (λ numerals. node_graph (graph_from numerals)) (sym c.in_ok-take.ensures.told ∙ c.new-numerals.ensures)

pub returns-in_err-read_entries : goal.returns-in_err-read_entries
returns-in_err-read_entries c =
    let p = err_from_is_err_and c.from_residual-in_err-read_entries.result c.from_residual-in_err-read_entries.ensures.1 in
    let none = rw c.new-graph.ensures at c.in_err-read_entries.ensures in
    rw p.1 (sym (ap held_graph none) ∙ read_at (goal.at.returns-in_err-read_entries c).In_ok-take)

pub returns : goal.returns
returns c =
    let held = rw c.new-graph.ensures at c.in_ok-read_entries.ensures in
    sym (ap held_graph held) ∙ read_at (goal.at.returns c).In_ok-take
