-- What a text is read as: the graph by its nodes, where it says one.
use Rattle.std.specs.Prelude.{ℕ, List, Result, Ok, Err, Option, None, Some}
use Rattle.graph_text.specs.declared.graph.NodeGraph.{NodeGraph}
use Rattle.graph_text.specs.declared.text.BadFormat.{BadFormat}
use Rattle.graph_text.specs.Graph.{Graph, graph_of, is_rising, masks_of, times_of}

-- A graph by its nodes.
abbrev pub node_graph : Option Graph → Result NodeGraph BadFormat
node_graph None = Err (record {})
node_graph (Some g) = Ok (record { count = g.count; rising = is_rising g; times = times_of g; masks = masks_of g })

-- S14.1 to S14.5: what a text is read as.
unfoldable pub read_of : List ℕ → Result NodeGraph BadFormat
read_of text = node_graph (graph_of text)
