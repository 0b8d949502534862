-- The task of a graph that is held by its nodes, and its answer.
use Rattle.std.specs.Prelude.{ℕ, not, ◌&&◌, List, leb}
use Rattle.basics.specs.Lists.{cells}
use Rattle.basics.specs.Numbers.{within}
use Rattle.sheet.specs.declared.refusal.Refusal.TheVariants.{BadText, BadGraph}
use Rattle.sheet.specs.declared.task.Task.{Task}
use Rattle.sheet.specs.Refusal.{Answer, refused_if, ◌or_else◌}
use Rattle.graph_text.specs.declared.graph.NodeGraph.{NodeGraph}
use Rattle.chains.specs.Chains.{budget_of}
use Rattle.chains.specs.means.Bounds.{time_at}
use Rattle.importer.specs.declared.terms.Terms.{Terms}
use Rattle.importer.specs.Task.{terms_lawful, scaled}
use Rattle.importer.specs.Import.{room_for}

-- The times of k nodes by a percentage.
unfoldable pub scaled_times : ℕ → ℕ → List ℕ → List ℕ
scaled_times k percentage times = cells 32 (λ v. scaled percentage (time_at times v)) 0 k

-- The task. At 100 percent the times are what they were.
unfoldable pub nodes_task : NodeGraph → Terms → Task
nodes_task graph t =
    record {
      level = t.level;
      nodes = graph.count;
      figures =
          record {
            deadline = t.deadline;
            nominal = budget_of graph.masks (time_at (scaled_times graph.count 100 graph.times)) graph.count;
            overload = budget_of graph.masks (time_at (scaled_times graph.count t.percentage graph.times)) graph.count;
          };
      predecessors = graph.masks;
    }

-- Refusals 17 and 18 in this order.
unfoldable pub nodes_answer : NodeGraph → Terms → ℕ → Answer
nodes_answer graph t room =
    refused_if (not (terms_lawful t && leb (room_for graph.count) room)) BadText
    or_else refused_if (not (within 1 32 graph.count && graph.rising)) BadGraph
