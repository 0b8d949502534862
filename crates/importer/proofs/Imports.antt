-- What import answers and writes, by what was read: the graph that is held by its nodes is the graph that the text says, so are its task and
-- its answer.
use Prim.Native.Nat.{ℕ, ◌+◌, ◌*◌, ◌≤◌, ◌<◌}
use mathlib.Core.Bool.{true, not, ◌&&◌, and-eq-true_iff}
use mathlib.Core.List.{List, ◌++◌}
use mathlib.Core.Path.{◌≡◌, refl, sym, ap, ◌∙◌}
use native.Mathlib.Omega.{arith}
use lib.Dec.{leb}
use lib.ListN.{length, drop}
use lib.Seq.{sets, sets-eq}
use borrow.Author.Tests.{leb-true}
use Rattle.basics.specs.Numbers.{within}
use Rattle.basics.proofs.Cells.{cells-length, cells_at}
use Rattle.std.specs.Prelude.{Ok, Err, Option, None, Some}
use Rattle.sheet.specs.declared.refusal.Refusal.{Refusal}
use Rattle.sheet.specs.declared.refusal.Refusal.TheVariants.{BadText, BadGraph, FigureOutside}
use Rattle.sheet.specs.declared.task.Task.{Task}
use Rattle.sheet.specs.Refusal.{Answer, refused_if, ◌or_else◌, written_if}
use Rattle.sheet.specs.Encoding.{figure_bytes, record_bytes}
use Rattle.sheet.specs.Rules.{in_range}
use Rattle.sheet.proofs.Encoding.{masks_length, narrow_record}
use Rattle.sheet.proofs.Wide.{first_narrow}
use Rattle.sheet.proofs.Faults.{after_accepted, after_refused, rule_kept}
use Rattle.basics.specs.Numbers.{u16_bytes}
use Rattle.basics.proofs.Logic.{within_bounds}
use Rattle.graph_text.specs.Graph.{Graph, graph_of, is_rising, node_of, time_of, mask_of, masks_of, times_of}
use Rattle.graph_text.specs.Read.{node_graph, read_of}
use Rattle.graph_text.specs.declared.graph.NodeGraph.{NodeGraph}
use Rattle.graph_text.specs.declared.text.BadFormat.{BadFormat}
use Rattle.importer.proofs.Orders.{scaled_whole}
use Rattle.chains.specs.means.Bounds.{time_at}
use Rattle.chains.proofs.Laws.{budget_same}
use Rattle.importer.specs.declared.terms.Terms.{Terms}
use Rattle.importer.specs.Task.{terms_lawful, scaled, overload_time_of, figures_of, task_from}
use Rattle.importer.specs.Import.{room_for, is_asked_well, graph_lawful, answer_for, import_answer, record_for, imported_record, imported}
use Rattle.importer.specs.means.Nodes.{scaled_times, nodes_task, nodes_answer}
use Rattle.importer.proofs.Acceptance.{first_kept_lem, terms_kept}

-- A graph by its nodes.
abbrev held : Graph → NodeGraph
held g = record { count = g.count; rising = is_rising g; times = times_of g; masks = masks_of g }

-- There are 32 masks.
masks_held : (g : Graph) → length (masks_of g) ≡ 32
unfolding masks_of
masks_held g = cells-length (λ v. mask_of (node_of g v).predecessors) 0 0 32 g.count

-- The task of a graph that is held by its nodes is the graph's.
module _ (g : Graph) (t : Terms) (few : g.count ≤ 32) where
  time_held : (v : ℕ) → v < g.count → time_at (times_of g) v ≡ time_of g v
  unfolding times_of time_of
  time_held v h = cells_at (λ u. (node_of g u).time) 0 32 g.count v 0 (omega arith) h

  scaled_held : (percentage v : ℕ) → v < g.count → time_at (scaled_times g.count percentage (times_of g)) v ≡ scaled percentage (time_of g v)
  unfolding scaled_times
  scaled_held percentage v h =
      cells_at (λ u. scaled percentage (time_at (times_of g) u)) 0 32 g.count v 0 (omega arith) h
      ∙ ap (scaled percentage) (time_held v h)

  pub task_held : nodes_task (held g) t ≡ task_from g t
  unfolding nodes_task task_from figures_of overload_time_of
  task_held =
      rw (
        budget_same (masks_of g) (time_at (scaled_times g.count 100 (times_of g))) (time_of g) g.count
            (λ v h. scaled_held 100 v h ∙ scaled_whole 100 (time_of g v) refl),
        budget_same (masks_of g) (time_at (scaled_times g.count t.percentage (times_of g))) (overload_time_of g t.percentage) g.count
            (scaled_held t.percentage),
      )

-- The facts behind an answer of what was read that accepts.
pub record Fine (graph : NodeGraph) (t : Terms) (room : ℕ) : Type 0 where
  pub terms : terms_lawful t ≡ true
  pub enough : room_for graph.count ≤ room
  pub count : within 1 32 graph.count ≡ true
  pub rising : graph.rising ≡ true

pub fine : (graph : NodeGraph) (t : Terms) (room : ℕ) → nodes_answer graph t room ≡ Ok tt → Fine graph t room
unfolding nodes_answer
fine graph t room h =
    let graph_rule = within 1 32 graph.count && graph.rising in
    let first = first_kept_lem (terms_lawful t && leb (room_for graph.count) room) BadText (refused_if (not graph_rule) BadGraph) h in
    let second = rule_kept graph_rule BadGraph first.1 in
    let asked = (and-eq-true_iff (terms_lawful t) (leb (room_for graph.count) room)).0 first.0 in
    let shape = (and-eq-true_iff (within 1 32 graph.count) graph.rising).0 second in
    record {
      terms = asked.0;
      enough = leb-true (room_for graph.count) room asked.1;
      count = shape.0;
      rising = shape.1;
    }

-- Two causes and a third: what the two refuse is refused, and past them the third answers.
two_refused : (a b c : Answer) {r : Refusal} → (a or_else b) ≡ Err r → (a or_else b or_else c) ≡ Err r
two_refused (Ok u) b c h = after_refused b c h
two_refused (Err r) b c h = h

two_accepted : (a b c : Answer) → (a or_else b) ≡ Ok tt → (a or_else b or_else c) ≡ c
two_accepted (Ok u) b c h = after_accepted b c h
two_accepted (Err r) b c h = absurd (cc)

-- A text that says no graph is refused.
pub read_none : (text : List ℕ) (t : Terms) (room : ℕ) {e : BadFormat} → read_of text ≡ Err e → import_answer text t room ≡ Err BadText
unfolding read_of import_answer
read_none text t room {e} = go (graph_of text)
  where
    go : (found : Option Graph) → node_graph found ≡ Err e → answer_for found t room ≡ Err BadText
    go None h = refl
    go (Some g) h = absurd (cc)

-- The graph that was read is one that the text says, by its nodes.
pub record Said (text : List ℕ) (graph : NodeGraph) : Type 0 where
  pub whole : Graph
  pub says : graph_of text ≡ Some whole
  pub nodes : graph ≡ held whole

pub graph_said : (text : List ℕ) (graph : NodeGraph) → read_of text ≡ Ok graph → Said text graph
unfolding read_of
graph_said text graph = go (graph_of text) refl
  where
    go : (found : Option Graph) → graph_of text ≡ found → node_graph found ≡ Ok graph → Said text graph
    go None e h = absurd (cc)
    go (Some g) e h = record { whole = g; says = e; nodes = cc }

-- What was read, and its answer.
module _ (text : List ℕ) (graph : NodeGraph) (t : Terms) (room : ℕ) (read : read_of text ≡ Ok graph) where
  answer_is : (said : Said text graph) →
      import_answer text t room
      ≡ (refused_if (not (is_asked_well said.whole t room)) BadText
      or_else refused_if (not (graph_lawful said.whole)) BadGraph
      or_else refused_if (not (in_range t.level (figures_of said.whole t))) FigureOutside)
  unfolding import_answer
  answer_is said = ap (λ (o : Option Graph). answer_for o t room) said.says

  -- The first two refusals are those of what was read.
  pub read_refused : {r : Refusal} → nodes_answer graph t room ≡ Err r → import_answer text t room ≡ Err r
  unfolding nodes_answer is_asked_well graph_lawful
  read_refused h =
      let said = graph_said text graph read in
      answer_is said
      ∙ two_refused (refused_if (not (is_asked_well said.whole t room)) BadText) (refused_if (not (graph_lawful said.whole)) BadGraph)
      (refused_if (not (in_range t.level (figures_of said.whole t))) FigureOutside) (rw said.nodes at h)

  -- Past them the answer is that of 19, of the task that was made.
  pub task_said : nodes_answer graph t room ≡ Ok tt → nodes_task graph t ≡ task_from (graph_said text graph read).whole t
  task_said h =
      let said = graph_said text graph read in
      let few = (within_bounds 1 32 said.whole.count (rw said.nodes at (fine graph t room h).count)).1 in
      ap (λ (n : NodeGraph). nodes_task n t) said.nodes ∙ task_held said.whole t few

  pub answer_by : nodes_answer graph t room ≡ Ok tt →
      import_answer text t room ≡ refused_if (not (in_range t.level (nodes_task graph t).figures)) FigureOutside
  unfolding nodes_answer is_asked_well graph_lawful task_from
  answer_by h =
      let said = graph_said text graph read in
      answer_is said
      ∙ two_accepted (refused_if (not (is_asked_well said.whole t room)) BadText) (refused_if (not (graph_lawful said.whole)) BadGraph)
      (refused_if (not (in_range t.level (figures_of said.whole t))) FigureOutside) (rw said.nodes at h)
      ∙ ap (λ (task : Task). refused_if (not (in_range t.level task.figures)) FigureOutside) (sym (task_said h))

-- Past 17 and 18, 19 and what is left.
record_room : (t : Task) (room : ℕ) → t.level ≤ 1 → t.nodes ≤ length t.predecessors → 12 + 4 * t.nodes ≤ room →
    0 + length (record_bytes t) ≤ room
unfolding figure_bytes u16_bytes
record_room t room low masks enough =
    rw (narrow_record t (first_narrow t.level low)) (omega (arith, masks_length t.nodes t.predecessors masks))

-- The record at the front of the buffer.
pub written_by : (text : List ℕ) (graph : NodeGraph) (t : Terms) (buffer : List ℕ) (read : read_of text ≡ Ok graph) →
    nodes_answer graph t (length buffer) ≡ Ok tt → in_range t.level (nodes_task graph t).figures ≡ true →
    sets buffer 0 (record_bytes (nodes_task graph t)) ≡ imported text t buffer
unfolding imported imported_record nodes_task room_for
written_by text graph t buffer read h inside =
    let said = graph_said text graph read in
    let f = fine graph t (length buffer) h in
    let few = (within_bounds 1 32 graph.count f.count).1 in
    let long : length graph.masks ≡ 32 = rw said.nodes (masks_held said.whole) in
    let fits = record_room (nodes_task graph t) (length buffer) (terms_kept t f.terms).level (omega (arith, few, long)) f.enough in
    let accepts : import_answer text t (length buffer) ≡ Ok tt = answer_by text graph t (length buffer) read h ∙ rw inside in
    let bytes : record_for (graph_of text) t ≡ record_bytes (nodes_task graph t) =
    ap (λ (o : Option Graph). record_for o t) said.says ∙ ap record_bytes (sym (task_said text graph t (length buffer) read h)) in
    let place : 0 + length (record_bytes (nodes_task graph t)) ≡ length (record_bytes (nodes_task graph t)) = omega arith in
    rw (accepts, bytes)
    (sets-eq (record_bytes (nodes_task graph t)) buffer 0 fits ∙ ap (λ (n : ℕ). record_bytes (nodes_task graph t) ++ drop n buffer) place)

-- A refusal leaves the buffer.
pub left_alone : (text : List ℕ) (t : Terms) (buffer : List ℕ) {r : Refusal} → import_answer text t (length buffer) ≡ Err r →
    buffer ≡ imported text t buffer
unfolding imported
left_alone text t buffer h = sym (ap (λ (a : Answer). written_if a (imported_record text t) buffer) h)
