-- `importer::import::import`: the answer and the buffer, by the first cause that holds: no graph, 17 or 18, 19, or none.
use Rattle.std.proofs.Common.{◌≡◌, ◌∙◌, Ok, Err, ◌≤◌, sym, ap, length}
use Rattle.std.proofs.lemmas.Result.{err_from_is_err_and}
use Rattle.basics.proofs.Logic.{within_bounds}
use mathlib.Core.Bool.{Bool, not}
use Rattle.sheet.specs.declared.refusal.Refusal.TheVariants.{FigureOutside}
use Rattle.sheet.specs.declared.task.Task.{Task}
use Rattle.sheet.specs.Refusal.{refused_if}
use Rattle.sheet.specs.Rules.{in_range}
use Rattle.sheet.proofs.Said.{said}
use Rattle.graph_text.specs.Read.{read_of}
use Rattle.importer.specs.Import.{import_answer, room_for}
use Rattle.importer.specs.means.Nodes.{nodes_answer, nodes_task}
use Rattle.importer.proofs.Acceptance.{LawfulTerms, terms_kept}
use Rattle.importer.proofs.Imports.{Fine, fine, read_none, read_refused, answer_by, written_by, left_alone}
use Rattle.importer.proofs.import.import.Goals.{In-Ok, In_ok-graph_answer, After-are_in_range}
use Rattle.importer.proofs.import.import.Goals as goal

pub returns-in_default : goal.returns-in_default
returns-in_default c =
    let refused = read_none c.args.text.now c.args.t (length c.args.«record».now) (sym c.read_graph.ensures ∙ c.in_default.is) in
    record { answered = sym refused; says = said (sym refused); written = left_alone c.args.text.now c.args.t c.args.«record».now refused }

-- What was read, and its answer.
read_at : (c : In-Ok) → read_of c.args.text.now ≡ Ok c.in-Ok.graph
read_at c = sym c.read_graph.ensures ∙ c.in-Ok.is

accepted_at : (c : In_ok-graph_answer) → nodes_answer c.in-Ok.graph c.args.t (length c.args.«record».now) ≡ Ok tt
accepted_at c = sym c.graph_answer.ensures ∙ c.in_ok-graph_answer.was

fine_at : (c : In_ok-graph_answer) → Fine c.in-Ok.graph c.args.t (length c.args.«record».now)
fine_at c = fine c.in-Ok.graph c.args.t (length c.args.«record».now) (accepted_at c)

few_at : (c : In_ok-graph_answer) → c.in-Ok.graph.count ≤ 32
few_at c = (within_bounds 1 32 c.in-Ok.graph.count (fine_at c).count).1

terms_at : (c : In_ok-graph_answer) → LawfulTerms c.args.t
terms_at c = terms_kept c.args.t (fine_at c).terms

pub returns-in_err-graph_answer : goal.returns-in_err-graph_answer
returns-in_err-graph_answer c =
    let p = err_from_is_err_and c.from_residual.result c.from_residual.ensures.1 in
    let refused = read_refused c.args.text.now c.in-Ok.graph c.args.t (length c.args.«record».now)
    (read_at (goal.at.returns-in_err-graph_answer c).In-Ok) (sym c.graph_answer.ensures ∙ c.in_err-graph_answer.was) in
    let same : c.from_residual.result ≡ import_answer c.args.text.now c.args.t (length c.args.«record».now) = p.1 ∙ ap Err p.2 ∙ sym refused in
    record { answered = same; says = said same; written = left_alone c.args.text.now c.args.t c.args.«record».now refused }

pub task_of-task-requires : goal.task_of-task-requires
task_of-task-requires c =
    let before = (goal.at.task_of-task-requires c).In_ok-graph_answer in
    record { few = few_at before; level = (terms_at before).level; percentage = (terms_at before).most }

-- The answer by whether the figures are in their range.
answered_at : (c : After-are_in_range) →
    import_answer c.args.text.now c.args.t (length c.args.«record».now)
    ≡ refused_if (not (in_range c.args.t.level (nodes_task c.in-Ok.graph c.args.t).figures)) FigureOutside
answered_at c =
    answer_by c.args.text.now c.in-Ok.graph c.args.t (length c.args.«record».now) (read_at (goal.at.After-are_in_range c).In-Ok)
    (accepted_at (goal.at.After-are_in_range c).In_ok-graph_answer)

range_at : (c : After-are_in_range) → c.are_in_range.result ≡ in_range c.args.t.level (nodes_task c.in-Ok.graph c.args.t).figures
unfolding nodes_task
range_at c = c.are_in_range.ensures ∙ ap (λ (task : Task). in_range task.level task.figures) c.task_of-task.ensures

pub returns-then-not-are_in_range : goal.returns-then-not-are_in_range
returns-then-not-are_in_range c =
    let before = (goal.at.returns-then-not-are_in_range c).After-are_in_range in
    let outside = sym (range_at before) ∙ c.if-not-are_in_range.true in
    let refused = answered_at before ∙ ap (λ (b : Bool). refused_if (not b) FigureOutside) outside in
    record { answered = sym refused; says = said (sym refused); written = left_alone c.args.text.now c.args.t c.args.«record».now refused }

pub write_record-requires : goal.write_record-requires
unfolding nodes_task room_for
write_record-requires c =
    let before = (goal.at.write_record-requires c).In_ok-graph_answer in
    rw c.task_of-task.ensures (few_at before, (fine_at before).enough, (terms_at before).level)

pub returns : goal.returns
returns c =
    let before = (goal.at.returns c).After-are_in_range in
    let inside = sym (range_at before) ∙ c.if-not-are_in_range.false in
    let taken = answered_at before ∙ ap (λ (b : Bool). refused_if (not b) FigureOutside) inside in
    record {
      answered = sym taken;
      says = said (sym taken);
      written =
          (rw c.task_of-task.ensures at c.write_record.ensures)
          ∙ written_by c.args.text.now c.in-Ok.graph c.args.t c.args.«record».now (read_at (goal.at.returns c).In-Ok)
          (accepted_at (goal.at.returns c).In_ok-graph_answer) inside;
    }
