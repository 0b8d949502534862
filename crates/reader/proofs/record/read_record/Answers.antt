-- `reader::record::read_record`: the directory says where and how long; then the record's shape, then its task, decide.
use Rattle.std.proofs.Common.{◌≡◌, sym, ◌∙◌}
use Rattle.reader.specs.Reading.{record_answer}
use Rattle.sheet.specs.Format.{task_at, level_at, nodes_at, offset_of, length_of}
use Rattle.sheet.specs.Rules.{shape_lawful}
use Rattle.reader.proofs.Records.{record_refused, record_shaped, nodes_few}
use Rattle.std.proofs.lemmas.Result.{err_from_is_err_and}
use Rattle.sheet.proofs.Faults.{after_refused, after_accepted}
use Rattle.reader.proofs.record.read_record.Goals.{After-is_shaped, After-answer}
use Rattle.reader.proofs.record.read_record.Goals as goal

-- The place of the record, and its shape, as the directory says them.
at_is : (c : After-is_shaped) → c.offset_of.result ≡ offset_of c.args.s.now c.args.i
at_is c = c.offset_of.ensures.value

shape_is : (c : After-is_shaped) → c.is_shaped.result ≡ shape_lawful (level_at c.args.s.now (offset_of c.args.s.now c.args.i)) (nodes_at c.args.s.now (offset_of c.args.s.now c.args.i)) (length_of c.args.s.now c.args.i)
shape_is c = rw (c.is_shaped.ensures, at_is c, c.length_of.ensures.value)

pub returns-then-not-is_shaped : goal.returns-then-not-is_shaped
returns-then-not-is_shaped c =
    let before = (goal.at.returns-then-not-is_shaped c).After-is_shaped in
    sym (after_refused _ _ (record_refused c.args.s.now c.args.i (sym (shape_is before) ∙ c.if-not-is_shaped.true)))

pub task-task-requires : goal.task-task-requires
task-task-requires c = nodes_few _ _ _ (sym c.is_shaped.ensures ∙ c.if-not-is_shaped.false)

pub answer-requires : goal.answer-requires
unfolding task_at
answer-requires c = rw c.task-task.ensures (nodes_few _ _ _ (sym c.is_shaped.ensures ∙ c.if-not-is_shaped.false))

-- Past the test the answer is the task's.
answered : (c : After-answer) → record_answer c.args.s.now c.args.i ≡ c.answer.result
answered c =
    let before = (goal.at.After-answer c).After-is_shaped in
    record_shaped c.args.s.now c.args.i (sym (shape_is before) ∙ c.if-not-is_shaped.false)
    ∙ rw (c.answer.ensures, c.task-task.ensures, at_is before)

pub returns-in_err-answer : goal.returns-in_err-answer
returns-in_err-answer c =
    let p = err_from_is_err_and c.from_residual.result c.from_residual.ensures.1 in
    rw (p.1, p.2) (sym (after_refused _ _ (answered (goal.at.returns-in_err-answer c).After-answer ∙ c.in_err-answer.was)))

pub returns : goal.returns
returns c =
    let before = (goal.at.returns c).After-is_shaped in
    rw (c.task-task.ensures, at_is before) (sym (after_accepted _ _ (answered (goal.at.returns c).After-answer ∙ c.in_ok-answer.was)))
