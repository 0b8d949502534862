-- `reader::read_tasks`: no task is read at first, each turn reads one more or refuses, and at the end all are read.
use Rattle.std.proofs.Common.{◌≡◌, sym, ◌∙◌, arith}
use Rattle.std.proofs.lemmas.Result.{err_from_is_err_and}
use Rattle.sheet.specs.Format.{processors_of, task_set_of}
use Rattle.reader.specs.Reading.{record_answer}
use Rattle.sheet.proofs.Faults.{or_else_ok, or_else_err, after_accepted, after_refused, over_next, over_stop, over_end, over_all}
use Rattle.sheet.proofs.Cells.{tasks_none, tasks_store}
use Rattle.reader.proofs.read_tasks.Goals as goal

pub loop-i-init : goal.loop-i-init
loop-i-init c = record { tasks = cc (tasks_none c.args.s.now); passed = over_all (record_answer c.args.s.now) c.args.n }

pub returns-in_err-tasks : goal.returns-in_err-tasks
returns-in_err-tasks c =
    let p = err_from_is_err_and c.from_residual.result c.from_residual.ensures.1 in
    let refused = or_else_err (record_answer c.args.s.now c.loop-i.i) _ (sym c.read_record.ensures ∙ c.in_err-tasks.was) in
    rw (p.1, p.2)
    (sym (after_refused _ _ (sym c.loop-i.invariant.passed ∙ over_stop (record_answer c.args.s.now) c.loop-i.i c.args.n (omega arith) refused)))

pub loop-i-preserved : goal.loop-i-preserved
loop-i-preserved c =
    let told = or_else_ok (record_answer c.args.s.now c.loop-i.i) (sym c.read_record.ensures ∙ c.in_ok-tasks.was) in
    record {
      tasks = rw (c.from.ensures, told.1, c.loop-i.invariant.tasks) (tasks_store c.args.s.now c.loop-i.i (omega arith));
      passed = over_next (record_answer c.args.s.now) c.loop-i.i _ (omega arith) told.0 ∙ c.loop-i.invariant.passed;
    }

pub returns : goal.returns
unfolding task_set_of processors_of
returns c =
    let all : c.loop-i.i ≡ c.args.n = omega arith in
    let passed = sym c.loop-i.invariant.passed ∙ over_end (record_answer c.args.s.now) c.loop-i.i c.args.n (omega arith) in
    rw (c.byte_at.ensures, c.loop-i.invariant.tasks, all, ← c.requires.0) (sym (after_accepted _ _ passed))
