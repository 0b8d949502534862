-- `reader::read_tasks`: the tasks passed are accepted and stand in their cells.
use Rattle.std.proofs.Common.{◌≡◌, ◌-◌}
use Rattle.sheet.specs.Refusal.{first_over}
use Rattle.sheet.specs.Format.{tasks_below}
use Rattle.reader.specs.Reading.{record_answer}
use Rattle.reader.proofs.read_tasks.Given as goal

abbrev pub invariant-loop-i : goal.invariant-loop-i
invariant-loop-i l =
    record {
      tasks : l.tasks ≡ tasks_below l.s l.i;
      passed : first_over (record_answer l.s) l.i (l.n - l.i) ≡ first_over (record_answer l.s) 0 l.n;
    }
