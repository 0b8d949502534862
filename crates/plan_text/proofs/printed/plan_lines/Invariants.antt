-- `plan_text::printed::plan_lines`: the text with the lines of the tasks that are left is the whole.
use Rattle.std.proofs.Common.{◌≡◌, []}
use Rattle.plan_text.specs.Printed.{plan_lines}
use Rattle.plan_text.specs.means.Growth.{with_bytes}
use Rattle.plan_text.proofs.Tasks.{lines_from}
use Rattle.plan_text.proofs.printed.plan_lines.Given as goal

abbrev pub invariant-loop-i : goal.invariant-loop-i
invariant-loop-i l =
    with_bytes l.text (lines_from l.allocated.count l.allocated.allocations l.i)
    ≡ with_bytes [] (plan_lines l.allocated.count l.allocated.allocations)
