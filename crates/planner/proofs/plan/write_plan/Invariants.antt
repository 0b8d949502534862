-- `planner::plan::write_plan`: the bytes of the tasks passed stand in each part.
use mathlib.Core.Path.{◌≡◌}
use lib.ListN.{length}
use Rattle.planner.proofs.Plans.{parts_up_to}
use Rattle.planner.proofs.plan.write_plan.Given as goal

abbrev pub invariant-loop-i : goal.invariant-loop-i
invariant-loop-i l =
    (length l.buffer ≡ length l.initial.buffer) × (l.buffer ≡ parts_up_to l.allocated.count l.allocated.allocations l.initial.buffer l.i)
