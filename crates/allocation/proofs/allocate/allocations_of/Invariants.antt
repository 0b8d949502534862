-- `allocation::allocate::allocations_of`: what is fixed for the tasks passed stands in its cells, and the next blocks
-- begin where theirs end.
use mathlib.Core.Bool.{true, false}
use mathlib.Core.Path.{◌≡◌}
use Rattle.basics.specs.Lists.{cells}
use Rattle.allocation.specs.Blocks.{offset_in}
use Rattle.allocation.specs.Allocation.{allocation_of, no_allocation}
use Rattle.allocation.proofs.allocate.allocations_of.Given as goal

abbrev pub invariant-loop-i : goal.invariant-loop-i
invariant-loop-i l =
    (l.typical ≡ offset_in false l.shares l.i)
    × (l.critical ≡ offset_in true l.shares l.i)
    × (l.allocations ≡ cells 16 (allocation_of l.set l.shares) no_allocation l.i)
