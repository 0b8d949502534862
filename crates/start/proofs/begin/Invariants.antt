-- `start::begin`: the entries of the tasks passed are fresh.
use mathlib.Core.Bool.{false}
use mathlib.Core.Path.{◌≡◌}
use Rattle.start.specs.Start.{entries_below}
use Rattle.start.proofs.begin.Given as goal

abbrev pub invariant-loop-i : goal.invariant-loop-i
invariant-loop-i l =
    (l.state.processors ≡ l.set.processors)
    × (l.state.count ≡ l.set.count)
    × (l.state.critical ≡ false)
    × (l.state.entries ≡ entries_below l.set l.allocations l.i)
