-- `allocation::selection::first_least`: best is the first least of the totals before t.
use Prim.Native.Nat.{◌+◌, ◌-◌, ◌≤◌, ◌<◌}
use mathlib.Core.Path.{◌≡◌}
use Rattle.allocation.specs.means.Selection.{least_from, total_at}
use Rattle.allocation.proofs.selection.first_least.Given as goal

abbrev pub invariant-loop-t : goal.invariant-loop-t
invariant-loop-t l = (1 ≤ l.t) × (l.t ≤ l.offers.processors + 1) × (l.best < l.t) × (l.best ≡ least_from (total_at l.totals) 0 (l.t - 1))
