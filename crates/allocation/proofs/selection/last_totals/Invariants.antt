-- `allocation::selection::last_totals`: the totals of the last k tasks stand in their place.
use Rattle.allocation.specs.means.Selection.{offers_up_to}
use Rattle.allocation.proofs.Lines.{lines}
use Prim.Native.Nat.{◌≤◌}
use mathlib.Core.Path.{◌≡◌}
use Rattle.allocation.proofs.selection.last_totals.Given as goal

abbrev pub invariant-loop-k : goal.invariant-loop-k
invariant-loop-k l = (l.k ≤ l.offers.count) × (l.all ≡ lines l.offers.processors (offers_up_to l.offers.count l.offers.cells) l.offers.count l.k)
