-- `allocation::selection::totals_with`: the totals are lowered by the shares below a.
use Prim.Native.Nat.{◌+◌, ◌-◌, ◌≤◌}
use mathlib.Core.Path.{◌≡◌}
use Rattle.shares.specs.Offer.{tabulate}
use Rattle.allocation.specs.means.Selection.{cell_at, total_at}
use Rattle.allocation.proofs.Lowering.{up_to}
use Rattle.allocation.proofs.selection.totals_with.Given as goal

abbrev pub invariant-loop-a : goal.invariant-loop-a
invariant-loop-a l =
    (1 ≤ l.a)
    × (l.a ≤ l.offers.processors + 1)
    × (l.least ≡ tabulate (up_to l.offers.processors (cell_at l.offer) (λ t. total_at l.after (63 + t)) (l.a - 1)) 0 65)
