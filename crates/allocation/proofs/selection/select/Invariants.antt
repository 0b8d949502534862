-- `allocation::selection::select`: the shares of the tasks passed stand in their cells, and those of the tasks left are
-- the best of what is left.
use Rattle.basics.specs.Lists.{cells}
use Prim.Native.Nat.{ℕ, ◌≤◌}
use mathlib.Core.Path.{◌≡◌}
use mathlib.Core.List.{List}
use lib.ListN.{get_or, drop}
use Rattle.shares.specs.declared.share.Share.{Share}
use Rattle.shares.specs.Totals.{no_processors}
use Rattle.allocation.specs.means.Selection.{offers_up_to, least_total, shares_at, best_total}
use Rattle.allocation.proofs.selection.select.Given as goal

-- The shares of all tasks.
abbrev pub whole : ℕ → ℕ → List (List ℕ) → List Share
whole m n offers = shares_at m (offers_up_to n offers) (best_total m (offers_up_to n offers))

abbrev pub invariant-loop-i : goal.invariant-loop-i
invariant-loop-i l =
    (l.i ≤ l.offers.count)
    × (l.left ≤ l.offers.processors)
    × (least_total l.offers.processors (drop l.i (offers_up_to l.offers.count l.offers.cells)) l.left ≤ l.offers.processors)
    × (drop l.i (whole l.offers.processors l.offers.count l.offers.cells) ≡ shares_at l.offers.processors (drop l.i (offers_up_to l.offers.count l.offers.cells)) l.left)
    × (l.shares ≡ cells 16 (λ j. get_or (whole l.offers.processors l.offers.count l.offers.cells) j no_processors) no_processors l.i)
