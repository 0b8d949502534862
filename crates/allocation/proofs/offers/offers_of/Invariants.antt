-- `allocation::offers::offers_of`: the offers of the tasks passed stand in their cells.
use Rattle.basics.specs.Lists.{cells}
use Rattle.sheet.specs.Format.{task_in}
use mathlib.Core.Path.{◌≡◌}
use Rattle.shares.specs.Offer.{offer_of}
use Rattle.allocation.specs.means.Selection.{zero_offer}
use Rattle.allocation.proofs.offers.offers_of.Given as goal

abbrev pub invariant-loop-i : goal.invariant-loop-i
invariant-loop-i l = l.cells ≡ cells 16 (λ j. offer_of l.set.processors (task_in l.set j)) zero_offer l.i
