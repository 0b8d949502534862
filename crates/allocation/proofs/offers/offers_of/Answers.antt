-- `allocation::offers::offers_of`: the goals that the check leaves.
use Rattle.basics.proofs.Cells.{cells_store, cells-length}
use Rattle.basics.specs.Lists.{cells_from}
use Rattle.sheet.specs.Format.{task_in}
use mathlib.Core.Path.{◌≡◌, refl}
use native.Mathlib.Omega.{arith}
use Rattle.shares.specs.Offer.{offer_of}
use Rattle.allocation.specs.means.Selection.{offers_of, zero_offer}
use Rattle.allocation.proofs.Sets.{offers_within}
use Rattle.allocation.proofs.offers.offers_of.Goals.{After-loop-i}
use Rattle.allocation.proofs.offers.offers_of.Goals as goal

pub loop-i-init : goal.loop-i-init
unfolding cells_from
loop-i-init c = refl

pub loop-i-preserved : goal.loop-i-preserved
unfolding task_in
loop-i-preserved c =
    rw c.loop-i.invariant
    (rw c.offer.ensures (cells_store (λ j. offer_of c.args.set.now.processors (task_in c.args.set.now j)) zero_offer 16 c.loop-i.i (omega arith)))

-- The cells hold the offers of the set.
done : (c : After-loop-i) → c.loop-i.cells ≡ offers_of c.args.set.now
unfolding offers_of
done c =
    let few = c.requires.few_tasks in
    let all : c.loop-i.i ≡ c.args.set.now.count = omega arith in
    rw all at c.loop-i.invariant

pub returns : goal.returns
returns c = record { processors = refl; count = refl; cells = done (goal.at.returns c).After-loop-i }

-- The offers are as the selection needs them.
pub invariant_of-result : goal.invariant_of-result
unfolding offers_of
invariant_of-result c =
    let cells = done (goal.at.invariant_of-result c).After-loop-i in
    let within = offers_within c.args.set.now c.requires in
    record {
      few_processors = c.requires.few_processors;
      few_tasks = c.requires.few_tasks;
      all_there = rw cells (cells-length (λ j. offer_of c.args.set.now.processors (task_in c.args.set.now j)) zero_offer 0 16 c.args.set.now.count);
      within = rw cells within;
    }
