-- `allocation::selection::select`: the goals that the check leaves.
use Rattle.basics.specs.Lists.{cells_from}
use Rattle.allocation.proofs.Optimal.{best_total_within}
use Rattle.allocation.proofs.Lines.{offer_small}
use Rattle.allocation.proofs.Walk.{selection_none, selection_some, first_is, total_is, Step, rest_small, walk_some, walk_step, walk_done}
use Prim.Native.Nat.{◌≤◌, ◌<◌}
use mathlib.Core.Path.{◌≡◌, refl, sym, ap, ◌∙◌}
use native.Mathlib.Omega.{arith}
use borrow.Author.Rules.{rules}
use lib.ListN.{get_or}
use Rattle.allocation.specs.means.Selection.{offers_up_to, least_total, shares_at, best_total, missing_totals}
use Rattle.allocation.proofs.selection.select.Invariants.{whole}
use Rattle.allocation.proofs.selection.select.Goals.{After-best_share-a, After-first_least-left, After-from}
use Rattle.allocation.proofs.selection.select.Goals as goal

-- The total that was found, and what the line of all tasks says there.
found : (c : After-first_least-left) →
    c.first_least-left.result
    ≡ best_total c.args.offers.now.processors
    (offers_up_to c.args.offers.now.count c.args.offers.now.cells)
found c =
    rw c.from-count.ensures at c.first_least-left.ensures
    ∙ first_is c.args.offers.now.processors c.args.offers.now.count c.args.offers.now.cells (omega arith) (omega arith) (omega arith) _ c.last_totals.ensures

found_to : (c : After-first_least-left) → c.first_least-left.result ≤ c.args.offers.now.processors
found_to c =
    rw (found c) (best_total_within c.args.offers.now.processors (offers_up_to c.args.offers.now.count c.args.offers.now.cells))

found_total : (c : After-from) →
    get_or (get_or c.last_totals.new.all c.from-count.result missing_totals) c.from.result 0
    ≡ least_total c.args.offers.now.processors
    (offers_up_to c.args.offers.now.count c.args.offers.now.cells) c.first_least-left.result
found_total c =
    rw (c.from-count.ensures, c.from.ensures)
    (total_is c.args.offers.now.processors c.args.offers.now.count c.args.offers.now.cells (omega arith) (omega arith) (omega arith) _ c.last_totals.ensures
    c.first_least-left.result (found_to (goal.at.After-from c).After-first_least-left))

pub bounds-all-from : goal.bounds-all-from
bounds-all-from c = omega (arith, c.from.ensures, found_to (goal.at.bounds-all-from c).After-first_least-left)

pub returns-then-offers-all : goal.returns-then-offers-all
returns-then-offers-all c =
    let offers = offers_up_to c.args.offers.now.count c.args.offers.now.cells in
    let past : c.args.offers.now.processors < least_total c.args.offers.now.processors offers c.first_least-left.result = omega (arith, found_total (goal.at.returns-then-offers-all c).After-from) in
    selection_none c.args.offers.now.processors offers (rw (← found (goal.at.returns-then-offers-all c).After-first_least-left) past)

pub loop-i-init : goal.loop-i-init
unfolding cells_from
loop-i-init c =
    let offers = offers_up_to c.args.offers.now.count c.args.offers.now.cells in (
      omega arith,
      found_to (goal.at.loop-i-init c).After-first_least-left,
      omega (arith, found_total (goal.at.loop-i-init c).After-from),
      ap (shares_at c.args.offers.now.processors offers) (sym (found (goal.at.loop-i-init c).After-first_least-left)),
      (let none : c.default-shares.result ≡ record { typical = 0; critical = 0 } = search rules in rw none refl),
    )

pub best_share-a-requires : goal.best_share-a-requires
best_share-a-requires c =
    record {
      some =
          walk_some c.args.offers.now.processors c.args.offers.now.count c.args.offers.now.cells (omega arith) (omega arith) (omega arith)
          c.loop-i.i c.loop-i.left (omega arith) (omega arith) c.loop-i.invariant.2;
      few = omega arith;
      offer_small = offer_small c.args.offers.now.processors _ (omega arith) (c.args.offers.now.within c.loop-i.i (omega arith));
      rest_small =
          rw c.from-count.ensures
          (rest_small c.args.offers.now.processors c.args.offers.now.count c.args.offers.now.cells (omega arith) (omega arith) (omega arith)
          c.loop-i.i (omega arith) _ c.last_totals.ensures);
    }

-- The step that the walk takes there.
step : (c : After-best_share-a) →
    Step c.args.offers.now.processors c.args.offers.now.count c.args.offers.now.cells c.loop-i.i c.loop-i.left c.best_share-a.result (whole c.args.offers.now.processors c.args.offers.now.count c.args.offers.now.cells)
step c =
    walk_step c.args.offers.now.processors c.args.offers.now.count c.args.offers.now.cells (omega arith) (omega arith) (omega arith) c.loop-i.i c.loop-i.left (omega arith)
    (omega arith) c.loop-i.invariant.2 _ c.last_totals.ensures _ (rw c.from-count.ensures at c.best_share-a.ensures) _ c.loop-i.invariant.3

pub overflow_sub-shares : goal.overflow_sub-shares
overflow_sub-shares c = rw c.from-in-loop-i.ensures (step (goal.at.overflow_sub-shares c).After-best_share-a).from

pub bounds-offers-from : goal.bounds-offers-from
bounds-offers-from c = omega (arith, c.from-in-loop-i.ensures, (step (goal.at.bounds-offers-from c).After-best_share-a).to)

pub overflow_sub-left : goal.overflow_sub-left
overflow_sub-left c = (step (goal.at.overflow_sub-left c).After-best_share-a).to

pub loop-i-preserved : goal.loop-i-preserved
loop-i-preserved c =
    let next = step (goal.at.loop-i-preserved c).After-best_share-a in
    (omega arith, omega arith, next.within, next.rest, rw (c.from-in-loop-i.ensures, c.loop-i.invariant.4) next.store)

pub returns : goal.returns
returns c =
    selection_some c.args.offers.now.processors (offers_up_to c.args.offers.now.count c.args.offers.now.cells)
    (rw (← found (goal.at.returns c).After-first_least-left, ← found_total (goal.at.returns c).After-from) c.if-offers-all.false) c.loop-i.shares
    (c.loop-i.invariant.4 ∙ walk_done c.args.offers.now.processors c.args.offers.now.count c.args.offers.now.cells (omega arith) c.loop-i.i (omega arith))
