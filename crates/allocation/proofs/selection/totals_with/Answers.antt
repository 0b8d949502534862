-- `allocation::selection::totals_with`: the totals that are lowered by each share up to m are the least over all
-- shares.
use Prim.Native.Nat.{ℕ, ◌+◌, ◌-◌, ◌<◌}
use mathlib.Core.Path.{◌≡◌, ap, ◌∙◌}
use mathlib.Core.List.{List}
use native.Mathlib.Omega.{arith}
use lib.ListN.{length}
use Rattle.shares.specs.Offer.{tabulate}
use Rattle.shares.proofs.Offers.{tabulate-length}
use Rattle.allocation.specs.means.Selection.{cell_at, total_at, total_with, padded}
use Rattle.allocation.proofs.Lowering.{padded_at, padded_before, padded-small, up_to, up_to_none, up_to_more, up_to_end}
use Rattle.allocation.proofs.selection.totals_with.Goals.{Start, After-lower}
use Rattle.allocation.proofs.selection.totals_with.Goals as goal

pub loop-a-init : goal.loop-a-init
loop-a-init c =
    (omega arith, omega arith, up_to_none c.args.offers.now.processors (cell_at c.args.offer) (λ t. total_at c.padded-after.result (63 + t)) _ (omega arith))

pub lower-requires : goal.lower-requires
lower-requires c =
    record {
      some = omega arith;
      few = omega arith;
      critical_small = omega (arith, c.requires.within.small (c.loop-a.a - 1));
      rest_small = rw c.padded-after.ensures (padded-small c.args.offers.now.processors c.args.rest.now (omega arith) c.requires.small);
      all_there =
          ap length c.loop-a.invariant.2 ∙ tabulate-length (up_to c.args.offers.now.processors (cell_at c.args.offer) (λ t. total_at c.padded-after.result (63 + t)) (c.loop-a.a - 1)) 0 65;
    }

-- The totals once they are lowered by the shares up to m.
done : (c : Start) (after totals : List ℕ) → after ≡ padded c.args.offers.now.processors c.args.rest.now →
    totals ≡ tabulate (up_to c.args.offers.now.processors (cell_at c.args.offer) (λ t. total_at after (63 + t)) c.args.offers.now.processors) 0 65 →
    totals ≡ tabulate (total_with c.args.offers.now.processors (cell_at c.args.offer) (total_at c.args.rest.now)) 0 65
done c after totals same lowered =
    lowered
    ∙ up_to_end c.args.offers.now.processors (cell_at c.args.offer) (total_at c.args.rest.now) (total_at after) c.requires.within.past
    (λ t inside. ap (λ (l : List ℕ). total_at l (63 + t)) same ∙ padded_at c.args.offers.now.processors c.args.rest.now t inside)

more : (c : After-lower) →
    c.lower.new.totals ≡ tabulate (up_to c.args.offers.now.processors (cell_at c.args.offer) (λ t. total_at c.padded-after.result (63 + t)) (c.loop-a.a + 1 - 1)) 0 65
unfolding cell_at
more c =
    let after = total_at c.padded-after.result in
    let before : (j : ℕ) → j < 63 → after j ≡ c.args.offers.now.processors + 1 =
    λ j inside. ap (λ (l : List ℕ). total_at l j) c.padded-after.ensures ∙ padded_before c.args.offers.now.processors c.args.rest.now j inside in
    up_to_more c.args.offers.now.processors (cell_at c.args.offer) after before c.loop-a.a c.loop-a.least _ (omega arith) (omega arith) c.loop-a.invariant.2 (rw c.from.ensures at c.lower.ensures)

pub loop-a-preserved : goal.loop-a-preserved
loop-a-preserved c = (omega arith, omega arith, more (goal.at.loop-a-preserved c).After-lower)

-- What stands for m shares is what stands for this many.
module _ (c : Start) (after totals : List ℕ) (k : ℕ) (all : k ≡ c.args.offers.now.processors) where
  ended : totals ≡ tabulate (up_to c.args.offers.now.processors (cell_at c.args.offer) (λ t. total_at after (63 + t)) k) 0 65 → after ≡ padded c.args.offers.now.processors c.args.rest.now →
      totals ≡ tabulate (total_with c.args.offers.now.processors (cell_at c.args.offer) (total_at c.args.rest.now)) 0 65
  ended lowered same = done c after totals same (rw all at lowered)

pub returns : goal.returns
returns c = ended (goal.at.returns c).Start c.padded-after.result _ (c.loop-a.a - 1) (omega arith) c.loop-a.invariant.2 c.padded-after.ensures

pub returns-2 : goal.returns-2
returns-2 c =
    ended (goal.at.returns-2 c).Start c.padded-after.result _ (c.loop-a.a + 1 - 1) (omega arith) (more (goal.at.returns-2 c).After-lower) c.padded-after.ensures
