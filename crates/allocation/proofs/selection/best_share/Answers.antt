-- `allocation::selection::best_share`: one share more leaves the best so far, or takes its place where its total is
-- less.
use Prim.Native.Nat.{ℕ, ◌+◌, ◌-◌}
use mathlib.Core.Path.{◌≡◌, ◌∙◌}
use mathlib.Core.List.{List}
use native.Mathlib.Omega.{arith}
use Rattle.allocation.specs.means.Selection.{cell_at, sum_at, best_share, total_at}
use Rattle.allocation.proofs.Firsts.{least_start}
use Rattle.allocation.proofs.Lines.{BestUpTo, sum_is, best_taken, best_left}
use Rattle.allocation.proofs.selection.best_share.Goals.{then-next-least, else-next-least}
use Rattle.allocation.proofs.selection.best_share.Goals as goal

pub loop-a-init : goal.loop-a-init
loop-a-init c = (
  omega arith,
  record {
    from = omega arith;
    to = omega arith;
    first = least_start (sum_at (cell_at c.args.offer.now) (total_at c.args.rest.now) c.args.t) 1;
    sum = sum_is c.args.offer.now c.args.rest.now c.args.t 1 _ _ (omega arith) (omega arith);
  },
)

-- The best share is the first best of all up to t.
whole : {offer rest : List ℕ} {t a best least : ℕ} → a ≡ t → BestUpTo offer rest t a best least → best ≡ best_share (cell_at offer) (total_at rest) t
unfolding best_share
whole all so_far = rw all at so_far.first

pub loop-a-preserved : goal.loop-a-preserved
loop-a-preserved c = (
  omega arith,
  elim c.if-next-least.branch [
    | then-next-least w ↦
        best_taken c.loop-a.invariant.1 (omega arith) (omega arith) (w.best-is ∙ omega arith)
        (w.least-is ∙ sum_is c.args.offer.now c.args.rest.now c.args.t (c.loop-a.a - 1 + 1) _ _ (omega arith) (omega arith)) (omega arith)
    | else-next-least w ↦
        rw (w.best-is, w.least-is)
        (best_left c.loop-a.invariant.1 (omega arith) (omega arith) w.if-next-least.false
        (sum_is c.args.offer.now c.args.rest.now c.args.t (c.loop-a.a - 1 + 1) _ _ (omega arith) (omega arith)))
  ],
)

pub returns : goal.returns
returns c = whole (omega arith) c.loop-a.invariant.1

pub returns-after-next-least : goal.returns-after-next-least
returns-after-next-least c =
    let so_far : BestUpTo c.args.offer.now c.args.rest.now c.args.t c.loop-a.a c.if-next-least.best c.if-next-least.least =
    elim c.if-next-least.branch [
      | then-next-least w ↦
          best_taken c.loop-a.invariant.1 (omega arith) (omega arith) (w.best-is ∙ omega arith)
          (w.least-is ∙ sum_is c.args.offer.now c.args.rest.now c.args.t (c.loop-a.a - 1 + 1) _ _ (omega arith) (omega arith)) (omega arith)
      | else-next-least w ↦
          rw (w.best-is, w.least-is)
          (best_left c.loop-a.invariant.1 (omega arith) (omega arith) w.if-next-least.false
          (sum_is c.args.offer.now c.args.rest.now c.args.t (c.loop-a.a - 1 + 1) _ _ (omega arith) (omega arith)))
    ] in
    whole (omega arith) so_far
