-- `allocation::selection::first_least`: the goals that the check leaves.
use Prim.Native.Nat.{ℕ, ◌+◌, ◌-◌, ◌≤◌, ◌<◌}
use mathlib.Core.Path.{◌≡◌, sym, ap, ◌∙◌}
use mathlib.Core.Logic.{◌⊎◌, inl, inr}
use native.Mathlib.Omega.{arith}
use Rattle.allocation.specs.means.Selection.{least_from, total_at}
use Rattle.allocation.proofs.Firsts.{least_start, least_taken, least_kept}
use Rattle.allocation.proofs.selection.first_least.Goals.{Joined-totals-from, then-totals-from, else-totals-from}
use Rattle.allocation.proofs.selection.first_least.Goals as goal

-- One total more.
next : (f : ℕ → ℕ) (t best best' : ℕ) → 1 ≤ t → best < t → best ≡ least_from f 0 (t - 1) →
    ((f t < f best) × (best' ≡ t)) ⊎ ((f best ≤ f t) × (best' ≡ best)) → (best' < t + 1) × (best' ≡ least_from f 0 t)
next f t best best' one below so_far (inl (less, same)) =
    let e : t - 1 + 1 ≡ t = omega arith in
    let z : t - 1 - 0 ≡ t - 1 = omega arith in
    let all : t - 1 + 1 - 0 ≡ t = omega arith in
    rw same (omega arith, sym e ∙ least_taken f 0 (t - 1) best (omega arith) (rw z so_far) (rw e less) ∙ ap (least_from f 0) all)
next f t best best' one below so_far (inr (more, same)) =
    let e : t - 1 + 1 ≡ t = omega arith in
    let z : t - 1 - 0 ≡ t - 1 = omega arith in
    let all : t - 1 + 1 - 0 ≡ t = omega arith in
    rw same (omega arith, least_kept f 0 (t - 1) best (omega arith) (rw z so_far) (rw e more) ∙ ap (least_from f 0) all)

pub loop-t-init : goal.loop-t-init
loop-t-init c = (omega arith, omega arith, omega arith, least_start (total_at c.args.totals.now) 0)

-- The best so far, once t is tested.
best : (c : Joined-totals-from) →
    (c.if-totals-from.best < c.loop-t.t + 1) × (c.if-totals-from.best ≡ least_from (total_at c.args.totals.now) 0 c.loop-t.t)
unfolding total_at
best c =
    next (total_at c.args.totals.now) c.loop-t.t c.loop-t.best c.if-totals-from.best (omega arith) (omega arith) c.loop-t.invariant.3
    (elim c.if-totals-from.branch [
      | then-totals-from w ↦ inl (rw (← c.from.ensures, ← c.from-in-loop-t.ensures) (omega arith), w.best-is)
      | else-totals-from w ↦ inr (rw (← c.from.ensures, ← c.from-in-loop-t.ensures) (omega arith), w.best-is)
    ])

pub loop-t-preserved : goal.loop-t-preserved
loop-t-preserved c =
    let it = best (goal.at.loop-t-preserved c).Joined-totals-from in
    (omega arith, omega arith, it.0, it.1 ∙ ap (least_from (total_at c.args.totals.now) 0) (omega arith))

pub returns-after-totals-from : goal.returns-after-totals-from
returns-after-totals-from c =
    let last : c.loop-t.t ≡ c.args.offers.now.processors = omega arith in
    rw last at (best (goal.at.returns-after-totals-from c).Joined-totals-from).1
