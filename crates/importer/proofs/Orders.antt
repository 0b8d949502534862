-- S14.8 and S2.10: a percentage from 100 on lets no time fall, so that the budgets grow in order; and a span is at most its work.
use Prim.Native.Nat.{ℕ, ◌≤◌}
use mathlib.Core.Path.{◌≡◌}
use native.Mathlib.Nat.{mul-le-mul_left}
use native.Mathlib.Omega.{arith}
use borrow.Author.Tests.{le-leb}
use Rattle.sheet.specs.Rules.{in_order}
use Rattle.graph_text.specs.Graph.{Graph, time_of, masks_of}
use Rattle.chains.specs.Chains.{budget_of}
use Rattle.chains.specs.Laws.{GrownTo, SpanWithinWork, Growth}
use Rattle.chains.proofs.Laws.{span_within_work, growth}
use Rattle.importer.specs.Task.{scaled, overload_time_of, figures_of}
use Rattle.importer.specs.Laws.{FiguresInOrder}

-- A time by a percentage from 100 on is no smaller, and by 100 it is itself.
pub scaled_grows : (percentage time : ℕ) → 100 ≤ percentage → time ≤ scaled percentage time
unfolding scaled
scaled_grows percentage time h = omega (arith, mul-le-mul_left time h)

-- At 100 percent a time is as it was.
pub scaled_whole : (percentage time : ℕ) → percentage ≡ 100 → scaled percentage time ≡ time
unfolding scaled
scaled_whole percentage time e = rw e (omega arith)

-- The budgets of a graph's times and of its overload times.
budgets_grow : (g : Graph) (percentage : ℕ) → 100 ≤ percentage →
    GrownTo (budget_of (masks_of g) (time_of g) g.count) (budget_of (masks_of g) (overload_time_of g percentage) g.count)
unfolding Growth overload_time_of
budgets_grow g percentage h =
    growth (masks_of g) (time_of g) (overload_time_of g percentage) g.count (λ v l. scaled_grows percentage (time_of g v) h)

pub figures_in_order : FiguresInOrder
unfolding FiguresInOrder SpanWithinWork in_order figures_of
figures_in_order g t h =
    let grown = budgets_grow g t.percentage h in
    rw (
      le-leb _ _ (span_within_work (masks_of g) (time_of g) g.count),
      le-leb _ _ (span_within_work (masks_of g) (overload_time_of g t.percentage) g.count),
      le-leb _ _ grown.work,
      le-leb _ _ grown.span,
      le-leb _ _ grown.growth,
    )
