-- S14.8: an accepted graph names only lower nodes and has no time of 0, so its times keep the budgets that they come to.
use Prim.Native.Nat.{ℕ, ◌≤◌, ◌<◌}
use native.Mathlib.Omega.{arith}
use Rattle.model.specs.Claim.{KeepsBudget}
use Rattle.chains.specs.Chains.{budget_of}
use Rattle.chains.specs.Laws.{SpanIsGreatest, OwnBudget}
use Rattle.chains.proofs.Laws.{span_is_greatest, own_budget}
use Rattle.graph_text.specs.Graph.{time_of, masks_of}
use Rattle.importer.specs.Task.{overload_time_of, figures_of, task_from}
use Rattle.importer.specs.Laws.{TimesKeepBudgets}
use Rattle.importer.proofs.Orders.{scaled_grows}
use Rattle.importer.proofs.Rising.{rising_lower}
use Rattle.importer.proofs.Times.{times_positive}
use Rattle.importer.proofs.Acceptance.{accepted_kept}

pub times_keep_budgets : TimesKeepBudgets
unfolding TimesKeepBudgets SpanIsGreatest OwnBudget KeepsBudget figures_of task_from budget_of overload_time_of
times_keep_budgets text t room g accepted said =
    let kept = accepted_kept text t room g accepted said in
    let lower = rising_lower g kept.rising in
    let positive = times_positive text g said in
    let overload : (v : ℕ) → v < g.count → 1 ≤ overload_time_of g t.percentage v =
    λ v l. omega (arith, positive v l, scaled_grows t.percentage (time_of g v) kept.terms.percentage) in
    record {
      nominal_span = span_is_greatest (masks_of g) (time_of g) g.count kept.some_nodes kept.few_nodes lower;
      overload_span = span_is_greatest (masks_of g) (overload_time_of g t.percentage) g.count kept.some_nodes kept.few_nodes lower;
      nominal = own_budget (masks_of g) (time_of g) g.count kept.few_nodes lower positive;
      overload = own_budget (masks_of g) (overload_time_of g t.percentage) g.count kept.few_nodes lower overload;
    }
