-- What the work and the span of times come to, for all nodes, masks and times. Each law is proved in proofs/.
use Rattle.std.specs.Prelude.{ℕ, ◌≤◌, ◌<◌, ◌-◌, ◌^◌, List, ◌≡◌}
use Rattle.sheet.specs.declared.task.Budget.{Budget}
use Rattle.model.specs.Row.{predecessors_of, precedes}
use Rattle.model.specs.Budget.{Chain, along, Keeps}
use Rattle.chains.specs.Chains.{span_of, budget_of}

-- S2.12: masks of k nodes that name only lower nodes.
unfoldable pub LowerOnly : List ℕ → ℕ → Type 0
LowerOnly masks k = (v : ℕ) → v < k → predecessors_of masks v < 2 ^ v

-- S14.8: a span is the greatest sum of times along a chain: no chain's sum exceeds it, and some chain comes to it.
pub record GreatestAlong (masks : List ℕ) (times : ℕ → ℕ) (k span : ℕ) : Type 0 where
  pub bound : (u : ℕ) (rest : List ℕ) → Chain k (precedes masks) u rest → along times u rest ≤ span
  pub first : ℕ
  pub others : List ℕ
  pub chain : Chain k (precedes masks) first others
  pub reached : along times first others ≡ span

-- S14.8: that of `span_of` is, for 1 to 32 nodes.
unfoldable pub SpanIsGreatest : Type 0
SpanIsGreatest =
    (masks : List ℕ) (times : ℕ → ℕ) (k : ℕ) → 1 ≤ k → k ≤ 32 → LowerOnly masks k → GreatestAlong masks times k (span_of masks times k)

-- S14.8: times of at least 1 of up to 32 nodes keep the budget that they come to, in the sense of S10.6.
unfoldable pub OwnBudget : Type 0
OwnBudget =
    (masks : List ℕ) (times : ℕ → ℕ) (k : ℕ) → k ≤ 32 → LowerOnly masks k → ((v : ℕ) → v < k → 1 ≤ times v) →
    Keeps k (precedes masks) (budget_of masks times k).work (budget_of masks times k).span times

-- S14.8: a span is at most the work.
unfoldable pub SpanWithinWork : Type 0
SpanWithinWork = (masks : List ℕ) (times : ℕ → ℕ) (k : ℕ) → (budget_of masks times k).span ≤ (budget_of masks times k).work

-- A budget, and one that is no smaller and whose span grew no more than its work.
pub record GrownTo (less more : Budget) : Type 0 where
  pub work : less.work ≤ more.work
  pub span : less.span ≤ more.span
  pub growth : more.span - less.span ≤ more.work - less.work

-- S14.8: where no time falls, the budgets grow so, whatever the masks are.
unfoldable pub Growth : Type 0
Growth =
    (masks : List ℕ) (less more : ℕ → ℕ) (k : ℕ) → ((v : ℕ) → v < k → less v ≤ more v) →
    GrownTo (budget_of masks less k) (budget_of masks more k)
