-- S5.7: the shares and totals that the planner holds in bytes, beside the true ones. In these a high task may take any
-- pair up to N that passes, however large N is.
use Rattle.std.specs.Prelude.{ℕ, ◌+◌, ◌-◌, ◌≤◌, ◌<◌, ◌≡◌, cond, List, [], map, eqb, get_or, drop, Option, filter}
use Rattle.basics.specs.Order.{least, capped_at}
use Rattle.sheet.specs.declared.task.Task.{Task}
use Rattle.sheet.specs.declared.task.TaskSet.{TaskSet}
use Rattle.sheet.specs.Format.{task_in}
use Rattle.sheet.specs.Level.{is_low}
use Rattle.shares.specs.declared.share.Share.{Share}
use Rattle.shares.specs.Totals.{typical_total, critical_total}
use Rattle.allocation.specs.Choice.{low_options, high_options, choices}
use Rattle.allocation.specs.Allocation.{tasks_of}

-- What a task may take where pairs go up to N: a low task its share on M processors, a high task a pair that passes.
unfoldable pub options_up_to : ℕ → ℕ → Task → List Share
options_up_to M N t = cond (is_low t.level) (low_options M t.figures) (high_options N t.figures)

-- The critical shares that a task may take beside the typical share a.
unfoldable pub critical_shares : ℕ → ℕ → Task → ℕ → List ℕ
critical_shares M N t a = map (λ s. s.critical) (filter (λ s. eqb s.typical a) (options_up_to M N t))

-- The critical totals of all choices of these tasks that have the typical total t.
unfoldable pub critical_totals : ℕ → ℕ → List Task → ℕ → List ℕ
critical_totals M N tasks t = map critical_total (filter (λ choice. eqb (typical_total choice) t) (choices (map (options_up_to M N) tasks)))

-- The true least critical share of a task beside the typical share a, or none.
unfoldable pub uncapped_share : ℕ → ℕ → Task → ℕ → Option ℕ
uncapped_share M N t a = least (critical_shares M N t a)

-- The true least critical total of these tasks with the typical total t, or none.
unfoldable pub uncapped_total : ℕ → ℕ → List Task → ℕ → Option ℕ
uncapped_total M N tasks t = least (critical_totals M N tasks t)

-- What offers say of task i at the typical share a: number a − 1 of its offer.
unfoldable pub share_held : List (List ℕ) → ℕ → ℕ → ℕ
share_held offers i a = get_or (get_or offers i []) (a - 1) 0

-- What the totals of the last tasks, for each number k of them, say of the last k at the typical total t.
unfoldable pub total_held : List (List ℕ) → ℕ → ℕ → ℕ
total_held totals k t = get_or (get_or totals k []) t 0

-- S5.7: each number of the offers and each total of the tasks from i on is the smaller of the true one and M + 1.
pub record HeldInBytes (set : TaskSet) (offers : List (List ℕ)) (totals : List (List ℕ)) : Type 0 where
  pub share : (N i a : ℕ) → set.processors ≤ N → i < set.count → 1 ≤ a → a ≤ 64 →
      share_held offers i a ≡ capped_at (set.processors + 1) (uncapped_share set.processors N (task_in set i) a)
  pub total : (N i t : ℕ) → set.processors ≤ N → i ≤ set.count → t ≤ 64 →
      total_held totals (set.count - i) t ≡ capped_at (set.processors + 1) (uncapped_total set.processors N (drop i (tasks_of set)) t)
