-- S5.6 by enumeration: the low tasks that are kept in the critical mode, on the processors that the high tasks leave
-- over.
use Rattle.std.specs.Prelude.{ℕ, ◌+◌, ◌-◌, cond, List, [], ◌∷◌, ◌++◌, map, leb, length, get_or, filter, unwrap_or}
use Rattle.sheet.specs.declared.task.Task.{Task}
use Rattle.sheet.specs.Format.{missing_task}
use Rattle.sheet.specs.Level.{is_low}
use Rattle.basics.specs.Lists.{range, is_in}
use Rattle.shares.specs.declared.share.Share.{Share}
use Rattle.shares.specs.Totals.{share_at, critical_total}
use Rattle.basics.specs.Order.{least_by}

-- The numbers of the low tasks, rising.
unfoldable pub low_numbers : List Task → List ℕ
low_numbers tasks = filter (λ i. is_low (get_or tasks i missing_task).level) (range 0 (length tasks))

-- Every set of these numbers, as a rising list.
abbrev pub subsets : List ℕ → List (List ℕ)
subsets [] = [] ∷ []
subsets (i ∷ numbers) = map (λ set. i ∷ set) (subsets numbers) ++ subsets numbers

-- The processors that a set of tasks takes, where task i takes share i.
abbrev pub processors_for : (ℕ → ℕ) → List ℕ → ℕ
processors_for share [] = 0
processors_for share (i ∷ set) = share i + processors_for share set

-- S5.6: the sets of these tasks that so many processors can hold.
unfoldable pub holdable : (ℕ → ℕ) → ℕ → List ℕ → List (List ℕ)
holdable share left numbers = filter (λ set. leb (processors_for share set) left) (subsets numbers)

-- S5.6: the numbers that the order of the sets goes by, the weightiest first: how many tasks the set leaves out, so
-- that the most tasks come first; its processors; and its list of task numbers.
abbrev pub kept_rank : (ℕ → ℕ) → List ℕ → List ℕ → List ℕ
kept_rank share numbers set = (length numbers - length set) ∷ processors_for share set ∷ set

-- S5.6: the first of the sets that so many processors can hold; no task where there is none.
unfoldable pub first_held : (ℕ → ℕ) → ℕ → List ℕ → List ℕ
first_held share left numbers = unwrap_or (least_by (kept_rank share numbers) (holdable share left numbers)) []

-- The typical share of task i.
unfoldable pub typical_share_at : List Share → ℕ → ℕ
typical_share_at shares i = (share_at shares i).typical

-- S5.6: the processors that a choice leaves over in the critical mode. Its critical total counts high tasks alone: in a
-- choice a low task's critical share is 0.
unfoldable pub left_over : ℕ → List Share → ℕ
left_over M choice = M - critical_total choice

-- S5.6: the low tasks that are kept beside a choice, each with its typical share.
unfoldable pub kept_tasks : ℕ → List Task → List Share → List ℕ
kept_tasks M tasks choice = first_held (typical_share_at choice) (left_over M choice) (low_numbers tasks)

-- A share that stays in the critical mode.
unfoldable pub kept_share : Share → Share
kept_share s = record { typical = s.typical; critical = s.typical }

-- S5.6: a kept task's critical share is its typical share; every other share stays as it was chosen.
unfoldable pub with_kept : List ℕ → List Share → List Share
with_kept kept choice = map (λ i. cond (is_in i kept) (kept_share (share_at choice i)) (share_at choice i)) (range 0 (length choice))
