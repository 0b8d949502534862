-- S5.6 and S7.4 of the shares that the tasks of a set get: what stays as it was chosen, and which tasks the shares mark
-- as kept.
use Rattle.std.specs.Prelude.{ℕ, ◌<◌, ◌≡◌, List}
use Rattle.sheet.specs.declared.task.TaskSet.{TaskSet}
use Rattle.sheet.specs.Format.{task_in}
use Rattle.shares.specs.declared.share.Share.{Share}
use Rattle.shares.specs.Low.{is_kept}
use Rattle.shares.specs.Totals.{share_at}
use Rattle.basics.specs.Lists.{is_in}
use Rattle.keeping.specs.Kept.{kept_tasks}
use Rattle.allocation.specs.Allocation.{tasks_of, shares_with, allocation_of}

-- S5.6: of what is fixed for a task its typical share and block, its V and its remainder are those of the choice.
pub record TypicalStays (set : TaskSet) (choice : List Share) : Type 0 where
  pub share : (i : ℕ) → (allocation_of set (shares_with set choice) i).share.typical ≡ (allocation_of set choice i).share.typical
  pub offset : (i : ℕ) → (allocation_of set (shares_with set choice) i).offset.typical ≡ (allocation_of set choice i).offset.typical
  pub virtual : (i : ℕ) →
      (allocation_of set (shares_with set choice) i).virtual_deadline ≡ (allocation_of set choice i).virtual_deadline
  pub remainder : (i : ℕ) → (allocation_of set (shares_with set choice) i).remainder ≡ (allocation_of set choice i).remainder

-- S5.6 and S7.4: a task is kept by its level and share, as a state has them, just where it is in the kept set.
unfoldable pub KeptMarked : TaskSet → List Share → Type 0
KeptMarked set choice =
    (i : ℕ) → i < set.count →
    is_kept (task_in set i).level (share_at (shares_with set choice) i) ≡ is_in i (kept_tasks set.processors (tasks_of set) choice)
