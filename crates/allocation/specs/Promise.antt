-- What holds of every task set and of every sheet, in plain words, each part a law. Functions of `promise` promise
-- them.
use Rattle.std.specs.Prelude.{ℕ, ◌<◌, ◌≡◌, List, Ok, Some}
use Rattle.basics.specs.Lists.{is_empty}
use Rattle.sheet.specs.declared.task.Task.{Task}
use Rattle.sheet.specs.declared.task.TaskSet.{TaskSet}
use Rattle.sheet.specs.Format.{task_in, task_set_of}
use Rattle.reader.specs.Reading.{read_answer}
use Rattle.shares.specs.declared.share.Share.{Share}
use Rattle.keeping.specs.Kept.{kept_tasks}
use Rattle.keeping.specs.KeptSet.{BestKept, KeptShares}
use Rattle.allocation.specs.Choice.{options_of}
use Rattle.allocation.specs.Way.{TakesNothing, BestWay}
use Rattle.allocation.specs.Blocks.{BlocksInOrder}
use Rattle.allocation.specs.Lawful.{LawfulSet, LawfulShares}
use Rattle.allocation.specs.Allocation.{tasks_of, chosen_for, shares_with, allocation_answer, allocation_at, allocations_for}
use Rattle.allocation.specs.SetShares.{TypicalStays, KeptMarked}
use Rattle.allocation.specs.Rounded.{Rounded}
use Rattle.allocation.specs.Held.{HeldInBytes}
use Rattle.allocation.specs.means.Selection.{offers_of, totals_for}

-- S5.1 to S5.3: what is chosen for a task set is the best of all ways that fit.
unfoldable pub BestChoice : Type 0
BestChoice = (set : TaskSet) → BestWay set.processors (tasks_of set) (chosen_for set)

-- S9.7: a task has no option just where it may take nothing.
unfoldable pub NoOption : Type 0
NoOption = (M : ℕ) (t : Task) → TakesNothing M t (is_empty (options_of M t))

-- S5.4, S5.6 and S7.4 beside a choice: which low tasks are kept, what becomes of the shares, what stays, which tasks
-- are marked, what the shares keep, and how the blocks lie.
pub record KeptBeside (set : TaskSet) (choice : List Share) : Type 0 where
  pub best : BestKept set.processors (tasks_of set) choice (kept_tasks set.processors (tasks_of set) choice)
  pub shares : KeptShares choice (kept_tasks set.processors (tasks_of set) choice) (shares_with set choice)
  pub typical : TypicalStays set choice
  pub marked : KeptMarked set choice
  pub lawful : LawfulShares set (shares_with set choice)
  pub blocks : BlocksInOrder set.processors (shares_with set choice)

-- This holds of the choice for every lawful task set.
unfoldable pub KeptChoice : Type 0
KeptChoice = (set : TaskSet) (choice : List Share) → LawfulSet set → chosen_for set ≡ Some choice → KeptBeside set choice

-- S5.7: what is held in bytes for every lawful task set.
unfoldable pub HeldTotals : Type 0
HeldTotals = (set : TaskSet) → LawfulSet set → HeldInBytes set (offers_of set) (totals_for set)

-- S2: a sheet that the reader accepts has a lawful task set.
unfoldable pub SheetLawful : Type 0
SheetLawful = (s : List ℕ) → read_answer s ≡ Ok tt → LawfulSet (task_set_of s)

-- S4.5 and S4.6 of each task of every sheet that is planned.
unfoldable pub SheetRounded : Type 0
SheetRounded =
    (s : List ℕ) → allocation_answer s ≡ Ok tt → (i : ℕ) → i < (task_set_of s).count →
    Rounded (task_in (task_set_of s) i) (allocation_at (allocations_for s) i)
