-- S9.7 and S9.8 in plain words: what the answer on a task set says.
use Rattle.std.specs.Prelude.{ℕ, ◌<◌, List, Ok, Err}
use Rattle.sheet.specs.declared.task.TaskSet.{TaskSet}
use Rattle.sheet.specs.declared.refusal.Refusal.TheVariants.{NoShare, NoFit}
use Rattle.sheet.specs.Refusal.{Answer}
use Rattle.sheet.specs.Format.{task_in}
use Rattle.shares.specs.declared.share.Share.{Share}
use Rattle.allocation.specs.Way.{MayTake, FittingWay}
use Rattle.allocation.specs.Allocation.{tasks_of}

-- Task i of a set may take something within M.
abbrev pub CanTake : TaskSet → ℕ → Type 0
CanTake set i = (s : Share) × MayTake set.processors (task_in set i) s

-- One of three holds, and it says which answer is given.
pub data Verdict (set : TaskSet) : Answer → Type 0 where
  -- S9.7: task i may take nothing, and each task before it may take something.
  nothing_to_take : {i : ℕ} → i < set.count → (CanTake set i → ⊥) → ((j : ℕ) → j < i → CanTake set j) → Verdict set (Err (NoShare i))
  -- S9.8: each task may take something, and no way fits.
  nothing_fits : ((i : ℕ) → i < set.count → CanTake set i) → ((way : List Share) → FittingWay set.processors (tasks_of set) way → ⊥) →
      Verdict set (Err NoFit)
  -- Each task may take something, and a way fits.
  accepted : ((i : ℕ) → i < set.count → CanTake set i) → (way : List Share) → FittingWay set.processors (tasks_of set) way →
      Verdict set (Ok tt)
