-- What is proved beside S10.7 to S10.9, of the same lists of calls: S10.10, and S8.2 and S8.3 said node by node.
use Rattle.std.specs.Prelude.{ℕ, ◌≤◌, ◌<◌, ◌^◌, min, ◌≡◌, true, false, length}
use mathlib.Core.List.{List, map, ◌++◌, Memᴰ}
use Rattle.sheet.specs.declared.task.TaskSet.{TaskSet}
use Rattle.shares.specs.declared.share.Share.{Share}
use Rattle.sheet.specs.Format.{task_in}
use Rattle.nodes.specs.Sets.{has}
use Rattle.sheet.specs.Level.{is_low}
use Rattle.model.specs.Row.{Row, precedes, all_ended, ready, running, fixed_part}
use Rattle.model.specs.Step.{Model, Call, release, row_at}
use Rattle.model.specs.Run.{after, is_accepted, ticks_in, TrueReports}
use Rattle.model.specs.Plan.{fresh}
use Rattle.model.specs.Claim.{ReleaseIn, begun, KeepsBudget, Ended, DeadlinePassed}

-- S10.10: from the model m on, the mode is typical until the d-th accepted tick of these calls: at each moment before
-- it.
unfoldable pub TypicalUntil : ℕ → Model → List Call → Type 0
TypicalUntil d m calls =
    (before rest : List Call) → calls ≡ before ++ rest → ticks_in m before < d → (after m before).critical ≡ false

-- S10.10: a low job that keeps its budget, with true reports, has ended once its deadline has passed, if from its
-- release until the D-th tick the mode was typical. What that tick and later ones make of the mode does not matter.
unfoldable pub LowDeadline : TaskSet → List Share → List Call → Type 0
LowDeadline ts shares calls =
    (i : ℕ) (job : ReleaseIn (fresh ts shares) i calls) (lengths : ℕ → ℕ) →
    is_low (task_in ts i).level ≡ true →
    KeepsBudget (task_in ts i) (task_in ts i).figures.nominal lengths →
    TrueReports i lengths (begun job) job.since →
    TypicalUntil (task_in ts i).figures.deadline (begun job) job.since →
    DeadlinePassed (task_in ts i) i (begun job) job.since →
    Ended (task_in ts i) (row_at (after (fresh ts shares) calls) i)

-- S10.10: a task that was released in the list can be released after it only if there were D accepted ticks in between.
unfoldable pub ReleasesApart : TaskSet → List Share → List Call → Type 0
ReleasesApart ts shares calls =
    (i : ℕ) (job : ReleaseIn (fresh ts shares) i calls) →
    is_accepted (after (fresh ts shares) calls) (release i) ≡ true →
    (task_in ts i).figures.deadline ≤ ticks_in (begun job) job.since

-- S7.2, of one task's job: the age is at most D, no node from k on has ended, and an alive job has a node that has not.
pub record SoundRow (r : Row) : Type 0 where
  pub age : r.age ≤ r.fixed.deadline
  pub ended : r.job.ended < 2 ^ r.fixed.nodes
  pub alive : r.job.alive ≡ true → all_ended r.fixed.nodes r.job.ended ≡ false

-- S10.10: what the sheet and the plan fix stays as it was at the start, and each task's job stays sound.
pub record Lasting (ts : TaskSet) (shares : List Share) (m : Model) : Type 0 where
  pub fixed : map fixed_part m.rows ≡ map fixed_part (fresh ts shares).rows
  pub sound : (i : ℕ) → SoundRow (row_at m i)

-- S8.2, node by node: v is a node of an alive job, it has not ended, and each of its predecessors has.
pub record MayStart (r : Row) (v : ℕ) : Type 0 where
  pub node : v < r.fixed.nodes
  pub alive : r.job.alive ≡ true
  pub left : has r.job.ended v ≡ false
  pub predecessors : (j : ℕ) → precedes r.fixed.predecessors j v ≡ true → has r.job.ended j ≡ true

-- S8.2 and S8.3, whatever the task is granted: only such nodes run and each of them is ready; where one runs, so do
-- those with lower numbers; and as many run as are granted, or all that are ready.
pub record Startable (r : Row) : Type 0 where
  pub runs : (grant v : ℕ) → Memᴰ v (running grant r) → MayStart r v
  pub listed : (v : ℕ) → MayStart r v → Memᴰ v (ready r)
  pub lowest : (grant u v : ℕ) → u < v → MayStart r u → Memᴰ v (running grant r) → Memᴰ u (running grant r)
  pub many : (grant : ℕ) → length (running grant r) ≡ min grant (length (ready r))

-- All of it over one list of calls. Every prefix of the list is a list, so this speaks of every moment.
pub record Beside (ts : TaskSet) (shares : List Share) (calls : List Call) : Type 0 where
  pub low : LowDeadline ts shares calls
  pub apart : ReleasesApart ts shares calls
  pub lasting : Lasting ts shares (after (fresh ts shares) calls)
  pub startable : (i : ℕ) → Startable (row_at (after (fresh ts shares) calls) i)
