-- The promises of S10.7 to S10.9 and S10.11, read off the model: what holds of a task set, its shares and a list of
-- calls from the start.
use Rattle.std.specs.Prelude.{ℕ, ◌+◌, ◌≤◌, ◌≡◌, Bool, true, false, List, [], ◌∷◌, ◌++◌, length}
use Rattle.std.specs.List.{list_any}
use Rattle.sheet.specs.declared.task.Budget.{Budget}
use Rattle.sheet.specs.declared.task.Task.{Task}
use Rattle.sheet.specs.declared.task.TaskSet.{TaskSet}
use Rattle.shares.specs.declared.share.Share.{Share}
use Rattle.shares.specs.Low.{is_kept}
use Rattle.shares.specs.Totals.{share_in, share_at}
use Rattle.model.specs.Row.{Row, precedes, all_ended}
use Rattle.model.specs.Step.{Model, Call, release, tick, Answer, accepted, ran, switched, returned, refused, step, row_at, running_at}
use Rattle.model.specs.Run.{after, answers, is_accepted, ticks_in, releases_in, TrueReports}
use Rattle.model.specs.Budget.{sum_below, Keeps}
use Rattle.sheet.specs.Format.{task_in}
use Rattle.sheet.specs.Level.{is_high}
use Rattle.model.specs.Plan.{fresh}

-- S10.4: a job begins with an accepted Release: one of task i in a list of calls, with the calls before it and those
-- since.
pub record ReleaseIn (start : Model) (i : ℕ) (calls : List Call) : Type 0 where
  pub before : List Call
  pub since : List Call
  pub list : calls ≡ before ++ release i ∷ since
  pub accepted : is_accepted (after start before) (release i) ≡ true

-- The model just after that Release.
unfoldable pub begun : {start : Model} {i : ℕ} {calls : List Call} → ReleaseIn start i calls → Model
begun {start} {i} r = (step (after start r.before) (release i)).model

-- S10.6: the lengths of the nodes of a task's job keep a budget.
unfoldable pub KeepsBudget : Task → Budget → (ℕ → ℕ) → Type 0
KeepsBudget t b lengths = Keeps t.nodes (precedes t.predecessors) b.work b.span lengths

-- S10.4 and S8.5: a job has ended when all its nodes have, and is then no longer alive.
pub record Ended (t : Task) (r : Row) : Type 0 where
  pub nodes : all_ended t.nodes r.job.ended ≡ true
  pub gone : r.job.alive ≡ false

-- S10.7: among the calls since the release that left the model m there is a D-th accepted tick, and after it no Release
-- of task i is accepted. (Before it none can be: `ReleasesApart`.)
pub record DeadlinePassed (t : Task) (i : ℕ) (m : Model) (since : List Call) : Type 0 where
  pub before : List Call
  pub reports : List ℕ
  pub later : List Call
  pub list : since ≡ before ++ tick reports ∷ later
  pub accepted : is_accepted (after m before) (tick reports) ≡ true
  pub ticks : ticks_in m before + 1 ≡ t.figures.deadline
  pub unreleased : releases_in i (after m (before ++ tick reports ∷ [])) later ≡ 0

-- Each job of a task of such a level whose lengths keep this budget, with true reports, has ended once its deadline has
-- passed. Nothing is asked of other tasks and their reports.
unfoldable pub EndInTime : (ℕ → Bool) → (Task → Budget) → TaskSet → List Share → List Call → Type 0
EndInTime is_such budget ts shares calls =
    (i : ℕ) (job : ReleaseIn (fresh ts shares) i calls) (lengths : ℕ → ℕ) →
    is_such (task_in ts i).level ≡ true →
    KeepsBudget (task_in ts i) (budget (task_in ts i)) lengths →
    TrueReports i lengths (begun job) job.since →
    DeadlinePassed (task_in ts i) i (begun job) job.since →
    Ended (task_in ts i) (row_at (after (fresh ts shares) calls) i)

-- S10.7, deadline: this holds of the high tasks and their overload budgets.
unfoldable pub Deadline : TaskSet → List Share → List Call → Type 0
Deadline ts shares calls = EndInTime is_high (λ t. t.figures.overload) ts shares calls

-- S10.11, kept: a job of a low task that is kept, whose lengths keep its budget, with true reports, has ended once its
-- deadline has passed, in whichever mode it was released and over the switch. Nothing is asked of other tasks and their
-- reports.
unfoldable pub KeptDeadline : TaskSet → List Share → List Call → Type 0
KeptDeadline ts shares calls =
    (i : ℕ) (job : ReleaseIn (fresh ts shares) i calls) (lengths : ℕ → ℕ) →
    is_kept (task_in ts i).level (share_at shares i) ≡ true →
    KeepsBudget (task_in ts i) (task_in ts i).figures.nominal lengths →
    TrueReports i lengths (begun job) job.since →
    DeadlinePassed (task_in ts i) i (begun job) job.since →
    Ended (task_in ts i) (row_at (after (fresh ts shares) calls) i)

-- S10.8, capacity: no task has more running nodes than its share in the mode, nor have all together more than M.
pub record Capacity (ts : TaskSet) (shares : List Share) (m : Model) : Type 0 where
  pub each : (i : ℕ) → length (running_at m i) ≤ share_in m.critical (share_at shares i)
  pub together : sum_below (length m.rows) (λ i. length (running_at m i)) ≤ ts.processors

-- S10.5 and S10.6: a job of task i whose lengths keep a budget, with true reports.
pub record JobWithin (t : Task) (b : Budget) (i : ℕ) (m : Model) (since : List Call) : Type 0 where
  pub lengths : ℕ → ℕ
  pub keeps : KeepsBudget t b lengths
  pub reports : TrueReports i lengths m since

-- S10.5 and S10.6: each job of a high task keeps this budget, with true reports.
unfoldable pub HighJobsWithin : (Task → Budget) → TaskSet → Model → List Call → Type 0
HighJobsWithin budget ts start calls =
    (i : ℕ) (job : ReleaseIn start i calls) →
    is_high (task_in ts i).level ≡ true → JobWithin (task_in ts i) (budget (task_in ts i)) i (begun job) job.since

-- Whether the answer says that a tick switched.
abbrev pub is_switched : Answer → Bool
is_switched accepted = false
is_switched ran = false
is_switched (switched task) = true
is_switched returned = false
is_switched (refused r) = false

-- Whether it says that a tick returned.
abbrev pub is_returned : Answer → Bool
is_returned accepted = false
is_returned ran = false
is_returned (switched task) = false
is_returned returned = true
is_returned (refused r) = false

-- S10.9: the mode is typical after the list, and no answer says that a tick switched or returned.
pub record StaysTypical (start : Model) (calls : List Call) : Type 0 where
  pub typical : (after start calls).critical ≡ false
  pub unswitched : list_any is_switched (answers start calls) ≡ false
  pub unreturned : list_any is_returned (answers start calls) ≡ false

-- S10.9, nominal: if each job of a high task keeps its nominal budget, with true reports, the mode stays typical.
-- Nothing is asked of low tasks.
unfoldable pub Nominal : TaskSet → List Share → List Call → Type 0
Nominal ts shares calls =
    HighJobsWithin (λ t. t.figures.nominal) ts (fresh ts shares) calls → StaysTypical (fresh ts shares) calls

-- S10.7 to S10.9 and S10.11 over one list of calls, whatever number of switches and returns is in it. Every prefix of a
-- list is a list, so this speaks of every moment.
pub record OfEveryRun (ts : TaskSet) (shares : List Share) (calls : List Call) : Type 0 where
  pub deadline : Deadline ts shares calls
  pub capacity : Capacity ts shares (after (fresh ts shares) calls)
  pub nominal : Nominal ts shares calls
  pub kept : KeptDeadline ts shares calls
