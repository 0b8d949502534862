-- S10.14 and S10.15: one task seen by itself. What the calls of a run give a task at each tick count, and that nothing
-- bears on it but this and the mode.
use Rattle.std.specs.Prelude.{ℕ, zero, suc, ◌≤◌, ◌<◌, ◌≡◌, Bool, true, false, cond, List, [], ◌∷◌, ◌++◌, get_or}
use Rattle.std.specs.List.{list_any}
use Rattle.sheet.specs.declared.task.Task.{Task}
use Rattle.sheet.specs.declared.task.TaskSet.{TaskSet}
use Rattle.shares.specs.declared.share.Share.{Share}
use Rattle.sheet.specs.Format.{task_in}
use Rattle.shares.specs.Totals.{share_at}
use Rattle.model.specs.Step.{Model, Call, release, tick, step, row_at, running_at}
use Rattle.model.specs.Run.{after, answers, is_accepted, is_tick, ticks_in, releases_in}
use Rattle.model.specs.Plan.{fresh}
use Rattle.model.specs.Claim.{is_switched}

-- S10.14: the calls of a list up to its t-th accepted tick, with it: none for 0, and all of them where there are fewer
-- ticks.
abbrev pub until_tick : ℕ → Model → List Call → List Call
until_tick t m [] = []
until_tick zero m (c ∷ calls) = []
until_tick (suc t) m (c ∷ calls) = c ∷ until_tick (cond (is_tick m c) t (suc t)) (step m c).model calls

-- S10.14: the calls at tick count t: those behind the t-th accepted tick and before the next one.
abbrev pub calls_at : ℕ → Model → List Call → List Call
calls_at t m [] = []
calls_at zero m (c ∷ calls) = cond (is_tick m c) [] (c ∷ calls_at zero (step m c).model calls)
calls_at (suc t) m (c ∷ calls) = calls_at (cond (is_tick m c) t (suc t)) (step m c).model calls

-- What a call reports of task i; a Release reports nothing.
abbrev pub report_of : ℕ → Call → ℕ
report_of i (release j) = 0
report_of i (tick reports) = get_or reports i 0

-- S10.14: what the accepted tick that ends tick count t reports of task i: it is the next one behind the t-th.
abbrev pub report_at : ℕ → ℕ → Model → List Call → ℕ
report_at i t m [] = 0
report_at i zero m (c ∷ calls) = cond (is_tick m c) (report_of i c) (report_at i zero (step m c).model calls)
report_at i (suc t) m (c ∷ calls) = report_at i (cond (is_tick m c) t (suc t)) (step m c).model calls

-- S10.14: that these are what their names say. The list has the calls up to the t-th tick, those at tick count t, an
-- accepted tick and the rest; the first of these have t accepted ticks, the second none, and the tick is the last of
-- the calls up to the next one and has its report.
pub record TickCounted (t : ℕ) (m : Model) (calls : List Call) : Type 0 where
  pub reports : List ℕ
  pub rest : List Call
  pub list : calls ≡ (until_tick t m calls ++ calls_at t m calls) ++ tick reports ∷ rest
  pub counted : ticks_in m (until_tick t m calls) ≡ t
  pub waits : ticks_in (after m (until_tick t m calls)) (calls_at t m calls) ≡ 0
  pub next : until_tick (suc t) m calls ≡ (until_tick t m calls ++ calls_at t m calls) ++ tick reports ∷ []
  pub accepted : is_accepted (after m (until_tick t m calls ++ calls_at t m calls)) (tick reports) ≡ true
  pub report : (i : ℕ) → report_at i t m calls ≡ get_or reports i 0

-- So it is of every list of calls with more than t accepted ticks.
unfoldable pub TicksCounted : Type 0
TicksCounted = (t : ℕ) (m : Model) (calls : List Call) → t < ticks_in m calls → TickCounted t m calls

-- S10.14: one task of a run: the task set and its shares, the list of calls from the start, and the task's number.
pub record TaskRun : Type 0 where
  pub tasks : TaskSet
  pub shares : List Share
  pub calls : List Call
  pub number : ℕ

-- S10.2: the model before the first call.
abbrev pub start : TaskRun → Model
start r = fresh r.tasks r.shares

-- S2.6: what the task's record says.
abbrev pub task_of : TaskRun → Task
task_of r = task_in r.tasks r.number

-- S5.3, S5.6: the task's shares in both modes.
abbrev pub share_of : TaskRun → Share
share_of r = share_at r.shares r.number

-- The calls of the run up to its t-th accepted tick.
abbrev pub until_in : TaskRun → ℕ → List Call
until_in r t = until_tick t (start r) r.calls

-- The calls of the run before the accepted tick that follows the t-th: those up to the t-th, and those at tick count t.
abbrev pub before_in : TaskRun → ℕ → List Call
before_in r t = until_in r t ++ calls_at t (start r) r.calls

-- S10.14: the mode after the t-th accepted tick.
abbrev pub mode_at : TaskRun → ℕ → Bool
mode_at r t = (after (start r) (until_in r t)).critical

-- S10.14: how many releases of the task are accepted at tick count t.
abbrev pub releases_at : TaskRun → ℕ → ℕ
releases_at r t = releases_in r.number (after (start r) (until_in r t)) (calls_at t (start r) r.calls)

-- S10.14: a task of each run, both with the same record. Their numbers may differ, and so may the other tasks and the
-- processors.
pub record SameRecord (r q : TaskRun) : Type 0 where
  pub known : r.number < r.tasks.count
  pub other_known : q.number < q.tasks.count
  pub says : task_of r ≡ task_of q

-- S10.14: up to the t-th accepted tick both runs give their task the same: there are so many ticks in both, and at each
-- tick count below t there are as many accepted releases of the task, and the tick that follows reports the same of it.
pub record SameGiven (t : ℕ) (r q : TaskRun) : Type 0 where
  pub ticks : t ≤ ticks_in (start r) r.calls
  pub other_ticks : t ≤ ticks_in (start q) q.calls
  pub releases : (s : ℕ) → s < t → releases_at r s ≡ releases_at q s
  pub reports : (s : ℕ) → s < t → report_at r.number s (start r) r.calls ≡ report_at q.number s (start q) q.calls

-- S10.14: after each of these ticks the mode is alike.
unfoldable pub SameModes : ℕ → TaskRun → TaskRun → Type 0
SameModes t r q = (s : ℕ) → s ≤ t → mode_at r s ≡ mode_at q s

-- S10.14: a task of one model is as a task of another: its running nodes and its ended nodes are alike, and so are its
-- alive mark and its age.
pub record Alike (m : Model) (i : ℕ) (n : Model) (j : ℕ) : Type 0 where
  pub running : running_at m i ≡ running_at n j
  pub ended : (row_at m i).job.ended ≡ (row_at n j).job.ended
  pub alive : (row_at m i).job.alive ≡ (row_at n j).job.alive
  pub age : (row_at m i).age ≡ (row_at n j).age

-- S10.14: the tasks are alike after each tick up to the t-th, and just before each of them, so that the same nodes run
-- on it. Beside each run stands what is held after a list of its calls, be it by the model or by a state.
pub record AlikeUntil (t : ℕ) (r : TaskRun) (held : List Call → Model) (q : TaskRun) (other_held : List Call → Model) : Type 0 where
  pub after_tick : (s : ℕ) → s ≤ t → Alike (held (until_in r s)) r.number (other_held (until_in q s)) q.number
  pub before_tick : (s : ℕ) → s < t → Alike (held (before_in r s)) r.number (other_held (before_in q s)) q.number

-- S10.14, isolation: two tasks with the same record and the same shares in both modes, which are given the same up to
-- the t-th tick while the modes are alike, are alike so long. Nothing is asked of other tasks, of refused calls and of
-- what comes later.
unfoldable pub Isolated : ℕ → TaskRun → TaskRun → Type 0
Isolated t r q =
    SameRecord r q → share_of r ≡ share_of q → SameGiven t r q → SameModes t r q →
    AlikeUntil t r (after (start r)) q (after (start q))

-- S10.15: no tick up to the t-th answers that it switched.
unfoldable pub Unswitched : ℕ → TaskRun → Type 0
Unswitched t r = list_any is_switched (answers (start r) (until_in r t)) ≡ false

-- S10.15: where no tick of either run switches, the same typical share is enough.
unfoldable pub IsolatedTypical : ℕ → TaskRun → TaskRun → Type 0
IsolatedTypical t r q =
    SameRecord r q → (share_of r).typical ≡ (share_of q).typical → SameGiven t r q → Unswitched t r → Unswitched t q →
    AlikeUntil t r (after (start r)) q (after (start q))
