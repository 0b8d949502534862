-- What the deadline (S10.7), the nominal clause (S10.9), the clause of low jobs (S10.10) and that of the return (S10.13) ask can be met: one
-- sheet, and a run for each of the four clauses. So can what the clause of kept tasks (S10.11) asks, by a sheet and a run of its own.
use Rattle.std.specs.Prelude.{ℕ, ◌+◌, ◌≤◌, true, Bool, List, [], ◌∷◌, ◌++◌, ◌≡◌, get_or, take}
use Rattle.std.specs.Prelude.{Ok, Err}
use Rattle.sheet.specs.declared.task.Budget.{Budget}
use Rattle.sheet.specs.declared.task.Task.{Task}
use Rattle.sheet.specs.declared.refusal.Refusal.TheVariants.{LowInCritical, NotRunning}
use Rattle.sheet.specs.Format.{task_in}
use Rattle.sheet.specs.Level.{is_high, is_low}
use Rattle.shares.specs.Low.{is_kept}
use Rattle.shares.specs.Totals.{share_at}
use Rattle.model.specs.Step.{Model, Call, release, tick, row_at}
use Rattle.model.specs.Run.{after, is_accepted, ticks_in, releases_in, TrueReports}
use Rattle.model.specs.Claim.{ReleaseIn, begun, KeepsBudget, DeadlinePassed, HighJobsWithin}
use Rattle.model.specs.Return.{longest_deadline, SwitchIn, turned, waits_for_return}
use Rattle.model.specs.Beside.{TypicalUntil}
use Rattle.dispatcher.specs.declared.tick.TickAnswer.TheVariants.{Ran, Switched, Returned, Refused as TickRefused}
use Rattle.start.specs.Start.{start_of}
use Rattle.guarantee.specs.Runs.{Said, released, ticked, all_said}
use Rattle.guarantee.specs.Guarantee.{shares_for, model_for, start_state, tasks_for}

-- S2.6: the record of task 0. It is high, with D 8, CN 4, CO 9, LN 2, LO 3 and four nodes; node 2 waits for node 1, the others for
-- none. Its shares are (1, 2), and its V is 4.
abbrev pub high_record : List ℕ
high_record =
    1 ∷ 4 ∷ 8 ∷ 0 ∷ 4 ∷ 0 ∷ 9 ∷ 0 ∷ 2 ∷ 0 ∷ 3 ∷ 0 ∷ 0 ∷ 0 ∷ 0 ∷ 0 ∷ 0 ∷ 0 ∷ 0 ∷ 0 ∷ 2 ∷ 0 ∷ 0 ∷ 0 ∷ 0 ∷ 0 ∷ 0 ∷ 0 ∷ []

-- S2.6: the record of task 1. It is low, with D 3, C 4, L 1 and two nodes that wait for none. Its share is 2.
abbrev pub low_record : List ℕ
low_record = 0 ∷ 2 ∷ 3 ∷ 0 ∷ 4 ∷ 0 ∷ 4 ∷ 0 ∷ 1 ∷ 0 ∷ 1 ∷ 0 ∷ 0 ∷ 0 ∷ 0 ∷ 0 ∷ 0 ∷ 0 ∷ 0 ∷ 0 ∷ []

-- S2.1 to S2.4: the sheet of both on three processors, in 58 bytes.
abbrev pub two_tasks : List ℕ
two_tasks = 3 ∷ 2 ∷ 10 ∷ 0 ∷ 28 ∷ 0 ∷ 38 ∷ 0 ∷ 20 ∷ 0 ∷ (high_record ++ low_record)

-- S2.5: task 0 of that sheet.
abbrev pub high_task : Task
high_task = task_in (tasks_for two_tasks) 0

-- S2.5: task 1 of that sheet.
abbrev pub low_task : Task
low_task = task_in (tasks_for two_tasks) 1

-- S10.6: lengths of task 0's nodes that use up the overload budget: together 9, and 3 along the chain of nodes 1 and 2.
abbrev pub long_lengths : ℕ → ℕ
long_lengths v = get_or (3 ∷ 2 ∷ 1 ∷ 3 ∷ []) v 1

-- S10.1: the ticks of a job of these lengths until it switches.
abbrev pub until_switch : List Call
until_switch = tick (0 ∷ 0 ∷ []) ∷ tick (0 ∷ 0 ∷ []) ∷ tick (1 ∷ 0 ∷ []) ∷ tick (0 ∷ 0 ∷ []) ∷ []

-- S10.1: those from there until it has ended.
abbrev pub until_return : List Call
until_return = tick (2 ∷ 0 ∷ []) ∷ tick (4 ∷ 0 ∷ []) ∷ tick (8 ∷ 0 ∷ []) ∷ []

-- S8.7: what the former answer.
abbrev pub switch_said : List Said
switch_said = ticked Ran ∷ ticked Ran ∷ ticked Ran ∷ ticked (Switched 0) ∷ []

-- S8.7: what the latter answer, where no other high job is alive.
abbrev pub return_said : List Said
return_said = ticked Ran ∷ ticked Ran ∷ ticked Returned ∷ []

-- S10.1: a run with a high job of these lengths, beside a low job of which no tick reports a node. The fourth tick switches, while
-- node 1 runs. Then a Release of the low task is refused, and a tick that reports node 2, which still waits: node 3 runs in its
-- stead. The high job ends with the seventh accepted tick, which returns; the eighth is the D-th, and one more follows.
abbrev pub overrun : List Call
overrun =
    release 0
    ∷ release 1
    ∷ (until_switch
    ++ release 1
    ∷ tick (4 ∷ 0 ∷ [])
    ∷ (until_return ++ tick (0 ∷ 0 ∷ []) ∷ tick (0 ∷ 0 ∷ []) ∷ []))

-- S3.1, S8.7: what the calls of that run answer.
abbrev pub overrun_said : List Said
overrun_said =
    released (Ok tt)
    ∷ released (Ok tt)
    ∷ (switch_said
    ++ released (Err (LowInCritical 1))
    ∷ ticked (TickRefused (NotRunning 0))
    ∷ (return_said ++ ticked Ran ∷ ticked Ran ∷ []))

-- S10.1: a run with two such jobs, one behind the other. Each switches with its fourth tick and returns with its seventh. The first switch drops
-- a low job, and a Release of the low task is refused until the return; then the task is released again, and this job ends with one tick.
-- The run ends with the D-th tick of the second high job.
abbrev pub there_and_back : List Call
there_and_back =
    release 0
    ∷ release 1
    ∷ (until_switch
    ++ release 1
    ∷ (until_return
    ++ release 1
    ∷ tick (0 ∷ 3 ∷ [])
    ∷ release 0
    ∷ (until_switch ++ until_return ++ tick (0 ∷ 0 ∷ []) ∷ [])))

-- S3.1, S8.7: what the calls of that run answer.
abbrev pub there_and_back_said : List Said
there_and_back_said =
    released (Ok tt)
    ∷ released (Ok tt)
    ∷ (switch_said
    ++ released (Err (LowInCritical 1))
    ∷ (return_said
    ++ released (Ok tt)
    ∷ ticked Ran
    ∷ released (Ok tt)
    ∷ (switch_said ++ return_said ++ ticked Ran ∷ [])))

-- S10.6: lengths of a tick each. Those of task 0's nodes use up the nominal budget: together 4, and 2 along the chain.
abbrev pub short_lengths : ℕ → ℕ
short_lengths v = 1

-- S10.1: a run with two high jobs of these lengths, the second released D ticks after the first, beside a low job that overruns:
-- no tick reports a node of it.
abbrev pub usual : List Call
usual =
    release 0
    ∷ release 1
    ∷ tick (1 ∷ 0 ∷ [])
    ∷ tick (2 ∷ 0 ∷ [])
    ∷ tick (4 ∷ 0 ∷ [])
    ∷ tick (8 ∷ 0 ∷ [])
    ∷ tick (0 ∷ 0 ∷ [])
    ∷ tick (0 ∷ 0 ∷ [])
    ∷ tick (0 ∷ 0 ∷ [])
    ∷ tick (0 ∷ 0 ∷ [])
    ∷ release 0
    ∷ tick (1 ∷ 0 ∷ [])
    ∷ tick (2 ∷ 0 ∷ [])
    ∷ []

-- S10.1: a run with a low job whose two nodes take a tick each, beside no other. It ends with the first tick, the third is the D-th.
abbrev pub low_alone : List Call
low_alone = release 1 ∷ tick (0 ∷ 3 ∷ []) ∷ tick (0 ∷ 0 ∷ []) ∷ tick (0 ∷ 0 ∷ []) ∷ []

-- S2.6: the record of a low task, with D 4, C 6, L 2 and three nodes that wait for none. Its share is 2.
abbrev pub kept_record : List ℕ
kept_record =
    0 ∷ 3 ∷ 4 ∷ 0 ∷ 6 ∷ 0 ∷ 6 ∷ 0 ∷ 2 ∷ 0 ∷ 2 ∷ 0 ∷ 0 ∷ 0 ∷ 0 ∷ 0 ∷ 0 ∷ 0 ∷ 0 ∷ 0 ∷ 0 ∷ 0 ∷ 0 ∷ 0 ∷ []

-- S2.1 to S2.4: the sheet of task 0 above and of this one on four processors, in 62 bytes. In the critical mode task 0 leaves two
-- processors over, and task 1 is kept on them (S5.6).
abbrev pub one_kept : List ℕ
one_kept = 4 ∷ 2 ∷ 10 ∷ 0 ∷ 28 ∷ 0 ∷ 38 ∷ 0 ∷ 24 ∷ 0 ∷ (high_record ++ kept_record)

-- S2.5: task 1 of that sheet.
abbrev pub kept_task : Task
kept_task = task_in (tasks_for one_kept) 1

-- S10.6: lengths of its nodes that use up its budget: together 6, and 2 along each chain, which is a node alone.
abbrev pub kept_lengths : ℕ → ℕ
kept_lengths v = 2

-- S10.1: a run with a high job of the long lengths, and two ticks later a job of the kept task. Nodes 0 and 1 of the kept job end with
-- its second tick, which switches; node 2 ends with its fourth, which is the D-th. The high job ends one tick later, and that tick returns.
abbrev pub over_switch : List Call
over_switch =
    release 0
    ∷ tick (0 ∷ 0 ∷ [])
    ∷ tick (0 ∷ 0 ∷ [])
    ∷ release 1
    ∷ tick (1 ∷ 0 ∷ [])
    ∷ tick (0 ∷ 3 ∷ [])
    ∷ tick (2 ∷ 0 ∷ [])
    ∷ tick (4 ∷ 4 ∷ [])
    ∷ tick (8 ∷ 0 ∷ [])
    ∷ []

-- S10.1: the same run up to the D-th tick of the kept job, then a Release of its task in the critical mode, and the last tick.
abbrev pub kept_again : List Call
kept_again = take 8 over_switch ++ release 1 ∷ tick (8 ∷ 0 ∷ []) ∷ []

-- S3.1, S8.7, S9.12: what its calls answer.
abbrev pub kept_again_said : List Said
kept_again_said =
    released (Ok tt)
    ∷ ticked Ran
    ∷ ticked Ran
    ∷ released (Ok tt)
    ∷ ticked Ran
    ∷ ticked (Switched 0)
    ∷ ticked Ran
    ∷ ticked Ran
    ∷ released (Ok tt)
    ∷ ticked Returned
    ∷ []

-- S10.7, S10.10, S10.11: what is asked of a job of task i in a run for it to end in time, at a level and under a budget.
pub record InTimeAsked (is_such : ℕ → Bool) (budget : Budget) (start : Model) (t : Task) (i : ℕ) (calls : List Call) (lengths : ℕ → ℕ) : Type 0 where
  pub job : ReleaseIn start i calls
  pub level_is : is_such t.level ≡ true
  pub keeps : KeepsBudget t budget lengths
  pub reports : TrueReports i lengths (begun job) job.since
  pub passed : DeadlinePassed t i (begun job) job.since

-- S10.7 is met by a job that overruns its nominal budget.
pub record DeadlineMet : Type 0 where
  -- Start accepts the sheet.
  pub started : (start_of two_tasks).answer ≡ Ok tt
  -- The run switches and returns, and two of its calls are refused.
  pub said : all_said (start_state two_tasks) overrun ≡ overrun_said
  -- The job's lengths do not keep the nominal budget.
  pub beyond : KeepsBudget high_task high_task.figures.nominal long_lengths → ⊥
  -- All that the deadline asks holds of it.
  pub asked : InTimeAsked is_high high_task.figures.overload (model_for two_tasks) high_task 0 overrun long_lengths

-- S10.9 is met by a run with two accepted releases of the high task.
pub record NominalMet : Type 0 where
  -- Start accepts the sheet.
  pub started : (start_of two_tasks).answer ≡ Ok tt
  -- The run has jobs of a high task.
  pub high : is_high high_task.level ≡ true
  pub jobs : releases_in 0 (model_for two_tasks) usual ≡ 2
  -- All that the nominal clause asks holds of it.
  pub asked : HighJobsWithin (λ t. t.figures.nominal) (tasks_for two_tasks) (model_for two_tasks) usual

-- S10.10 is met by a low job in typical mode, and by its task's next release.
pub record LowMet : Type 0 where
  -- Start accepts the sheet.
  pub started : (start_of two_tasks).answer ≡ Ok tt
  -- What is asked of a low job, as of any other, holds of it.
  pub asked : InTimeAsked is_low low_task.figures.nominal (model_for two_tasks) low_task 1 low_alone short_lengths
  -- The mode is typical until its D-th tick.
  pub typical : TypicalUntil low_task.figures.deadline (begun asked.job) asked.job.since
  -- The task can be released again.
  pub again : is_accepted (after (model_for two_tasks) low_alone) (release 1) ≡ true

-- S10.11 is met by a job of a kept low task that is released in the typical mode and goes on over the switch.
pub record KeptMet : Type 0 where
  -- Start accepts the sheet.
  pub started : (start_of one_kept).answer ≡ Ok tt
  -- The run switches and returns, and in the critical mode the kept task can be released again.
  pub said : all_said (start_state one_kept) kept_again ≡ kept_again_said
  -- Just before its D-th tick, in the critical mode, the job is alive.
  pub critical : (after (model_for one_kept) (take 7 over_switch)).critical ≡ true
  pub alive : (row_at (after (model_for one_kept) (take 7 over_switch)) 1).job.alive ≡ true
  -- All that the clause asks holds of it.
  pub asked : InTimeAsked (λ level. is_kept level (share_at (shares_for one_kept) 1)) kept_task.figures.nominal
      (model_for one_kept) kept_task 1 over_switch kept_lengths

-- S10.13 is met by a run that switches and returns twice, and S10.7 by a job that is released in it after a return.
pub record BackMet : Type 0 where
  -- Start accepts the sheet.
  pub started : (start_of two_tasks).answer ≡ Ok tt
  -- The run switches twice, and returns each time.
  pub said : all_said (start_state two_tasks) there_and_back ≡ there_and_back_said
  -- All that the clause of the return asks holds of its first switch.
  pub switch : SwitchIn (model_for two_tasks) there_and_back
  pub jobs : HighJobsWithin (λ t. t.figures.overload) (tasks_for two_tasks) (model_for two_tasks) there_and_back
  pub waits : waits_for_return (turned switch) switch.since ≡ true
  pub enough : longest_deadline (tasks_for two_tasks) ≤ ticks_in (turned switch) switch.since + 1
  -- All that the deadline asks holds of the second high job.
  pub asked : InTimeAsked is_high high_task.figures.overload (model_for two_tasks) high_task 0 there_and_back long_lengths
  pub later : releases_in 0 (model_for two_tasks) asked.job.before ≡ 1
