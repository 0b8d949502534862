-- S10: what is promised of runs, as one claim about every sheet that Start accepts and every list of calls.
use Rattle.std.specs.Prelude.{ℕ, List, ◌≡◌}
use Rattle.std.specs.Prelude.{Ok}
use Rattle.sheet.specs.declared.task.TaskSet.{TaskSet}
use Rattle.sheet.specs.Format.{task_set_of}
use Rattle.shares.specs.declared.share.Share.{Share}
use Rattle.allocation.specs.Allocation.{shares_of}
use Rattle.model.specs.Step.{Model, Call}
use Rattle.model.specs.Run.{after}
use Rattle.model.specs.Plan.{fresh}
use Rattle.model.specs.Claim.{Deadline, Capacity, Nominal, KeptDeadline}
use Rattle.model.specs.Return.{ReturnLaw, BackInTime}
use Rattle.model.specs.Beside.{Beside}
use Rattle.dispatcher.specs.declared.state.State.{State}
use Rattle.dispatcher.specs.Holds.{model_of}
use Rattle.start.specs.Start.{start_of}
use Rattle.guarantee.specs.Runs.{state_after, all_said, all_model_said}

-- S2: the tasks that a sheet tells of.
unfoldable pub tasks_for : List ℕ → TaskSet
tasks_for sheet = task_set_of sheet

-- S5.3 and S5.6: the shares of these tasks: those chosen, and those kept in the critical mode.
unfoldable pub shares_for : List ℕ → List Share
shares_for sheet = shares_of (tasks_for sheet)

-- S10.2: the model of a run before its first call: fresh, and made of the sheet and its shares alone.
unfoldable pub model_for : List ℕ → Model
model_for sheet = fresh (tasks_for sheet) (shares_for sheet)

-- S10.1: the state that a run starts from is Start's.
unfoldable pub start_state : List ℕ → State
start_state sheet = (start_of sheet).state

-- S10: what holds of one run. Each beginning of a run is a run, so that each part speaks of every moment.
pub record Guaranteed (sheet : List ℕ) (calls : List Call) : Type 0 where
  -- S10.3: the answers are the model's.
  pub answers : all_said (start_state sheet) calls ≡ all_model_said (model_for sheet) calls
  -- S10.3: the state holds what the model holds.
  pub states : model_of (state_after (start_state sheet) calls) ≡ after (model_for sheet) calls
  -- S10.7: a high job that keeps the overload budget, with true reports, has ended with its D-th tick, over any number of switches and
  -- returns.
  pub deadline : Deadline (tasks_for sheet) (shares_for sheet) calls
  -- S10.8: no task runs more nodes than its share, and all of them together run at most M.
  pub capacity : Capacity (tasks_for sheet) (shares_for sheet) (after (model_for sheet) calls)
  -- S10.9: while each high job keeps the nominal budget, with true reports, the mode stays typical and no tick says that it switched or
  -- returned.
  pub nominal : Nominal (tasks_for sheet) (shares_for sheet) calls
  -- S10.11: a job of a kept low task that keeps its budget, with true reports, has ended with its D-th tick.
  pub kept : KeptDeadline (tasks_for sheet) (shares_for sheet) calls
  -- S10.12: a tick that comes next returns just where it finds the mode critical and leaves no high job alive; then every task may be
  -- released as from the typical mode.
  pub returns : (reports : List ℕ) → ReturnLaw (after (model_for sheet) calls) reports
  -- S10.13: while each high job keeps the overload budget, with true reports, a switch is followed by a return before the longest deadline
  -- of the high tasks has passed, unless a high task is released in between.
  pub back : BackInTime (tasks_for sheet) (shares_for sheet) calls

-- S10.1: it holds of every sheet that Start accepts and of every list of calls, whatever their arguments and answers.
unfoldable pub Guarantee : Type 0
Guarantee = (sheet : List ℕ) → (start_of sheet).answer ≡ Ok tt → (calls : List Call) → Guaranteed sheet calls

-- S10.10: what holds of the same runs beside it.
unfoldable pub BesideGuarantee : Type 0
BesideGuarantee =
    (sheet : List ℕ) → (start_of sheet).answer ≡ Ok tt → (calls : List Call) → Beside (tasks_for sheet) (shares_for sheet) calls
