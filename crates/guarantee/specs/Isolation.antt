-- S10.14 and S10.15, of the states that Start, Release and Tick return: a task alone and in a full sheet.
use Rattle.std.specs.Prelude.{ℕ, ◌<◌, List, ◌≡◌}
use Rattle.std.specs.Prelude.{Ok}
use Rattle.sheet.specs.Format.{task_in}
use Rattle.shares.specs.Totals.{share_at}
use Rattle.model.specs.Step.{Model, Call}
use Rattle.model.specs.Isolation.{TaskRun, share_of, SameRecord, SameGiven, SameModes, Unswitched, AlikeUntil}
use Rattle.dispatcher.specs.Holds.{model_of}
use Rattle.start.specs.Start.{start_of}
use Rattle.guarantee.specs.Runs.{state_after}
use Rattle.guarantee.specs.Guarantee.{tasks_for, shares_for, start_state}

-- S10.14: a task in a run of a sheet.
abbrev pub task_run : List ℕ → List Call → ℕ → TaskRun
task_run sheet calls i = record { tasks = tasks_for sheet; shares = shares_for sheet; calls = calls; number = i }

-- S10.3: what the state holds that the last of these calls returned, from the state that Start returned for the sheet.
abbrev pub held_after : List ℕ → List Call → Model
held_after sheet calls = model_of (state_after (start_state sheet) calls)

-- S10.14, isolation: two sheets that Start accepts, with a task in each, and a run of either. If the tasks have the same record and the same
-- shares in both modes, and up to the t-th accepted tick both runs have the same accepted releases and reports of their task at the same tick
-- counts and the same mode after every tick, then the tasks are alike in the states that the calls return. Nothing is asked of other
-- tasks, of blocks, of refused calls and of how many calls there are.
unfoldable pub IsolationGuarantee : Type 0
IsolationGuarantee =
    (sheet other : List ℕ) → (start_of sheet).answer ≡ Ok tt → (start_of other).answer ≡ Ok tt →
    (calls others : List Call) (i j t : ℕ) →
    SameRecord (task_run sheet calls i) (task_run other others j) →
    share_of (task_run sheet calls i) ≡ share_of (task_run other others j) →
    SameGiven t (task_run sheet calls i) (task_run other others j) →
    SameModes t (task_run sheet calls i) (task_run other others j) →
    AlikeUntil t (task_run sheet calls i) (held_after sheet) (task_run other others j) (held_after other)

-- S10.15: where no tick up to the t-th switches in either run, the same typical share is enough. The critical shares play no part.
unfoldable pub UnswitchedGuarantee : Type 0
UnswitchedGuarantee =
    (sheet other : List ℕ) → (start_of sheet).answer ≡ Ok tt → (start_of other).answer ≡ Ok tt →
    (calls others : List Call) (i j t : ℕ) →
    SameRecord (task_run sheet calls i) (task_run other others j) →
    (share_of (task_run sheet calls i)).typical ≡ (share_of (task_run other others j)).typical →
    SameGiven t (task_run sheet calls i) (task_run other others j) →
    Unswitched t (task_run sheet calls i) →
    Unswitched t (task_run other others j) →
    AlikeUntil t (task_run sheet calls i) (held_after sheet) (task_run other others j) (held_after other)

-- S10.15, commissioning: so it is of a task that is tested alone on a sheet of its own, and in a full sheet has the same record and the same
-- typical share.
unfoldable pub CommissioningGuarantee : Type 0
CommissioningGuarantee =
    (alone full : List ℕ) → (start_of alone).answer ≡ Ok tt → (start_of full).answer ≡ Ok tt →
    (tasks_for alone).count ≡ 1 →
    (j : ℕ) → j < (tasks_for full).count →
    task_in (tasks_for alone) 0 ≡ task_in (tasks_for full) j →
    (share_at (shares_for alone) 0).typical ≡ (share_at (shares_for full) j).typical →
    (calls others : List Call) (t : ℕ) →
    SameGiven t (task_run alone calls 0) (task_run full others j) →
    Unswitched t (task_run alone calls 0) →
    Unswitched t (task_run full others j) →
    AlikeUntil t (task_run alone calls 0) (held_after alone) (task_run full others j) (held_after full)
