-- What S10.14 and S10.15 ask can be met: a high task alone and among others, over a switch and a return; and a low task alone, where it is
-- kept, and among others, where it is not. And without the modes S10.14 would be false.
use Rattle.std.specs.Prelude.{ℕ, ◌<◌, Bool, true, false, List, [], ◌∷◌, ◌++◌, ◌≡◌}
use Rattle.std.specs.Prelude.{Ok, Err}
use Rattle.sheet.specs.declared.refusal.Refusal.TheVariants.{LowInCritical, NotRunning, TooEarly, UnknownTask, WrongCount}
use Rattle.sheet.specs.Format.{task_in}
use Rattle.shares.specs.Totals.{share_at}
use Rattle.allocation.specs.Blocks.{offset_in}
use Rattle.model.specs.Step.{Call, release, tick, running_at}
use Rattle.model.specs.Isolation.{TaskRun, share_of, mode_at, releases_at, SameRecord, SameGiven, SameModes, Unswitched}
use Rattle.dispatcher.specs.declared.tick.TickAnswer.TheVariants.{Ran, Switched, Returned, Refused as TickRefused}
use Rattle.start.specs.Start.{start_of}
use Rattle.guarantee.specs.Runs.{Said, released, ticked, all_said}
use Rattle.guarantee.specs.Guarantee.{tasks_for, shares_for, start_state}
use Rattle.guarantee.specs.Isolation.{task_run, held_after}
use Rattle.guarantee.specs.Witness.{high_record, low_record, kept_record}

-- S2.1 to S2.4: the sheet of a high task alone on two processors, in 34 bytes. Its shares are (1, 2), and its V is 4.
abbrev pub high_only : List ℕ
high_only = 2 ∷ 1 ∷ 6 ∷ 0 ∷ 28 ∷ 0 ∷ high_record

-- S2.1 to S2.4: the sheet of a low task alone on two processors, in 30 bytes. Its shares are (2, 2): it is kept.
abbrev pub low_only : List ℕ
low_only = 2 ∷ 1 ∷ 6 ∷ 0 ∷ 24 ∷ 0 ∷ kept_record

-- S2.1 to S2.4: the sheet of three tasks on five processors, in 86 bytes: a low task, the high one, and the other low one. Their shares
-- are (2, 2), (1, 2) and (2, 0): the first low task is kept, the other is not.
abbrev pub three_tasks : List ℕ
three_tasks =
    5 ∷ 3 ∷ 14 ∷ 0 ∷ 20 ∷ 0 ∷ 34 ∷ 0 ∷ 28 ∷ 0 ∷ 62 ∷ 0 ∷ 24 ∷ 0 ∷ (low_record ++ high_record ++ kept_record)

-- S10.1: a run of the high task alone. A Release behind the second tick comes too early. The fourth tick switches, the seventh returns, and
-- the eighth is the D-th; then the task is released once more.
abbrev pub high_tested : List Call
high_tested =
    release 0
    ∷ tick (0 ∷ [])
    ∷ tick (0 ∷ [])
    ∷ release 0
    ∷ tick (1 ∷ [])
    ∷ tick (0 ∷ [])
    ∷ tick (2 ∷ [])
    ∷ tick (4 ∷ [])
    ∷ tick (8 ∷ [])
    ∷ tick (0 ∷ [])
    ∷ release 0
    ∷ tick (0 ∷ [])
    ∷ []

-- S3.1, S8.7: what its calls answer.
abbrev pub high_tested_said : List Said
high_tested_said =
    released (Ok tt)
    ∷ ticked Ran
    ∷ ticked Ran
    ∷ released (Err (TooEarly 0))
    ∷ ticked Ran
    ∷ ticked (Switched 0)
    ∷ ticked Ran
    ∷ ticked Ran
    ∷ ticked Returned
    ∷ ticked Ran
    ∷ released (Ok tt)
    ∷ ticked Ran
    ∷ []

-- S10.1: a run of the three tasks in which the high one is given the same until the eighth tick. Its neighbours have jobs of their own, of
-- which the switch drops one, and calls are refused for each of the causes 11 to 15. Behind the eighth tick a low task is released in its stead.
abbrev pub high_among_three : List Call
high_among_three =
    release 0
    ∷ release 1
    ∷ tick (0 ∷ 0 ∷ 0 ∷ [])
    ∷ release 2
    ∷ tick (0 ∷ 0 ∷ [])
    ∷ tick (1 ∷ 0 ∷ 0 ∷ [])
    ∷ tick (2 ∷ 1 ∷ 1 ∷ [])
    ∷ release 2
    ∷ tick (0 ∷ 0 ∷ 0 ∷ [])
    ∷ release 2
    ∷ release 0
    ∷ tick (0 ∷ 4 ∷ 0 ∷ [])
    ∷ tick (0 ∷ 2 ∷ 0 ∷ [])
    ∷ tick (3 ∷ 4 ∷ 0 ∷ [])
    ∷ tick (0 ∷ 8 ∷ 0 ∷ [])
    ∷ release 9
    ∷ tick (0 ∷ 0 ∷ 0 ∷ [])
    ∷ release 2
    ∷ tick (0 ∷ 0 ∷ 3 ∷ [])
    ∷ []

-- S3.1, S8.7: what its calls answer.
abbrev pub high_among_three_said : List Said
high_among_three_said =
    released (Ok tt)
    ∷ released (Ok tt)
    ∷ ticked Ran
    ∷ released (Ok tt)
    ∷ ticked (TickRefused WrongCount)
    ∷ ticked Ran
    ∷ ticked Ran
    ∷ released (Err (TooEarly 2))
    ∷ ticked (Switched 1)
    ∷ released (Err (LowInCritical 2))
    ∷ released (Ok tt)
    ∷ ticked (TickRefused (NotRunning 1))
    ∷ ticked Ran
    ∷ ticked Ran
    ∷ ticked Returned
    ∷ released (Err UnknownTask)
    ∷ ticked Ran
    ∷ released (Ok tt)
    ∷ ticked Ran
    ∷ []

-- S10.1: a run of the low task alone: it is released at once, and its job ends with the fourth tick.
abbrev pub low_tested : List Call
low_tested = release 0 ∷ tick (0 ∷ []) ∷ tick (3 ∷ []) ∷ tick (0 ∷ []) ∷ tick (4 ∷ []) ∷ []

-- S10.1: a run of the three tasks in which it is given the same, among other jobs. No tick switches.
abbrev pub low_among_three : List Call
low_among_three =
    release 2
    ∷ tick (0 ∷ 0 ∷ 0 ∷ [])
    ∷ release 0
    ∷ tick (0 ∷ 0 ∷ 3 ∷ [])
    ∷ release 1
    ∷ release 0
    ∷ tick (1 ∷ 0 ∷ 0 ∷ [])
    ∷ tick (2 ∷ 1 ∷ 4 ∷ [])
    ∷ []

-- S10.14: the high task in the run alone.
abbrev pub high_run : TaskRun
high_run = task_run high_only high_tested 0

-- S10.14: the high task among the three.
abbrev pub high_among : TaskRun
high_among = task_run three_tasks high_among_three 1

-- S10.15: the low task in the run alone.
abbrev pub low_run : TaskRun
low_run = task_run low_only low_tested 0

-- S10.15: the low task among the three.
abbrev pub low_among : TaskRun
low_among = task_run three_tasks low_among_three 2

-- S10.14 is met until the eighth tick, over a switch and a return.
pub record IsolationMet : Type 0 where
  -- Start accepts both sheets.
  pub started : (start_of high_only).answer ≡ Ok tt
  pub other_started : (start_of three_tasks).answer ≡ Ok tt
  -- All that the clause asks holds.
  pub same : SameRecord high_run high_among
  pub shares : share_of high_run ≡ share_of high_among
  pub given : SameGiven 8 high_run high_among
  pub modes : SameModes 8 high_run high_among
  -- The rest differs: the processors, the place of the block in both modes, the calls and their answers, and what comes behind the eighth tick.
  pub processors : (tasks_for high_only).processors ≡ 2
  pub other_processors : (tasks_for three_tasks).processors ≡ 5
  pub offset : (critical : Bool) → offset_in critical (shares_for high_only) 0 ≡ 0
  pub other_offset : (critical : Bool) → offset_in critical (shares_for three_tasks) 1 ≡ 2
  pub said : all_said (start_state high_only) high_tested ≡ high_tested_said
  pub other_said : all_said (start_state three_tasks) high_among_three ≡ high_among_three_said
  pub later : releases_at high_run 8 ≡ 1
  pub other_later : releases_at high_among 8 ≡ 0

-- S10.15 is met by a low task whose critical shares differ.
pub record CommissioningMet : Type 0 where
  -- Start accepts both sheets, and one has a task alone.
  pub started : (start_of low_only).answer ≡ Ok tt
  pub other_started : (start_of three_tasks).answer ≡ Ok tt
  pub single : (tasks_for low_only).count ≡ 1
  -- All that the clause asks holds.
  pub known : 2 < (tasks_for three_tasks).count
  pub says : task_in (tasks_for low_only) 0 ≡ task_in (tasks_for three_tasks) 2
  pub typical : (share_at (shares_for low_only) 0).typical ≡ (share_at (shares_for three_tasks) 2).typical
  pub given : SameGiven 4 low_run low_among
  pub unswitched : Unswitched 4 low_run
  pub other_unswitched : Unswitched 4 low_among
  -- Alone the task is kept, among the others it is not.
  pub critical : (share_at (shares_for low_only) 0).critical ≡ 2
  pub other_critical : (share_at (shares_for three_tasks) 2).critical ≡ 0

-- S2.1 to S2.4: the sheet of the high task twice, on four processors, in 66 bytes. The shares of both are (1, 2).
abbrev pub two_high : List ℕ
two_high = 4 ∷ 2 ∷ 10 ∷ 0 ∷ 28 ∷ 0 ∷ 38 ∷ 0 ∷ 28 ∷ 0 ∷ (high_record ++ high_record)

-- S10.1: a run of the high task alone, released behind the second of four ticks.
abbrev pub released_late : List Call
released_late = tick (0 ∷ []) ∷ tick (0 ∷ []) ∷ release 0 ∷ tick (0 ∷ []) ∷ tick (0 ∷ []) ∷ []

-- S10.1: a run in which task 0 is given the same, beside a job of task 1 that switches with the fourth tick.
abbrev pub beside_overrun : List Call
beside_overrun =
    release 1
    ∷ tick (0 ∷ 0 ∷ [])
    ∷ tick (0 ∷ 0 ∷ [])
    ∷ release 0
    ∷ tick (0 ∷ 0 ∷ [])
    ∷ tick (0 ∷ 0 ∷ [])
    ∷ []

-- S10.14 asks for the modes with a reason: two runs that meet all else that it asks, and in which other nodes run.
pub record ModesMatter : Type 0 where
  -- Start accepts both sheets.
  pub started : (start_of high_only).answer ≡ Ok tt
  pub other_started : (start_of two_high).answer ≡ Ok tt
  -- All but the modes is alike.
  pub same : SameRecord (task_run high_only released_late 0) (task_run two_high beside_overrun 0)
  pub shares : share_of (task_run high_only released_late 0) ≡ share_of (task_run two_high beside_overrun 0)
  pub given : SameGiven 4 (task_run high_only released_late 0) (task_run two_high beside_overrun 0)
  -- The modes are not, and the critical one runs two nodes.
  pub mode : mode_at (task_run high_only released_late 0) 4 ≡ false
  pub other_mode : mode_at (task_run two_high beside_overrun 0) 4 ≡ true
  pub running : running_at (held_after high_only released_late) 0 ≡ 0 ∷ []
  pub other_running : running_at (held_after two_high beside_overrun) 0 ≡ 0 ∷ 1 ∷ []
