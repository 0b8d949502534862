-- S10.12 and S10.13: when a tick returns to the typical mode, what may be released after it, and how soon after a
-- switch it comes.
use Rattle.std.specs.Prelude.{ℕ, ◌+◌, ◌≤◌, ◌<◌, ◌≡◌, Bool, true, false, not, ◌&&◌, ◌||◌, List, [], ◌∷◌, ◌++◌, map, leb, length, take, filter}
use Rattle.basics.specs.Lists.{greatest}
use Rattle.sheet.specs.declared.task.TaskSet.{TaskSet}
use Rattle.shares.specs.declared.share.Share.{Share}
use Rattle.sheet.specs.Level.{is_high}
use Rattle.model.specs.Step.{Model, Call, release, tick, switched, returned, step, row_at, ticked_rows}
use Rattle.model.specs.Run.{after, is_accepted, ticks_in}
use Rattle.model.specs.Plan.{fresh}
use Rattle.model.specs.Claim.{is_returned, HighJobsWithin}

-- S10.12: an accepted tick that finds the mode critical, and after which no high task has an alive job.
pub record MayReturn (m : Model) (reports : List ℕ) : Type 0 where
  pub accepted : is_accepted m (tick reports) ≡ true
  pub critical : m.critical ≡ true
  pub over : (i : ℕ) → is_high (row_at m i).fixed.level ≡ true → (row_at (step m (tick reports)).model i).job.alive ≡ false

-- S10.12: every task may be released as from the typical mode: if it has no alive job and its age is D.
pub record OpenToAll (m : Model) : Type 0 where
  pub typical : m.critical ≡ false
  pub release : (i : ℕ) → i < length m.rows →
      is_accepted m (release i) ≡ (not (row_at m i).job.alive && leb (row_at m i).fixed.deadline (row_at m i).age)

-- S10.12: a tick answers that it returned just where it may; then every task is as its own part of the tick left it,
-- kept jobs and ended sets too, and every task may be released.
pub record ReturnLaw (m : Model) (reports : List ℕ) : Type 0 where
  pub only : (step m (tick reports)).answer ≡ returned → MayReturn m reports
  pub always : MayReturn m reports → (step m (tick reports)).answer ≡ returned
  pub rows : (step m (tick reports)).answer ≡ returned → (step m (tick reports)).model.rows ≡ ticked_rows m.rows reports
  pub opens : (step m (tick reports)).answer ≡ returned → OpenToAll (step m (tick reports)).model

-- S10.13: the longest deadline of the high tasks, 0 where there are none.
unfoldable pub longest_deadline : TaskSet → ℕ
longest_deadline ts =
    greatest (map (λ t. t.figures.deadline) (filter (λ t. is_high t.level) (take ts.count ts.tasks)))

-- S10.13: a tick of a list of calls that switched, with the calls before it and those since.
pub record SwitchIn (start : Model) (calls : List Call) : Type 0 where
  pub before : List Call
  pub reports : List ℕ
  pub since : List Call
  pub list : calls ≡ before ++ tick reports ∷ since
  pub task : ℕ
  pub answer : (step (after start before) (tick reports)).answer ≡ switched task

-- The model just after that tick.
unfoldable pub turned : {start : Model} {calls : List Call} → SwitchIn start calls → Model
turned {start} s = (step (after start s.before) (tick s.reports)).model

-- Whether the call is an accepted Release of a high task.
abbrev pub is_high_release : Model → Call → Bool
is_high_release m (release i) = is_high (row_at m i).fixed.level && is_accepted m (release i)
is_high_release m (tick reports) = false

-- S10.13: whether no high task is released among these calls before the first tick that returns.
abbrev pub waits_for_return : Model → List Call → Bool
waits_for_return m [] = true
waits_for_return m (c ∷ calls) =
    not (is_high_release m c) && (is_returned (step m c).answer || waits_for_return (step m c).model calls)

-- S10.13: among the calls since the model m a tick returns, with so few accepted ticks up to it that with it they are
-- fewer than the limit.
pub record ReturnWithin (limit : ℕ) (m : Model) (since : List Call) : Type 0 where
  pub before : List Call
  pub reports : List ℕ
  pub later : List Call
  pub list : since ≡ before ++ tick reports ∷ later
  pub answer : (step (after m before) (tick reports)).answer ≡ returned
  pub soon : ticks_in m before + 1 < limit

-- S10.13, back in time: if each job of a high task keeps its overload budget, with true reports, a switch is followed
-- by a return: counted from the switch it is not as late as the longest deadline of the high tasks, unless a high task
-- is released in between. The list has to go on that long.
unfoldable pub BackInTime : TaskSet → List Share → List Call → Type 0
BackInTime ts shares calls =
    (s : SwitchIn (fresh ts shares) calls) →
    HighJobsWithin (λ t. t.figures.overload) ts (fresh ts shares) calls →
    waits_for_return (turned s) s.since ≡ true →
    longest_deadline ts ≤ ticks_in (turned s) s.since + 1 →
    ReturnWithin (longest_deadline ts) (turned s) s.since
