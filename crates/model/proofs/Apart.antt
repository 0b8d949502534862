-- S10.10: releases of a task lie D ticks apart. The age of a job is at most the number of accepted ticks since its
-- release, and a Release is accepted only at age D.
use Prim.Native.Nat.{ℕ, suc, ◌+◌, ◌≤◌, ◌<◌, min}
use mathlib.Core.Path.{◌≡◌, refl, sym, ap, ◌∙◌}
use mathlib.Core.Bool.{Bool, true, false, cond, not, ◌&&◌, ◌||◌, false≢true}
use mathlib.Core.List.{List, [], ◌∷◌, ◌++◌}
use native.Mathlib.Omega.{arith}
use borrow.Author.Tests.{ltb-false}
use lib.Dec.{leb}
use lib.ListN.{length, get_or}
use Rattle.sheet.specs.declared.task.TaskSet.{TaskSet}
use Rattle.shares.specs.declared.share.Share.{Share}
use Rattle.std.specs.Prelude.{is_ok}
use Rattle.sheet.specs.declared.refusal.Refusal.TheVariants.{UnknownTask, LowInCritical, TooEarly}
use Rattle.sheet.specs.Refusal.{refused_if, ◌or_else◌}
use Rattle.sheet.specs.Format.{task_in}
use Rattle.model.specs.Row.{Fixed, Row, released_row, ticked_row, survives, switched_row}
use Rattle.model.specs.Step.{Model, Call, release, tick, release_refusal, row_at}
use Rattle.model.specs.Run.{after, is_accepted, is_tick, is_release_of, count_calls, ticks_in, releases_in}
use Rattle.model.specs.Plan.{fresh_row, fresh, Planned}
use Rattle.model.specs.Claim.{ReleaseIn, begun, DeadlinePassed}
use Rattle.model.specs.Beside.{ReleasesApart}
use Rattle.model.proofs.Steps.{next, after-append, zero_count, Turn, same, begins, ticks, TickAt, Settled, in_critical, in_typical, turns, turn, release_at}
use Rattle.model.proofs.Lasting.{fixed_step, fixed_after, same_fixed, length-step}
use Rattle.model.proofs.Fresh.{rows_after}
use Rattle.model.proofs.Released.{known_task, since_release, fixed_begun}

-- A Release that refusal 13 lets pass finds the age at D.
release_aged : (m : Model) (i : ℕ) → is_accepted m (release i) ≡ true → (row_at m i).fixed.deadline ≤ (row_at m i).age
unfolding is_accepted release_refusal
release_aged m i e =
    let aged = go (leb (length m.rows) i) (m.critical && not (survives (row_at m i).fixed)) (row_at m i).job.alive _ e in
    omega (arith, ltb-false)
  where
    go : (unknown low alive early : Bool) →
        is_ok (refused_if unknown UnknownTask or_else refused_if low (LowInCritical i) or_else refused_if (alive || early) (TooEarly i))
        ≡ true →
        early ≡ false
    go true low alive early n = absurd (false≢true n)
    go false true alive early n = absurd (false≢true n)
    go false false true early n = absurd (false≢true n)
    go false false false true n = absurd (false≢true n)
    go false false false false n = refl

-- A tick makes a task older by 1, up to D.
pub age_tick : (m : Model) (i : ℕ) (reports : List ℕ) → TickAt m i reports →
    (row_at (next m (tick reports)) i).age ≡ min (suc (row_at m i).age) (row_at m i).fixed.deadline
unfolding ticked_row switched_row
age_tick m i reports at = part at.settled
  where
    part : Settled (next m (tick reports)) i (ticked_row (row_at m i) (get_or reports i 0)) →
        (row_at (next m (tick reports)) i).age ≡ (ticked_row (row_at m i) (get_or reports i 0)).age
    part (in_critical n e) = ap (λ (r : Row). r.age) e
    part (in_typical n e l) = ap (λ (r : Row). r.age) e
    part (turns n e) = ap (λ (r : Row). r.age) e

-- No call but an accepted tick makes a job older, and a tick by 1 at most.
age_step : (m : Model) (x : Call) (i : ℕ) → i < length m.rows →
    (row_at (next m x) i).age ≤ (row_at m i).age + cond (is_tick m x) 1 0
unfolding released_row
age_step m x i known = go (turn m i x known)
  where
    go : Turn m i x → (row_at (next m x) i).age ≤ (row_at m i).age + cond (is_tick m x) 1 0
    go (same t r mode e) = omega (arith, ap (λ (r : Row). r.age) e)
    go (begins e a at) =
        omega (arith, ap (λ (y : Call). (row_at (next m y) i).age) e, ap (λ (r : Row). r.age) at.row)
    go (ticks reports e a at) =
        omega (
          arith,
          ap (λ (y : Call). (row_at (next m y) i).age) e,
          age_tick m i reports at,
          ap {B = ℕ} (λ (b : Bool). cond b 1 0) (ap (is_tick m) e ∙ ap (is_accepted m) (sym e) ∙ a),
        )

pub age_after : (m : Model) (calls : List Call) (i : ℕ) → i < length m.rows →
    (row_at (after m calls) i).age ≤ (row_at m i).age + ticks_in m calls
age_after m [] i known = omega arith
age_after m (x ∷ calls) i known =
    omega (arith, age_after (next m x) calls i (rw (length-step m x) known), age_step m x i known)

-- While the age and the ticks to come are fewer than D, no Release of the task is accepted.
none_before : (m : Model) (calls : List Call) (i : ℕ) → i < length m.rows →
    (row_at m i).age + ticks_in m calls < (row_at m i).fixed.deadline → releases_in i m calls ≡ 0
none_before m [] i known young = refl
none_before m (x ∷ calls) i known young = go (turn m i x known) (none_before (next m x) calls i (rw (length-step m x) known))
  where
    rest : (row_at (next m x) i).age + ticks_in (next m x) calls < (row_at (next m x) i).fixed.deadline
    rest = rw (same_fixed (next m x) m (fixed_step m x) i) (omega (arith, age_step m x i known))

    go : Turn m i x →
        ((row_at (next m x) i).age + ticks_in (next m x) calls < (row_at (next m x) i).fixed.deadline →
        releases_in i (next m x) calls ≡ 0) →
        releases_in i m (x ∷ calls) ≡ 0
    go (same t r mode e) then = zero_count (is_release_of i m x) _ r (then rest)
    go (begins e a at) then = absurd (omega (arith, release_aged m i (ap (is_accepted m) (sym e) ∙ a)))
    go (ticks reports e a at) then = zero_count (is_release_of i m x) _ (ap (is_release_of i m) e) (then rest)

-- A count over two lists of calls, one after the other.
count-append : (p : Model → Call → Bool) (m : Model) (before rest : List Call) →
    count_calls p m (before ++ rest) ≡ count_calls p m before + count_calls p (after m before) rest
count-append p m [] rest = omega arith
count-append p m (x ∷ before) rest = omega (arith, count-append p (next m x) before rest)

-- The calls since a job's release, from the fresh model.
module _ (ts : TaskSet) (shares : List Share) (planned : Planned ts shares) {calls : List Call} (i : ℕ)
    (job : ReleaseIn (fresh ts shares) i calls) where
  known : i < ts.count
  known = known_task ts shares planned job.before i job.accepted

  pub row_known : i < length (begun job).rows
  unfolding begun
  row_known = rw (length-step (after (fresh ts shares) job.before) (release i), rows_after ts shares planned job.before) known

  pub age_begun : (row_at (begun job) i).age ≡ 0
  unfolding begun released_row
  age_begun = ap (λ (r : Row). r.age) (release_at (after (fresh ts shares) job.before) i job.accepted).row

  deadline-begun : (row_at (begun job) i).fixed.deadline ≡ (task_in ts i).figures.deadline
  unfolding begun fresh_row
  deadline-begun = ap (λ (f : Fixed). f.deadline) (fixed_begun ts shares planned job.before i i known)

  -- Up to the D-th tick no Release of the task is accepted, and so none is in all the calls since.
  pub alone_since : (passed : DeadlinePassed (task_in ts i) i (begun job) job.since) → releases_in i (begun job) job.since ≡ 0
  alone_since passed =
      omega (
        arith,
        ap (releases_in i m) passed.list,
        count-append (is_release_of i) m passed.before (tick passed.reports ∷ passed.later),
        none_before m passed.before i row_known (omega (arith, age_begun, deadline-begun, passed.ticks)),
        ap (λ (n : Model). releases_in i n passed.later) (after-append m passed.before (tick passed.reports ∷ [])),
        passed.unreleased,
      )
    where
      m : Model
      m = begun job

  pub ticks_since : (passed : DeadlinePassed (task_in ts i) i (begun job) job.since) →
      (task_in ts i).figures.deadline ≤ ticks_in (begun job) job.since
  ticks_since passed =
      omega (
        arith,
        ap (ticks_in m) passed.list,
        count-append is_tick m passed.before (tick passed.reports ∷ passed.later),
        ap {B = ℕ} (λ (b : Bool). cond b 1 0) passed.accepted,
        passed.ticks,
      )
    where
      m : Model
      m = begun job

  apart : is_accepted (after (fresh ts shares) calls) (release i) ≡ true →
      (task_in ts i).figures.deadline ≤ ticks_in (begun job) job.since
  apart a =
      omega (
        arith,
        release_aged (after (begun job) job.since) i
            (ap (λ (n : Model). is_accepted n (release i)) (sym (since_release ts shares planned i job)) ∙ a),
        age_after (begun job) job.since i row_known,
        ap (λ (f : Fixed). f.deadline) (same_fixed (after (begun job) job.since) (begun job) (fixed_after (begun job) job.since) i),
        age_begun,
        deadline-begun,
      )

-- S10.10: between two accepted releases of a task there are at least D ticks.
pub releases_apart : (ts : TaskSet) (shares : List Share) → Planned ts shares → (calls : List Call) → ReleasesApart ts shares calls
unfolding ReleasesApart
releases_apart ts shares planned calls i job a = apart ts shares planned i job a
