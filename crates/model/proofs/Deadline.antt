-- S10.7, deadline: a high job under its overload budget ends within D accepted ticks. While it is alive, at most V of
-- the ticks behind it were full ones in typical mode: in typical mode there are fewer than V in all, and in critical
-- mode no more of them come.
use Prim.Native.Nat.{ℕ, ◌≤◌, ◌<◌}
use mathlib.Core.Path.{◌≡◌, refl, sym, ap, ◌∙◌, subst}
use mathlib.Core.Bool.{Bool, true, false, ◌||◌}
use mathlib.Core.List.{List}
use native.Mathlib.Omega.{arith}
use borrow.Author.Tests.{leb-false}
use lib.Dec.{T}
use Rattle.sheet.specs.declared.task.Budget.{Budget}
use Rattle.sheet.specs.declared.task.TaskSet.{TaskSet}
use Rattle.shares.specs.declared.share.Share.{Share}
use Rattle.shares.specs.Low.{is_kept}
use Rattle.shares.specs.Test.{passes}
use Rattle.shares.proofs.Ends.{overload_ends, virtual_positive, virtual_within}
use Rattle.model.specs.Row.{Fixed, Row, has_high_job, is_late, survives}
use Rattle.model.specs.Step.{Call, row_at}
use Rattle.model.specs.Run.{after, ticks_in, releases_in, TrueReports}
use Rattle.sheet.specs.Format.{task_in}
use Rattle.shares.specs.Totals.{share_at}
use Rattle.sheet.specs.Level.{is_high}
use Rattle.model.specs.Plan.{fresh_row, fresh, Planned}
use Rattle.model.specs.Claim.{ReleaseIn, begun, KeepsBudget, EndInTime, Deadline}
use Rattle.model.proofs.Job.{Over}
use Rattle.model.proofs.Released.{planned_fixed, high_fixed, known_task, over_ended}
use Rattle.model.proofs.Apart.{alone_since, ticks_since}
use Rattle.model.proofs.Ending.{Moment, Ticked, Invariant, AtRelease, over_by_deadline}
use Rattle.model.proofs.Closing.{Closes, Bounded, closing}

-- S8.6: the job of a high task survives a switch.
pub high_survives : (f : Fixed) → is_high f.level ≡ true → survives f ≡ true
unfolding survives
high_survives f high = ap (λ (t : Bool). t || is_kept f.level f.share) high

not_late : (r : Row) → is_high r.fixed.level ≡ true → r.job.alive ≡ true → is_late r ≡ false → r.age < r.fixed.virtual_deadline
unfolding is_late has_high_job
not_late r high alive e =
    let not_past = rw (high, alive) at e in omega (arith, leb-false)

-- Behind the job are at most V full ticks in typical mode, and in typical mode fewer than V in all.
record Timely (len : ℕ → ℕ) (work span i : ℕ) (f : Fixed) (now : Moment len work span i f) : Type 0 where
  pub early : now.live.full₁ ≤ f.virtual_deadline
  pub calm : now.model.critical ≡ false → now.ticks < f.virtual_deadline

-- V bounds the full ticks in typical mode of a high task's job, where it is at most D.
module _ (len : ℕ → ℕ) (work span i : ℕ) (f : Fixed) (high : is_high f.level ≡ true) (within : f.virtual_deadline ≤ f.deadline) where
  timely_tick : (now later : Moment len work span i f) (x : Call) → Timely len work span i f now →
      Ticked len work span i f now later x → Timely len work span i f later
  timely_tick now later x t on = record { early = early now.model.critical refl; calm = calm }
    where
      early : (b : Bool) → now.model.critical ≡ b → later.live.full₁ ≤ f.virtual_deadline
      early true e = omega (arith, on.full.in_critical e, t.early)
      early false e = omega (arith, on.full.most, t.calm e, now.live.ticks)

      calm : later.model.critical ≡ false → later.ticks < f.virtual_deadline
      calm e =
          omega (
            arith,
            not_late (row_at later.model i) (ap (λ (g : Fixed). is_high g.level) later.fixed ∙ high) later.live.alive (on.calm e),
            later.live.age,
            ap (λ (g : Fixed). g.virtual_deadline) later.fixed,
            ap (λ (g : Fixed). g.deadline) later.fixed,
            within,
          )

  timely : Bounded len work span i f f.virtual_deadline (λ now calls. Timely len work span i f now)
  timely =
      record {
        few = λ now calls t. t.early;
        on_rest = λ now later x calls t r.
            record {
              early = omega (arith, r.full₁, t.early);
              calm = λ e. omega (arith, r.ticks, t.calm (sym r.mode ∙ e));
            };
        on_tick = λ now later x calls t on. timely_tick now later x t on;
      }

module _ (ts : TaskSet) (shares : List Share) (planned : Planned ts shares) (i : ℕ) (known : i < ts.count)
    (level : is_high (task_in ts i).level ≡ true) where
  high_is : is_high (planned_fixed ts shares i).level ≡ true
  high_is = (high_fixed ts shares i level).0

  passing : T (passes (task_in ts i).figures (share_at shares i).typical (share_at shares i).critical)
  passing = subst T (sym (planned.high i known level).passing) tt

  virtual_in : (planned_fixed ts shares i).virtual_deadline ≤ (planned_fixed ts shares i).deadline
  unfolding fresh_row
  virtual_in =
      let pair = planned.high i known level in
      rw (high_fixed ts shares i level).1
      (virtual_within (task_in ts i).figures (share_at shares i).typical (share_at shares i).critical pair.positive pair.ordered
      (planned.lawful i known).figures.spans passing)

  virtual_some : 0 < (planned_fixed ts shares i).virtual_deadline
  virtual_some =
      rw (high_fixed ts shares i level).1
      (virtual_positive (task_in ts i).figures (share_at shares i).typical (planned.lawful i known).figures.span)

  -- With a passing pair, V closes the overload budget.
  closes : Closes (task_in ts i).figures.overload.work (task_in ts i).figures.overload.span
      (planned_fixed ts shares i).virtual_deadline (planned_fixed ts shares i)
  unfolding fresh_row
  closes f₁ f₂ p early span work =
      let pair = planned.high i known level in
      overload_ends (task_in ts i).figures (share_at shares i).typical (share_at shares i).critical f₁ f₂ p
      pair.positive pair.ordered (planned.lawful i known).figures.spans passing
      (rw (high_fixed ts shares i level).1 at early) span work

module _ (ts : TaskSet) (shares : List Share) (planned : Planned ts shares) (calls : List Call) (i : ℕ)
    (job : ReleaseIn (fresh ts shares) i calls) (lengths : ℕ → ℕ) (level : is_high (task_in ts i).level ≡ true) where
  abbrev b : Budget
  b = (task_in ts i).figures.overload

  invariant : i < ts.count →
      Invariant lengths b.work b.span i (planned_fixed ts shares i)
      (λ now calls. Timely lengths b.work b.span i (planned_fixed ts shares i) now)
  invariant known =
      closing lengths b.work b.span i (planned_fixed ts shares i)
      (high_survives (planned_fixed ts shares i) (high_is ts shares planned i known level))
      (timely lengths b.work b.span i (planned_fixed ts shares i) (high_is ts shares planned i known level)
      (virtual_in ts shares planned i known level))
      (closes ts shares planned i known level)

  at_release : i < ts.count → (now : Moment lengths b.work b.span i (planned_fixed ts shares i)) →
      AtRelease ts shares planned calls i job lengths b.work b.span now →
      Timely lengths b.work b.span i (planned_fixed ts shares i) now
  at_release known now start =
      record {
        early = omega (arith, start.full₁);
        calm = λ _. omega (arith, start.ticks, virtual_some ts shares planned i known level);
      }

  -- A high job with D ticks behind it is over, if its task was not released again.
  pub high_over : KeepsBudget (task_in ts i) b lengths → TrueReports i lengths (begun job) job.since →
      releases_in i (begun job) job.since ≡ 0 → (task_in ts i).figures.deadline ≤ ticks_in (begun job) job.since →
      Over (row_at (after (fresh ts shares) calls) i)
  high_over keeps reports none enough =
      over_by_deadline ts shares planned calls i job lengths b
      {Good = λ now calls. Timely lengths b.work b.span i (planned_fixed ts shares i) now} invariant at_release keeps reports
      none enough

-- S10.7.
pub deadline : (ts : TaskSet) (shares : List Share) → Planned ts shares → (calls : List Call) → Deadline ts shares calls
unfolding Deadline EndInTime
deadline ts shares planned calls i job lengths level keeps reports passed =
    over_ended ts shares planned calls i (known_task ts shares planned job.before i job.accepted)
    (high_over ts shares planned calls i job lengths level keeps reports (alone_since ts shares planned i job passed)
    (ticks_since ts shares planned i job passed))
