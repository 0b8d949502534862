-- A job over a list of calls is over once D accepted ticks have passed, if something holds at its start that every call
-- keeps, that allows an alive job fewer than D ticks, and under which no switch drops it. By induction on the calls.
use Prim.Native.Nat.{ℕ, ◌+◌, ◌≤◌, ◌<◌}
use mathlib.Core.Path.{◌≡◌, refl, sym, ap, subst, ◌∙◌}
use mathlib.Core.Bool.{Bool, true, false, cond}
use mathlib.Core.List.{List, [], ◌∷◌}
use native.Mathlib.Omega.{arith}
use lib.ListN.{length}
use Rattle.sheet.specs.declared.task.Budget.{Budget}
use Rattle.sheet.specs.declared.task.TaskSet.{TaskSet}
use Rattle.shares.specs.declared.share.Share.{Share}
use Rattle.model.specs.Row.{Fixed, Row, is_late, survives}
use Rattle.model.specs.Step.{Model, Call, release, row_at}
use Rattle.model.specs.Run.{after, is_tick, is_release_of, ticks_in, releases_in, TrueReports}
use Rattle.sheet.specs.Format.{task_in}
use Rattle.model.specs.Plan.{fresh_row, fresh, Planned}
use Rattle.model.specs.Claim.{ReleaseIn, begun, KeepsBudget, Ended, DeadlinePassed}
use Rattle.model.proofs.Steps.{next, count_zero}
use Rattle.model.proofs.Lasting.{fixed_step, same_fixed, length-step}
use Rattle.model.proofs.Fresh.{rows_after}
use Rattle.model.proofs.Job.{Live, Over, OneMore}
use Rattle.model.proofs.Released.{planned_fixed, known_task, live_at_release, since_release, fixed_begun, over_ended}
use Rattle.model.proofs.Apart.{alone_since, ticks_since}
use Rattle.model.proofs.Course.{TrueFrom, true_from_start, ran_after, true_from_next, over_after, Moved, rests, works, dropped, ended, live_step}

module _ (len : ℕ → ℕ) (work span i : ℕ) (f : Fixed) where
  -- A moment of an alive job of task i, of which f is fixed.
  pub record Moment : Type 0 where
    pub model : Model
    pub counts : ℕ → ℕ
    pub ticks : ℕ
    pub live : Live len work span (row_at model i) counts ticks
    pub fixed : (row_at model i).fixed ≡ f

  -- The moment after a call that is no accepted tick: nothing has happened to the job.
  pub record Rested (now later : Moment) (x : Call) : Type 0 where
    pub call : later.model ≡ next now.model x
    pub idle : is_tick now.model x ≡ false
    pub mode : later.model.critical ≡ now.model.critical
    pub row : row_at later.model i ≡ row_at now.model i
    pub counts : later.counts ≡ now.counts
    pub ticks : later.ticks ≡ now.ticks
    pub full₁ : later.live.full₁ ≡ now.live.full₁
    pub full₂ : later.live.full₂ ≡ now.live.full₂

  -- The moment after an accepted tick that leaves the job alive. Where the mode is then typical, the job is not late.
  pub record Ticked (now later : Moment) (x : Call) : Type 0 where
    pub call : later.model ≡ next now.model x
    pub accepted : is_tick now.model x ≡ true
    pub ticks : later.ticks ≡ now.ticks + 1
    pub full : OneMore now.model.critical now.live.full₁ now.live.full₂ later.live.full₁ later.live.full₂
    pub calm : later.model.critical ≡ false → is_late (row_at later.model i) ≡ false

  -- An accepted tick by which the job is lost to a switch: before the switch it was alive, with one more tick behind
  -- it.
  pub record Dropped (now : Moment) (x : Call) : Type 0 where
    pub accepted : is_tick now.model x ≡ true
    pub lost : survives f ≡ false
    pub switched : (next now.model x).critical ≡ true
    pub row : Row
    pub fixed : row.fixed ≡ f
    pub counts : ℕ → ℕ
    pub live : Live len work span row counts (now.ticks + 1)
    pub full : OneMore now.model.critical now.live.full₁ now.live.full₂ live.full₁ live.full₂

  -- What is asked of an invariant: something that holds of a moment and the calls to come.
  pub record Invariant (Good : Moment → List Call → Type 0) : Type 1 where
    pub in_time : (now : Moment) (calls : List Call) → Good now calls → now.ticks < f.deadline
    pub on_rest : (now later : Moment) (x : Call) (calls : List Call) → Good now (x ∷ calls) → Rested now later x → Good later calls
    pub on_tick : (now later : Moment) (x : Call) (calls : List Call) → Good now (x ∷ calls) → Ticked now later x → Good later calls
    pub undropped : (now : Moment) (x : Call) (calls : List Call) → Good now (x ∷ calls) → Dropped now x → ⊥

module _ {len : ℕ → ℕ} {work span i : ℕ} {f : Fixed} {Good : Moment len work span i f → List Call → Type 0}
    (invariant : Invariant len work span i f Good) where
  pub run_out : (calls : List Call) (now : Moment len work span i f) → i < length now.model.rows → Good now calls →
      TrueFrom i len now.counts now.model calls → releases_in i now.model calls ≡ 0 →
      f.deadline ≤ now.ticks + ticks_in now.model calls →
      Over (row_at (after now.model calls) i)
  run_out [] now known good h none enough = absurd (omega (arith, invariant.in_time now [] good))
  run_out (x ∷ calls) now known good h none enough =
      go (live_step i m now.live x calls known z.0 h)
      (λ n l g.
      run_out calls (record { model = next m x; counts = ran_after i m x c; ticks = n; live = l; fixed = fixed }) known' g
      (true_from_next i len c m x calls z.0 h) z.1)
    where
      m : Model
      m = now.model

      c : ℕ → ℕ
      c = now.counts

      z : (is_release_of i m x ≡ false) × (releases_in i (next m x) calls ≡ 0)
      z = count_zero (is_release_of i m x) (releases_in i (next m x) calls) none

      known' : i < length (next m x).rows
      known' = rw (length-step m x) known

      fixed : (row_at (next m x) i).fixed ≡ f
      fixed = same_fixed (next m x) m (fixed_step m x) i ∙ now.fixed

      -- The job at the next moment.
      later : (n : ℕ) → Live len work span (row_at (next m x) i) (ran_after i m x c) n → Moment len work span i f
      later n l = record { model = next m x; counts = ran_after i m x c; ticks = n; live = l; fixed = fixed }

      go : Moved now.live m.critical (is_tick m x) (row_at (next m x) i) (next m x).critical (ran_after i m x c) →
          ((n : ℕ) (l : Live len work span (row_at (next m x) i) (ran_after i m x c) n) → Good (later n l) calls →
          f.deadline ≤ n + ticks_in (next m x) calls → Over (row_at (after (next m x) calls) i)) →
          Over (row_at (after (next m x) calls) i)
      go (rests w mode row counts l same₁ same₂) then =
          then now.ticks l
          (invariant.on_rest now (later now.ticks l) x calls good
          (record { call = refl; idle = w; mode = mode; row = row; counts = counts; ticks = refl; full₁ = same₁; full₂ = same₂ }))
          (omega (arith, enough, ap {B = ℕ} (λ (b : Bool). cond b 1 0) w))
      go (works w l one calm) then =
          then (now.ticks + 1) l
          (invariant.on_tick now (later (now.ticks + 1) l) x calls good
          (record { call = refl; accepted = w; ticks = refl; full = one; calm = calm }))
          (omega (arith, enough, ap {B = ℕ} (λ (b : Bool). cond b 1 0) w))
      go (dropped w lost critical part same l one) then =
          absurd (invariant.undropped now x calls good
          (record {
            accepted = w;
            lost = ap survives (sym now.fixed) ∙ lost;
            switched = critical;
            row = part;
            fixed = same ∙ now.fixed;
            counts = ran_after i m x c;
            live = l;
            full = one;
          }))
      go (ended o) then = over_after (next m x) calls i known' z.1 o

-- The same for a job in a list of calls from the fresh model.
module _ (ts : TaskSet) (shares : List Share) (planned : Planned ts shares) (calls : List Call) (i : ℕ)
    (job : ReleaseIn (fresh ts shares) i calls) where
  known : i < ts.count
  known = known_task ts shares planned job.before i job.accepted

  -- At its release.
  pub record AtRelease (len : ℕ → ℕ) (work span : ℕ) (now : Moment len work span i (planned_fixed ts shares i)) : Type 0 where
    pub model : now.model ≡ begun job
    pub ticks : now.ticks ≡ 0
    pub full₁ : now.live.full₁ ≡ 0
    pub full₂ : now.live.full₂ ≡ 0

  pub over_by_deadline : (lengths : ℕ → ℕ) (b : Budget)
      {Good : Moment lengths b.work b.span i (planned_fixed ts shares i) → List Call → Type 0} →
      (i < ts.count → Invariant lengths b.work b.span i (planned_fixed ts shares i) Good) →
      (i < ts.count → (now : Moment lengths b.work b.span i (planned_fixed ts shares i)) →
      AtRelease lengths b.work b.span now → Good now job.since) →
      KeepsBudget (task_in ts i) b lengths → TrueReports i lengths (begun job) job.since →
      releases_in i (begun job) job.since ≡ 0 → (task_in ts i).figures.deadline ≤ ticks_in (begun job) job.since →
      Over (row_at (after (fresh ts shares) calls) i)
  unfolding begun fresh_row
  over_by_deadline lengths b invariant good keeps reports none enough =
      subst (λ (m : Model). Over (row_at m i)) (sym (since_release ts shares planned i job))
      (run_out (invariant known) job.since start
      (rw (length-step (after (fresh ts shares) job.before) (release i), rows_after ts shares planned job.before) known)
      (good known start
      (record { model = refl; ticks = refl; full₁ = omega (arith, live.ticks); full₂ = omega (arith, live.ticks) }))
      (true_from_start i lengths (begun job) job.since reports) none (omega (arith, enough)))
    where
      live : Live lengths b.work b.span (row_at (begun job) i) (λ _. 0) 0
      live = live_at_release ts shares planned job.before i b lengths job.accepted keeps

      start : Moment lengths b.work b.span i (planned_fixed ts shares i)
      start =
          record {
            model = begun job;
            counts = λ _. 0;
            ticks = 0;
            live = live;
            fixed = fixed_begun ts shares planned job.before i i known;
          }

  pub ended_by_deadline : (lengths : ℕ → ℕ) (b : Budget)
      {Good : Moment lengths b.work b.span i (planned_fixed ts shares i) → List Call → Type 0} →
      (i < ts.count → Invariant lengths b.work b.span i (planned_fixed ts shares i) Good) →
      (i < ts.count → (now : Moment lengths b.work b.span i (planned_fixed ts shares i)) →
      AtRelease lengths b.work b.span now → Good now job.since) →
      KeepsBudget (task_in ts i) b lengths → TrueReports i lengths (begun job) job.since →
      DeadlinePassed (task_in ts i) i (begun job) job.since →
      Ended (task_in ts i) (row_at (after (fresh ts shares) calls) i)
  ended_by_deadline lengths b {Good} invariant good keeps reports passed =
      over_ended ts shares planned calls i known
      (over_by_deadline lengths b {Good = Good} invariant good keeps reports (alone_since ts shares planned i job passed)
      (ticks_since ts shares planned i job passed))
