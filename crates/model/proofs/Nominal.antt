-- S10.9, nominal: while every high job keeps its nominal budget under true reports, an alive one has fewer than V ticks
-- behind it, so that no tick switches. By induction on the calls, with what is known of each alive high job and of each
-- Release to come.
use Prim.Native.Nat.{ℕ, suc, ◌+◌, ◌≤◌, ◌<◌}
use mathlib.Core.Path.{◌≡◌, refl, sym, ap, ap₂, subst, ◌∙◌}
use mathlib.Core.Bool.{Bool, true, false, cond, not, ◌||◌, true≢false, and-eq-true_iff}
use mathlib.Core.List.{List, [], ◌∷◌}
use Rattle.std.specs.Prelude.{Option, Some, None}
use native.Mathlib.Omega.{arith}
use borrow.Author.Tests.{leb-true}
use lib.ListN.{length, get_or}
use Rattle.sheet.specs.declared.task.Budget.{Budget}
use Rattle.sheet.specs.declared.task.TaskSet.{TaskSet}
use Rattle.shares.specs.declared.share.Share.{Share}
use Rattle.shares.proofs.Ends.{nominal_ends}
use Rattle.model.specs.Row.{Fixed, Row, all_ended, joined, ticked_row, has_high_job, is_late}
use Rattle.model.specs.Step.{Model, Call, release, tick, Step, step, step_by, refusal_of, row_at, no_row, released, ticked_rows, lowest_late, switched_to, turning, ticked}
use Rattle.std.specs.Prelude.{Result, Ok, Err, ⊤, is_ok}
use Rattle.sheet.specs.declared.refusal.Refusal.{Refusal}
use Rattle.model.specs.Run.{is_accepted, is_tick, is_release_of}
use Rattle.sheet.specs.Format.{task_in}
use Rattle.shares.specs.Totals.{share_at}
use Rattle.sheet.specs.Level.{is_high}
use Rattle.model.specs.Plan.{fresh_row, fresh, Planned}
use Rattle.model.specs.Claim.{ReleaseIn, begun, KeepsBudget, JobWithin, HighJobsWithin, is_switched, is_returned, StaysTypical, Nominal}
use Rattle.model.proofs.Steps.{next, accepted_step_lem, refused_step, length-ticked, get_ticked, tick_tests, tick_at, Turn, same, begins, ticks, turn}
use Rattle.model.proofs.Lasting.{fixed_step, same_fixed, length-step}
use Rattle.model.proofs.Fresh.{fresh-length, fresh_row_lem}
use Rattle.model.proofs.Released.{later_release, first_release, planned_fixed, high_fixed, known_task, live_at_release, fixed_begun}
use Rattle.model.proofs.Job.{Live, AfterTick, goes_on, ends, TypicalBelow, typical_below}
use Rattle.model.proofs.Course.{TrueFrom, true_from_start, ran_after, true_from_next, Moved, rests, works, dropped, ended, part_step, live_step, dead_step}

-- While a job that keeps the budget is alive in typical mode, fewer than V ticks have passed.
abbrev Before : ℕ → ℕ → Fixed → Type 0
Before work span f = TypicalBelow work span f f.virtual_deadline

-- An alive job of task i that keeps such a budget, with true reports over the calls to come.
record Honest (i : ℕ) (m : Model) (calls : List Call) : Type 0 where
  pub len : ℕ → ℕ
  pub work : ℕ
  pub span : ℕ
  pub counts : ℕ → ℕ
  pub passed : ℕ
  pub live : Live len work span (row_at m i) counts passed
  pub none : live.full₂ ≡ 0
  pub before : Before work span (row_at m i).fixed
  pub reports : TrueFrom i len counts m calls

-- The mode is typical; every alive high job is honest, and so is every one to come.
record Calm (m : Model) (calls : List Call) : Type 0 where
  pub typical : m.critical ≡ false
  pub alive : (i : ℕ) → i < length m.rows → is_high (row_at m i).fixed.level ≡ true → (row_at m i).job.alive ≡ true →
      Honest i m calls
  pub coming : (i : ℕ) (job : ReleaseIn m i calls) → is_high (row_at m i).fixed.level ≡ true → Honest i (begun job) job.since

none_late_intro : (j : ℕ) (rows : List Row) → ((i : ℕ) → i < length rows → is_late (get_or rows i no_row) ≡ false) →
    lowest_late j rows ≡ None
none_late_intro j [] h = refl
none_late_intro j (r ∷ rows) h =
    go (is_late r) _ _ (h 0 (omega arith)) (none_late_intro _ rows (λ i b. h (suc i) (omega arith)))
  where
    go : (t : Bool) (q : ℕ) (o : Option ℕ) → t ≡ false → o ≡ None → cond t (Some q) o ≡ None
    go t q o e n = ap (λ (b : Bool). cond b (Some q) o) e ∙ n

-- No job is late if it is below V, where it is an alive one of a high task.
below_not_late : (r : Row) → (is_high r.fixed.level ≡ true → r.job.alive ≡ true → r.age < r.fixed.virtual_deadline) → is_late r ≡ false
unfolding is_late has_high_job
below_not_late r below = go (is_late r) refl (is_high r.fixed.level) refl r.job.alive refl
  where
    go : (t : Bool) → is_late r ≡ t → (x : Bool) → is_high r.fixed.level ≡ x → (y : Bool) → r.job.alive ≡ y → t ≡ false
    go false late x high y alive = refl
    go true late true high true alive =
        let past = rw (high, alive) at late in absurd (omega (arith, leb-true, below high alive))
    go true late true high false alive = sym (rw (high, alive) at late)
    go true late false high y alive = sym (rw high at late)

-- After its part of a tick no honest job is late.
part_not_late : (m : Model) (reports : List ℕ) (calls : List Call) → Calm m (tick reports ∷ calls) →
    is_accepted m (tick reports) ≡ true →
    (i : ℕ) → i < length m.rows → is_late (ticked_row (row_at m i) (get_or reports i 0)) ≡ false
unfolding ticked_row
part_not_late m reports calls calm a i known = below_not_late part early
  where
    r : Row
    r = row_at m i

    part : Row
    part = ticked_row r (get_or reports i 0)

    early : is_high r.fixed.level ≡ true → part.job.alive ≡ true → part.age < r.fixed.virtual_deadline
    early high alive =
        settled (part_step i m honest.live reports calls a (tick_at m i reports a known) honest.reports)
      where
        honest : Honest i m (tick reports ∷ calls)
        honest = calm.alive i known high
            ((and-eq-true_iff r.job.alive (not (all_ended r.fixed.nodes (joined r (get_or reports i 0))))).0 alive).0

        settled : AfterTick honest.live m.critical (ticked_row r (get_or reports i 0)) (ran_after i m (tick reports) honest.counts) →
            part.age < r.fixed.virtual_deadline
        settled (goes_on l one) =
            omega (arith, typical_below l (one.in_typical calm.typical ∙ honest.none) honest.before, l.age)
        settled (ends o) = absurd (true≢false (sym alive ∙ o.gone))

-- A call that leaves the mode typical and answers neither that it switched nor that it returned.
record Quiet (m : Model) (x : Call) : Type 0 where
  pub typical : (next m x).critical ≡ false
  pub unswitched : is_switched (step m x).answer ≡ false
  pub unreturned : is_returned (step m x).answer ≡ false

quiet_tick : (m : Model) (reports : List ℕ) (calls : List Call) → Calm m (tick reports ∷ calls) →
    is_accepted m (tick reports) ≡ true → Quiet m (tick reports)
unfolding ticked row_at
quiet_tick m reports calls calm a =
    record {
      typical = ap (λ (s : Step). s.model.critical) e;
      unswitched = ap (λ (s : Step). is_switched s.answer) e;
      unreturned = ap (λ (s : Step). is_returned s.answer) e;
    }
  where
    rows : List Row
    rows = ticked_rows m.rows reports

    calm_at : (i : ℕ) → i < length rows → is_late (get_or rows i no_row) ≡ false
    calm_at i h =
        let known : i < length m.rows = rw (length-ticked m.rows reports) at h in
        ap is_late (get_ticked m.rows reports i (tick_tests m reports a).0 known)
        ∙ part_not_late m reports calls calm a i known

    e : step m (tick reports) ≡ switched_to rows None
    e =
        accepted_step_lem m (tick reports) a
        ∙ ap (λ (t : Bool). turning t rows) calm.typical
        ∙ ap (switched_to rows) (none_late_intro 0 rows calm_at)

quiet_refused : (m : Model) (x : Call) → m.critical ≡ false → is_accepted m x ≡ false → Quiet m x
unfolding is_accepted step
quiet_refused m x typical a =
    let answered = go (refusal_of m x) a in
    record {
      typical = ap (λ (n : Model). n.critical) (refused_step m x a) ∙ typical;
      unswitched = answered.0;
      unreturned = answered.1;
    }
  where
    go : (o : Result ⊤ Refusal) → is_ok o ≡ false →
        (is_switched (step_by o m x).answer ≡ false) × (is_returned (step_by o m x).answer ≡ false)
    go (Ok x) e = absurd (true≢false e)
    go (Err r) e = (refl, refl)

quiet_step : (m : Model) (x : Call) (calls : List Call) → Calm m (x ∷ calls) → Quiet m x
unfolding released
quiet_step m (tick reports) calls calm = go (is_accepted m (tick reports)) refl
  where
    go : (t : Bool) → is_accepted m (tick reports) ≡ t → Quiet m (tick reports)
    go true a = quiet_tick m reports calls calm a
    go false a = quiet_refused m (tick reports) calm.typical a
quiet_step m (release i) calls calm = go (is_accepted m (release i)) refl
  where
    go : (t : Bool) → is_accepted m (release i) ≡ t → Quiet m (release i)
    go true a =
        record {
          typical = ap (λ (s : Step). s.model.critical) (accepted_step_lem m (release i) a) ∙ calm.typical;
          unswitched = ap (λ (s : Step). is_switched s.answer) (accepted_step_lem m (release i) a);
          unreturned = ap (λ (s : Step). is_returned s.answer) (accepted_step_lem m (release i) a);
        }
    go false a = quiet_refused m (release i) calm.typical a

honest_next : (m : Model) (x : Call) (calls : List Call) (i : ℕ) → i < length m.rows → m.critical ≡ false →
    (next m x).critical ≡ false → is_release_of i m x ≡ false → (row_at (next m x) i).job.alive ≡ true → Honest i m (x ∷ calls) → Honest i (next m x) calls
honest_next m x calls i known before-typical typical no-release alive h =
    go (live_step i m h.live x calls known no-release h.reports)
  where
    before : Before h.work h.span (row_at (next m x) i).fixed
    before = subst (Before h.work h.span) (sym (same_fixed (next m x) m (fixed_step m x) i)) h.before

    carry : (n : ℕ) (l : Live h.len h.work h.span (row_at (next m x) i) (ran_after i m x h.counts) n) →
        l.full₂ ≡ 0 → Honest i (next m x) calls
    carry n l typical₂ =
        record {
          len = h.len;
          work = h.work;
          span = h.span;
          counts = ran_after i m x h.counts;
          passed = n;
          live = l;
          none = typical₂;
          before = before;
          reports = true_from_next i h.len h.counts m x calls no-release h.reports;
        }

    go : Moved h.live m.critical (is_tick m x) (row_at (next m x) i) (next m x).critical (ran_after i m x h.counts) →
        Honest i (next m x) calls
    go (rests w mode row counts l same₁ same₂) = carry h.passed l (same₂ ∙ h.none)
    go (works w l one calm) = carry (h.passed + 1) l (one.in_typical before-typical ∙ h.none)
    go (dropped w lost critical part fixed l one) = absurd (true≢false (sym critical ∙ typical))
    go (ended o) = absurd (true≢false (sym alive ∙ o.gone))

calm_next : (m : Model) (x : Call) (calls : List Call) → Calm m (x ∷ calls) → Calm (next m x) calls
unfolding begun later_release first_release
calm_next m x calls calm =
    record {
      typical = (quiet_step m x calls calm).typical;
      alive = λ i known high alive. at i (rw (length-step m x) at known) (rw (fixed i) at high) alive;
      coming = λ i job high. calm.coming i (later_release m x calls i job) (rw (fixed i) at high);
    }
  where
    fixed : (i : ℕ) → (row_at (next m x) i).fixed ≡ (row_at m i).fixed
    fixed i = same_fixed (next m x) m (fixed_step m x) i

    at : (i : ℕ) → i < length m.rows → is_high (row_at m i).fixed.level ≡ true → (row_at (next m x) i).job.alive ≡ true →
        Honest i (next m x) calls
    at i known high alive = go (turn m i x known)
      where
        goes : is_release_of i m x ≡ false → Honest i (next m x) calls
        goes no-release = was (row_at m i).job.alive refl
          where
            was : (t : Bool) → (row_at m i).job.alive ≡ t → Honest i (next m x) calls
            was true e = honest_next m x calls i known calm.typical (quiet_step m x calls calm).typical no-release alive (calm.alive i known high e)
            was false e = absurd (true≢false (sym alive ∙ dead_step m x i known no-release e))

        go : Turn m i x → Honest i (next m x) calls
        go (same t r mode e) = goes r
        go (begins e a at) =
            subst (λ (y : Call). Honest i (next m y) calls) (sym e)
            (calm.coming i (first_release m x calls i e a) high)
        go (ticks reports e a at) = goes (ap (is_release_of i m) e)

calm_stays : (m : Model) (calls : List Call) → Calm m calls → StaysTypical m calls
calm_stays m [] calm = record { typical = calm.typical; unswitched = refl; unreturned = refl }
calm_stays m (x ∷ calls) calm =
    let rest = calm_stays (next m x) calls (calm_next m x calls calm) in
    let quiet = quiet_step m x calls calm in
    record {
      typical = rest.typical;
      unswitched = ap₂ ◌||◌ quiet.unswitched rest.unswitched;
      unreturned = ap₂ ◌||◌ quiet.unreturned rest.unreturned;
    }

module _ (ts : TaskSet) (shares : List Share) (planned : Planned ts shares) where
  before_high : (i : ℕ) → i < ts.count → is_high (task_in ts i).level ≡ true → (b : Budget) →
      b.span ≤ (task_in ts i).figures.nominal.span → b.work ≤ (task_in ts i).figures.nominal.work →
      Before b.work b.span (planned_fixed ts shares i)
  unfolding fresh_row
  before_high i h level b less-span less-work full p span work =
      rw (high_fixed ts shares i level).1
      (nominal_ends (task_in ts i).figures (share_at shares i).typical full p (planned.high i h level).positive
      (omega arith) (omega arith))

  level_high : (i : ℕ) → i < ts.count → is_high (row_at (fresh ts shares) i).fixed.level ≡ true → is_high (task_in ts i).level ≡ true
  unfolding fresh_row
  level_high i h high = sym (ap (λ (r : Row). is_high r.fixed.level) (fresh_row_lem ts shares planned i h)) ∙ high

  none_alive : (i : ℕ) → i < ts.count → (row_at (fresh ts shares) i).job.alive ≡ false
  unfolding fresh_row
  none_alive i h = ap (λ (r : Row). r.job.alive) (fresh_row_lem ts shares planned i h)

  -- S10.9.
  pub nominal : (calls : List Call) → Nominal ts shares calls
  unfolding Nominal HighJobsWithin fresh begun
  nominal calls honest =
      calm_stays (fresh ts shares) calls
      (record {
        typical = refl;
        alive = λ i known high alive.
            absurd (true≢false (sym alive ∙ none_alive i (rw (fresh-length ts shares planned) at known)));
        coming = coming;
      })
    where
      coming : (i : ℕ) (job : ReleaseIn (fresh ts shares) i calls) → is_high (row_at (fresh ts shares) i).fixed.level ≡ true →
          Honest i (begun job) job.since
      coming i job high = within _ own.keeps (omega arith) (omega arith)
        where
          known : i < ts.count
          known = known_task ts shares planned job.before i job.accepted

          level : is_high (task_in ts i).level ≡ true
          level = level_high i known high

          own : JobWithin (task_in ts i) (task_in ts i).figures.nominal i (begun job) job.since
          own = honest i job level

          -- The job's budget is within the nominal one.
          within : (b : Budget) → KeepsBudget (task_in ts i) b own.lengths → b.span ≤ (task_in ts i).figures.nominal.span →
              b.work ≤ (task_in ts i).figures.nominal.work → Honest i (begun job) job.since
          within b keeps less-span less-work =
              let live : Live own.lengths b.work b.span (row_at (begun job) i) (λ _. 0) 0 =
              live_at_release ts shares planned job.before i b own.lengths job.accepted keeps in
              record {
                len = own.lengths;
                work = b.work;
                span = b.span;
                counts = λ _. 0;
                passed = 0;
                live = live;
                none = omega (arith, live.ticks);
                before =
                    subst (Before b.work b.span) (sym (fixed_begun ts shares planned job.before i i known))
                    (before_high i known level b less-span less-work);
                reports = true_from_start i own.lengths (begun job) job.since own.reports;
              }
