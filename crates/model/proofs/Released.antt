-- A job at its release in a list of calls from the fresh model: its task is known, its row is that of the plan, and it
-- is live.
use Prim.Native.Nat.{ℕ, ◌<◌}
use mathlib.Core.Path.{◌≡◌, sym, ap, subst, ◌∙◌}
use mathlib.Core.Bool.{Bool, true, cond, not}
use mathlib.Core.List.{List, [], ◌∷◌, ◌++◌}
use Rattle.sheet.specs.declared.task.Budget.{Budget}
use Rattle.sheet.specs.declared.task.TaskSet.{TaskSet}
use Rattle.shares.specs.declared.share.Share.{Share}
use Rattle.shares.specs.Test.{virtual_deadline}
use Rattle.sheet.specs.Level.{is_low, is_high}
use Rattle.shares.specs.Deadline.{virtual_deadline_of}
use Rattle.model.specs.Budget.{Keeps}
use Rattle.model.specs.Row.{Fixed, Row, precedes, all_ended}
use Rattle.model.specs.Step.{Model, Call, release, row_at}
use Rattle.model.specs.Run.{after, is_accepted}
use Rattle.sheet.specs.Format.{task_in}
use Rattle.shares.specs.Totals.{share_at}
use Rattle.model.specs.Plan.{fresh_row, fresh, Planned}
use Rattle.model.specs.Claim.{ReleaseIn, begun, KeepsBudget, Ended}
use Rattle.model.proofs.Steps.{next, after-append, release_at}
use Rattle.model.proofs.Fresh.{rows_after, fixed_at, kept_sound}
use Rattle.model.proofs.Job.{Downwards, Live, Over, begun_live}

-- A Release of the rest of a list is one of the list.
unfoldable pub later_release : (m : Model) (x : Call) (calls : List Call) (i : ℕ) → ReleaseIn (next m x) i calls → ReleaseIn m i (x ∷ calls)
later_release m x calls i job =
    record {
      before = x ∷ job.before;
      since = job.since;
      list = ap (λ (l : List Call). x ∷ l) job.list;
      accepted = job.accepted;
    }

-- So is a Release with which the list begins.
unfoldable pub first_release : (m : Model) (x : Call) (calls : List Call) (i : ℕ) → x ≡ release i → is_accepted m x ≡ true → ReleaseIn m i (x ∷ calls)
first_release m x calls i e a =
    record { before = []; since = calls; list = ap (λ (y : Call). y ∷ calls) e; accepted = ap (is_accepted m) (sym e) ∙ a }

-- What the plan fixes of task i.
abbrev pub planned_fixed : TaskSet → List Share → ℕ → Fixed
planned_fixed ts shares i = (fresh_row (task_in ts i) (share_at shares i)).fixed

-- A high task's row says so, and has the virtual deadline of its typical share.
pub high_fixed : (ts : TaskSet) (shares : List Share) (i : ℕ) → is_high (task_in ts i).level ≡ true →
    (is_high (planned_fixed ts shares i).level ≡ true)
    × ((planned_fixed ts shares i).virtual_deadline ≡ virtual_deadline (task_in ts i).figures (share_at shares i).typical)
unfolding fresh_row virtual_deadline_of is_low
high_fixed ts shares i e = (e, ap (λ (high : Bool). cond (not high) 0 (virtual_deadline (task_in ts i).figures (share_at shares i).typical)) e)

module _ (ts : TaskSet) (shares : List Share) (planned : Planned ts shares) where
  downwards_at : (i : ℕ) → i < ts.count → Downwards (planned_fixed ts shares i)
  unfolding fresh_row
  downwards_at i h = (planned.lawful i h).masks

  keeps_at : (i : ℕ) (b : Budget) (lengths : ℕ → ℕ) → KeepsBudget (task_in ts i) b lengths →
      Keeps (planned_fixed ts shares i).nodes (precedes (planned_fixed ts shares i).predecessors) b.work b.span lengths
  unfolding fresh_row KeepsBudget
  keeps_at i b lengths keeps = keeps

  pub known_task : (before : List Call) (i : ℕ) → is_accepted (after (fresh ts shares) before) (release i) ≡ true → i < ts.count
  known_task before i a = rw (rows_after ts shares planned before) at (release_at (after (fresh ts shares) before) i a).known

  -- The job at its release.
  pub live_at_release : (before : List Call) (i : ℕ) (b : Budget) (lengths : ℕ → ℕ) →
      is_accepted (after (fresh ts shares) before) (release i) ≡ true → KeepsBudget (task_in ts i) b lengths →
      Live lengths b.work b.span (row_at (next (after (fresh ts shares) before) (release i)) i) (λ _. 0) 0
  live_at_release before i b lengths a keeps =
      subst (λ (r : Row). Live lengths b.work b.span r (λ _. 0) 0)
      (sym (release_at m i a).row)
      (begun_live (row_at m i) (kept_sound ts shares planned before i known)
      (subst Downwards (sym fixed) (downwards_at i known))
      (subst (λ (f : Fixed). Keeps f.nodes (precedes f.predecessors) b.work b.span lengths) (sym fixed)
      (keeps_at i b lengths keeps)))
    where
      m : Model
      m = after (fresh ts shares) before

      known : i < ts.count
      known = known_task before i a

      fixed : (row_at m i).fixed ≡ planned_fixed ts shares i
      fixed = fixed_at ts shares planned before i known

  -- A job in the list: the list goes on from its release.
  pub since_release : {calls : List Call} (i : ℕ) (job : ReleaseIn (fresh ts shares) i calls) →
      after (fresh ts shares) calls ≡ after (begun job) job.since
  unfolding begun
  since_release i job =
      ap (after (fresh ts shares)) job.list ∙ after-append (fresh ts shares) job.before (release i ∷ job.since)

  -- The fixed part of a task just after a release.
  pub fixed_begun : (before : List Call) (i j : ℕ) → j < ts.count →
      (row_at (next (after (fresh ts shares) before) (release i)) j).fixed ≡ planned_fixed ts shares j
  fixed_begun before i j h =
      ap (λ (m : Model). (row_at m j).fixed) (sym (after-append (fresh ts shares) before (release i ∷ [])))
      ∙ fixed_at ts shares planned (before ++ release i ∷ []) j h

  -- A job that is over has ended, as the claim says it.
  pub over_ended : (calls : List Call) (i : ℕ) → i < ts.count → Over (row_at (after (fresh ts shares) calls) i) →
      Ended (task_in ts i) (row_at (after (fresh ts shares) calls) i)
  unfolding fresh_row
  over_ended calls i h o =
      record {
        nodes = ap (λ (f : Fixed). all_ended f.nodes (row_at (after (fresh ts shares) calls) i).job.ended)
            (sym (fixed_at ts shares planned calls i h)) ∙ o.nodes;
        gone = o.gone;
      }
