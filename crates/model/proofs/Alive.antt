-- An alive high job that keeps its overload budget is younger than D: it began with the last Release of its task, and
-- with D ticks behind it it would be over. What is asked of the high jobs of a list holds of each beginning of it, so
-- that this speaks of every moment.
use Prim.Native.Nat.{ℕ, ◌≤◌, ◌<◌}
use mathlib.Core.Path.{◌≡◌, refl, sym, ap, subst, ◌∙◌}
use mathlib.Core.Bool.{true, false, true≢false, and-eq-true_iff}
use mathlib.Core.List.Memᴰ
use mathlib.Core.List.{List, [], ◌∷◌, ◌++◌, append_assoc, Memᴰ}
use native.Mathlib.Omega.{arith}
use native.Mathlib.Decide.{dec_lt}
use lib.ListN.{length, get_or, take, length-take}
use lib.Seq.{get_or-take}
use Rattle.std.proofs.lemmas.Bool.{true_from_ne_false}
use Rattle.basics.proofs.Members.{filter-has, get_or-has, greatest-has}
use Rattle.sheet.specs.declared.task.Budget.{Budget}
use Rattle.sheet.specs.declared.task.Task.{Task}
use Rattle.sheet.specs.declared.task.TaskSet.{TaskSet}
use Rattle.sheet.specs.Format.{missing_task, task_in}
use Rattle.sheet.specs.Level.{is_high}
use Rattle.shares.specs.declared.share.Share.{Share}
use Rattle.model.specs.Row.{Fixed, Row, has_high_job}
use Rattle.model.specs.Step.{Model, Call, release, tick, row_at}
use Rattle.model.specs.Run.{after, is_release_of, ticks_in, releases_in, TrueReports}
use Rattle.model.specs.Plan.{fresh_row, fresh, Planned}
use Rattle.model.specs.Claim.{ReleaseIn, begun, JobWithin, HighJobsWithin}
use Rattle.model.specs.Return.{longest_deadline}
use Rattle.model.proofs.Steps.{next, Turn, same, begins, ticks, turn, zero_count}
use Rattle.model.proofs.Lasting.{length-step}
use Rattle.model.proofs.Fresh.{fresh-length, fresh_row_lem, rows_after, fixed_at}
use Rattle.model.proofs.Released.{later_release, first_release, planned_fixed, since_release}
use Rattle.model.proofs.Apart.{age_after, age_begun, row_known}
use Rattle.model.proofs.Course.{dead_step}
use Rattle.model.proofs.Deadline.{high_over}

-- Where the alive job of task i after a list of calls began: before them, and none of the task is released in them; or
-- with a Release among them, behind which there is no other.
data Origin (m : Model) (i : ℕ) (calls : List Call) : Type 0 where
  old : (row_at m i).job.alive ≡ true → releases_in i m calls ≡ 0 → Origin m i calls
  young : (job : ReleaseIn m i calls) → releases_in i (begun job) job.since ≡ 0 → Origin m i calls

origin : (m : Model) (calls : List Call) (i : ℕ) → i < length m.rows → (row_at (after m calls) i).job.alive ≡ true → Origin m i calls
unfolding begun later_release first_release
origin m [] i known alive = old alive refl
origin m (x ∷ calls) i known alive = go (origin (next m x) calls i (rw (length-step m x) known) alive)
  where
    was : is_release_of i m x ≡ false → (row_at (next m x) i).job.alive ≡ true → (row_at m i).job.alive ≡ true
    was other now = true_from_ne_false _ (λ e. true≢false (sym now ∙ dead_step m x i known other e))

    here : (row_at (next m x) i).job.alive ≡ true → releases_in i (next m x) calls ≡ 0 → Turn m i x → Origin m i (x ∷ calls)
    here now last (same t r mode e) = old (was r now) (zero_count (is_release_of i m x) _ r last)
    here now last (begins e a at) =
        young (first_release m x calls i e a) (ap (λ (y : Call). releases_in i (next m y) calls) (sym e) ∙ last)
    here now last (ticks reports e a at) =
        let r : is_release_of i m x ≡ false = ap (is_release_of i m) e in
        old (was r now) (zero_count (is_release_of i m x) _ r last)

    go : Origin (next m x) i calls → Origin m i (x ∷ calls)
    go (old now last) = here now last (turn m i x known)
    go (young job last) = young (later_release m x calls i job) last

-- What is asked of the high jobs of a list is asked of those of each beginning of it.
pub within_prefix : (budget : Task → Budget) (ts : TaskSet) (start : Model) (calls front rest : List Call) → calls ≡ front ++ rest →
    HighJobsWithin budget ts start calls → HighJobsWithin budget ts start front
unfolding HighJobsWithin begun TrueReports
within_prefix budget ts start calls front rest e h i job high =
    let whole : ReleaseIn start i calls =
    record {
      before = job.before;
      since = job.since ++ rest;
      list = e ∙ ap (λ (l : List Call). l ++ rest) job.list ∙ append_assoc job.before (release i ∷ job.since) rest;
      accepted = job.accepted;
    } in
    let own : JobWithin (task_in ts i) (budget (task_in ts i)) i (begun whole) whole.since = h i whole high in
    record {
      lengths = own.lengths;
      keeps = own.keeps;
      reports = λ before reports later l z a v.
          own.reports before reports (later ++ rest)
          (ap (λ (c : List Call). c ++ rest) l ∙ append_assoc before (tick reports ∷ later) rest) z a v;
    }

-- Each alive high job is younger than its D, and no D of theirs is above the limit.
abbrev pub Young : ℕ → Model → Type 0
Young limit m =
    (i : ℕ) → i < length m.rows → has_high_job (row_at m i) ≡ true →
    ((row_at m i).age < (row_at m i).fixed.deadline) × ((row_at m i).fixed.deadline ≤ limit)

pub high_parts : (r : Row) → has_high_job r ≡ true → (is_high r.fixed.level ≡ true) × (r.job.alive ≡ true)
unfolding has_high_job
high_parts r e = (and-eq-true_iff (is_high r.fixed.level) r.job.alive).0 e

module _ (ts : TaskSet) (shares : List Share) (planned : Planned ts shares) where
  -- The longest deadline is that of each high task at least.
  longest_at : (i : ℕ) → i < ts.count → is_high (task_in ts i).level ≡ true → (task_in ts i).figures.deadline ≤ longest_deadline ts
  unfolding longest_deadline task_in
  longest_at i h high =
      greatest-has _ _
      (Memᴰ.map (λ t. t.figures.deadline)
      (filter-has (λ t. is_high t.level) tasks (get_or ts.tasks i missing_task) member high))
    where
      tasks : List Task
      tasks = take ts.count ts.tasks

      member : Memᴰ (get_or ts.tasks i missing_task) tasks
      member =
          subst (λ (t : Task). Memᴰ t tasks) (get_or-take ts.count ts.tasks i missing_task h)
          (get_or-has tasks i missing_task (omega (arith, length-take ts.count ts.tasks, planned.tasks)))

  -- With D ticks behind it a high job would be over.
  alive_young : (calls : List Call) → HighJobsWithin (λ t. t.figures.overload) ts (fresh ts shares) calls → (i : ℕ) → i < ts.count →
      is_high (task_in ts i).level ≡ true → (row_at (after (fresh ts shares) calls) i).job.alive ≡ true →
      (row_at (after (fresh ts shares) calls) i).age < (task_in ts i).figures.deadline
  unfolding HighJobsWithin fresh_row
  alive_young calls honest i known high alive = go (origin (fresh ts shares) calls i (rw (fresh-length ts shares planned) known) alive)
    where
      go : Origin (fresh ts shares) i calls → (row_at (after (fresh ts shares) calls) i).age < (task_in ts i).figures.deadline
      go (old was last) = absurd (true≢false (sym was ∙ ap (λ (r : Row). r.job.alive) (fresh_row_lem ts shares planned i known)))
      go (young job last) =
          in_time (dec_lt (row_at (after (fresh ts shares) calls) i).age (task_in ts i).figures.deadline)
        where
          aged : (row_at (after (fresh ts shares) calls) i).age ≤ ticks_in (begun job) job.since
          aged =
              omega (
                arith,
                age_after (begun job) job.since i (row_known ts shares planned i job),
                age_begun ts shares planned i job,
                ap (λ (m : Model). (row_at m i).age) (since_release ts shares planned i job),
              )

          own : JobWithin (task_in ts i) (task_in ts i).figures.overload i (begun job) job.since
          own = honest i job high

          in_time : Dec ((row_at (after (fresh ts shares) calls) i).age < (task_in ts i).figures.deadline) →
              (row_at (after (fresh ts shares) calls) i).age < (task_in ts i).figures.deadline
          in_time (yes h) = h
          in_time (no h) =
              absurd (true≢false (sym alive
              ∙ (high_over ts shares planned calls i job own.lengths high own.keeps own.reports last (omega (arith, aged))).gone))

  pub young_at : (calls : List Call) → HighJobsWithin (λ t. t.figures.overload) ts (fresh ts shares) calls →
      Young (longest_deadline ts) (after (fresh ts shares) calls)
  unfolding fresh_row
  young_at calls honest i h job =
      let known : i < ts.count = rw (rows_after ts shares planned calls) at h in
      let fixed : (row_at (after (fresh ts shares) calls) i).fixed ≡ planned_fixed ts shares i = fixed_at ts shares planned calls i known in
      let parts = high_parts (row_at (after (fresh ts shares) calls) i) job in
      let high : is_high (task_in ts i).level ≡ true = sym (ap (λ (f : Fixed). is_high f.level) fixed) ∙ parts.0 in
      let deadline : (row_at (after (fresh ts shares) calls) i).fixed.deadline ≡ (task_in ts i).figures.deadline =
      ap (λ (f : Fixed). f.deadline) fixed in
      (omega (arith, deadline, alive_young calls honest i known high parts.1), omega (arith, deadline, longest_at i known high))
