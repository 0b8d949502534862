-- What S10.7, S10.9 to S10.11 and S10.13 ask can be met. The models of the sheets are run by computation, and the reports pass the test
-- of true ones.
use Prim.Native.Nat.{ℕ, zero, suc, ◌+◌, ◌≤◌, ◌<◌}
use mathlib.Core.Bool.{true, true≢false, Bool, false≢true}
use mathlib.Core.List.{List, [], ◌∷◌, ◌++◌}
use mathlib.Core.Path.{◌≡◌, refl, sym, ap, ap₂, subst₂, ◌∙◌}
use native.Mathlib.Omega.{arith}
use borrow.Author.Tests.{eqb-true}
use lib.Dec.{lit≤}
use lib.ListN.{take, drop, replicate}
use Rattle.std.specs.Prelude.{Ok}
use Rattle.basics.proofs.Lists.{get_or-padded}
use Rattle.sheet.specs.declared.task.Budget.{Budget}
use Rattle.sheet.specs.declared.task.Task.{Task}
use Rattle.sheet.specs.declared.task.TaskSet.{TaskSet}
use Rattle.basics.specs.Lists.{range}
use Rattle.sheet.specs.Format.{task_in}
use Rattle.sheet.specs.Level.{is_low, is_high}
use Rattle.shares.specs.declared.share.Share.{Share}
use Rattle.shares.specs.Test.{division_of, virtual_deadline}
use Rattle.shares.specs.Low.{is_kept}
use Rattle.shares.specs.Totals.{share_at}
use Rattle.shares.specs.Deadline.{virtual_deadline_of}
use Rattle.nodes.specs.Sets.{has}
use Rattle.nodes.proofs.Bits.{has_zero, has_power}
use Rattle.model.specs.Budget.{sum_below, Chain, alone, link, along}
use Rattle.model.specs.Row.{is_subset, all_ended, predecessors_of, precedes, is_ready, ready, running, running_set, released_row, joined, ticked_row, has_high_job, is_late, survives, switched_row}
use Rattle.model.specs.Step.{Model, Call, release, tick, switched, step, row_at, granted, running_at, release_refusal, tick_refusal, released, ticked}
use Rattle.model.specs.Run.{after, is_accepted, ticks_in, releases_in, is_running, is_due}
use Rattle.model.specs.Plan.{fresh_row, fresh}
use Rattle.model.specs.Claim.{begun, KeepsBudget, JobWithin, HighJobsWithin, Ended, StaysTypical, Deadline, EndInTime, Nominal, KeptDeadline}
use Rattle.model.specs.Return.{longest_deadline, SwitchIn, turned, waits_for_return, ReturnWithin, BackInTime}
use Rattle.model.specs.Beside.{LowDeadline, TypicalUntil}
use Rattle.start.specs.Start.{start_of}
use Rattle.guarantee.specs.Runs.{all_model_said}
use Rattle.guarantee.specs.Guarantee.{shares_for, model_for, Guarantee, BesideGuarantee, tasks_for}
use Rattle.guarantee.specs.Witness.{two_tasks, high_task, long_lengths, overrun, overrun_said, short_lengths, usual, low_task, low_alone, one_kept, kept_task, kept_lengths, over_switch, kept_again, kept_again_said, there_and_back, there_and_back_said, InTimeAsked, DeadlineMet, NominalMet, LowMet, KeptMet, BackMet}
use Rattle.guarantee.proofs.Theorem.{guarantee, beside_guarantee}
use Rattle.guarantee.proofs.WitnessSheets.{high, low, kept, both, pairs, with_one_kept, kept_pairs, set_of_lem, shares_of_lem, model_of, start_accepts, sheets}
use Rattle.guarantee.proofs.Truths.{all_true, true_reports, all_typical, typical_until, at_releases}

pub started : (start_of two_tasks).answer ≡ Ok tt
started = start_accepts sheets.two

kept_started : (start_of one_kept).answer ≡ Ok tt
kept_started = start_accepts sheets.one_task_kept

read_set : tasks_for two_tasks ≡ both
read_set = set_of_lem sheets.two

kept_set : tasks_for one_kept ≡ with_one_kept
kept_set = set_of_lem sheets.one_task_kept

task_is : high_task ≡ high
unfolding task_in
task_is = ap (λ (ts : TaskSet). task_in ts 0) read_set

low_is : low_task ≡ low
unfolding task_in
low_is = ap (λ (ts : TaskSet). task_in ts 1) read_set

-- The model before the runs, and after the Release that each begins with.
abbrev start : Model
start = fresh both pairs

abbrev first : Model
first = (step start (release 0)).model

abbrev first_low : Model
first_low = (step start (release 1)).model

model_is : model_for two_tasks ≡ start
model_is = model_of sheets.two

-- The same for the other sheet: its model, and that after the Release of the kept task.
abbrev kept_start : Model
kept_start = fresh with_one_kept kept_pairs

abbrev first_kept : Model
first_kept = after kept_start (take 4 over_switch)

kept_shares : shares_for one_kept ≡ kept_pairs
kept_shares = shares_of_lem sheets.one_task_kept

kept_model : model_for one_kept ≡ kept_start
kept_model = model_of sheets.one_task_kept

-- The high task has one edge, from node 1 to node 2, so that a chain is a node alone or these two.
one_edge : (u v : ℕ) → precedes high.predecessors u v ≡ true → (u ≡ 1) × (v ≡ 2)
unfolding precedes predecessors_of
one_edge u zero e = absurd (true≢false (sym e ∙ has_zero u))
one_edge u (suc zero) e = absurd (true≢false (sym e ∙ has_zero u))
one_edge u (suc (suc zero)) e = (eqb-true u 1 (sym (has_power 1 u) ∙ e), refl)
one_edge u (suc (suc (suc v))) e = absurd (true≢false (sym e ∙ ap (λ (n : ℕ). has n u) (get_or-padded [] 29 v) ∙ has_zero u))

-- The low tasks have none, so that a chain is a node alone.
no_edge : (u v : ℕ) → precedes (replicate 32 0) u v ≡ true → ⊥
unfolding precedes predecessors_of
no_edge u v e = true≢false (sym e ∙ ap (λ (n : ℕ). has n u) (get_or-padded [] 32 v) ∙ has_zero u)

lone_span : (k length u : ℕ) (rest : List ℕ) → Chain k (precedes (replicate 32 0)) u rest → along (λ _. length) u rest ≤ length
lone_span k length u rest (alone l) = omega arith
lone_span k length u rest (link {v = v} l e c) = absurd (no_edge u v e)

module _ (len : ℕ → ℕ) (span : ℕ) (each : (u : ℕ) → u < 4 → len u ≤ span) (chain : len 1 + len 2 ≤ span) where
  chains_span : (u : ℕ) (rest : List ℕ) → Chain 4 (precedes high.predecessors) u rest → along len u rest ≤ span
  chains_span u rest (alone l) = each u l
  chains_span u rest (link {v = v} l e (alone l')) =
      let ends = one_edge u v e in
      let here : len u + len v ≡ len 1 + len 2 = ap₂ (λ (x y : ℕ). len x + len y) ends.0 ends.1 in
      omega (arith, chain, here)
  chains_span u rest (link {v = v} l e (link {v = w} l' e' c)) = absurd (omega (arith, (one_edge u v e).1, (one_edge v w e').0))

-- The lengths of the run that overruns: each is 1 to 3.
long_each : (v : ℕ) → v < 4 → (1 ≤ long_lengths v) × (long_lengths v ≤ 3)
long_each zero h = (lit≤ tt, lit≤ tt)
long_each (suc zero) h = (lit≤ tt, lit≤ tt)
long_each (suc (suc zero)) h = (lit≤ tt, lit≤ tt)
long_each (suc (suc (suc zero))) h = (lit≤ tt, lit≤ tt)
long_each (suc (suc (suc (suc v)))) h = absurd (omega arith)

long_keeps : KeepsBudget high high.figures.overload long_lengths
unfolding KeepsBudget sum_below
long_keeps =
    record {
      positive = λ v h. (long_each v h).0;
      work = lit≤ tt;
      span = chains_span long_lengths 3 (λ v h. (long_each v h).1) (lit≤ tt);
    }

long_beyond : KeepsBudget high high.figures.nominal long_lengths → ⊥
unfolding KeepsBudget sum_below
long_beyond k = absurd (omega (arith, k.work))

short_keeps : KeepsBudget high high.figures.nominal short_lengths
unfolding KeepsBudget sum_below
short_keeps =
    record {
      positive = λ v h. lit≤ tt;
      work = lit≤ tt;
      span = chains_span short_lengths 2 (λ v h. lit≤ tt) (lit≤ tt);
    }

low_keeps : KeepsBudget low low.figures.nominal short_lengths
unfolding KeepsBudget sum_below
low_keeps = record { positive = λ v h. lit≤ tt; work = lit≤ tt; span = lone_span 2 1 }

kept_keeps : KeepsBudget kept kept.figures.nominal kept_lengths
unfolding KeepsBudget sum_below
kept_keeps = record { positive = λ v h. lit≤ tt; work = lit≤ tt; span = lone_span 3 2 }

-- The calls between the release of the job that overruns and the D-th tick after it.
abbrev before_due : List Call
before_due = take 10 (drop 1 overrun)

-- A tick that reports nothing of either task.
abbrev no_reports : Call
no_reports = tick (0 ∷ 0 ∷ [])

-- The model just after the second release of task 0 in the run that returns.
abbrev second : Model
second = (step (after start (take 12 there_and_back)) (release 0)).model

-- The runs on the model, by computation.
record Runs : Type 0 where
  -- The first call of each run is accepted.
  pub begins : is_accepted start (release 0) ≡ true
  -- The answers of the run that overruns.
  pub said : all_model_said start overrun ≡ overrun_said
  -- Its reports are true.
  pub long_true : all_true 0 long_lengths (λ _. 0) first (drop 1 overrun) ≡ true
  -- Its D-th tick, and that task 0 is not released again.
  pub due : is_accepted (after first before_due) no_reports ≡ true
  pub ticks : ticks_in first before_due + 1 ≡ 8
  pub unreleased : releases_in 0 (after first (take 11 (drop 1 overrun))) (drop 12 overrun) ≡ 0
  -- The other run has two high jobs, and the reports of both are true.
  pub jobs : releases_in 0 start usual ≡ 2
  pub short_true : all_true 0 short_lengths (λ _. 0) first (drop 1 usual) ≡ true
  pub short_again : all_true 0 short_lengths (λ _. 0) (after start (take 11 usual)) (drop 11 usual) ≡ true
  -- The run of the low job: its release, true reports, its D-th tick, the mode and the next release.
  pub low_begins : is_accepted start (release 1) ≡ true
  pub low_true : all_true 1 short_lengths (λ _. 0) first_low (drop 1 low_alone) ≡ true
  pub low_due : is_accepted (after first_low (take 2 (drop 1 low_alone))) no_reports ≡ true
  pub low_ticks : ticks_in first_low (take 2 (drop 1 low_alone)) + 1 ≡ 3
  pub low_typical : all_typical first_low (drop 1 low_alone) ≡ true
  pub low_again : is_accepted (after start low_alone) (release 1) ≡ true
  -- The run that switches and returns twice: its answers, its first switch, the reports of both high jobs, and what follows the switch.
  pub back_said : all_model_said start there_and_back ≡ there_and_back_said
  pub back_switch : (step (after start (take 5 there_and_back)) no_reports).answer ≡ switched 0
  pub back_true : all_true 0 long_lengths (λ _. 0) first (drop 1 there_and_back) ≡ true
  pub back_waits : waits_for_return (after start (take 6 there_and_back)) (drop 6 there_and_back) ≡ true
  pub back_ticks : ticks_in (after start (take 6 there_and_back)) (drop 6 there_and_back) ≡ 12
  -- Its second high job: its release behind the first one's, true reports, and its D-th tick.
  pub second_begins : is_accepted (after start (take 12 there_and_back)) (release 0) ≡ true
  pub second_later : releases_in 0 start (take 12 there_and_back) ≡ 1
  pub second_true : all_true 0 long_lengths (λ _. 0) second (drop 13 there_and_back) ≡ true
  pub second_due : is_accepted (after second (take 7 (drop 13 there_and_back))) no_reports ≡ true
  pub second_ticks : ticks_in second (take 7 (drop 13 there_and_back)) + 1 ≡ 8
  -- The run of the kept job: its release, its answers and true reports, its D-th tick, and the job and the mode before that.
  pub kept_begins : is_accepted (after kept_start (take 3 over_switch)) (release 1) ≡ true
  pub kept_said : all_model_said kept_start kept_again ≡ kept_again_said
  pub kept_true : all_true 1 kept_lengths (λ _. 0) first_kept (drop 4 over_switch) ≡ true
  pub kept_due : is_accepted (after first_kept (take 3 (drop 4 over_switch))) (tick (4 ∷ 4 ∷ [])) ≡ true
  pub kept_ticks : ticks_in first_kept (take 3 (drop 4 over_switch)) + 1 ≡ 4
  pub kept_critical : (after kept_start (take 7 over_switch)).critical ≡ true
  pub kept_alive : (row_at (after kept_start (take 7 over_switch)) 1).job.alive ≡ true

runs : Runs
unfolding fresh fresh_row virtual_deadline_of is_low division_of virtual_deadline has range is_high is_kept is_subset all_ended predecessors_of is_ready ready running running_set released_row joined ticked_row has_high_job is_late survives switched_row step row_at granted running_at release_refusal tick_refusal released ticked is_accepted is_running is_due
runs =
    record {
      begins = refl;
      said = refl;
      long_true = refl;
      due = refl;
      ticks = refl;
      unreleased = refl;
      jobs = refl;
      short_true = refl;
      short_again = refl;
      low_begins = refl;
      low_true = refl;
      low_due = refl;
      low_ticks = refl;
      low_typical = refl;
      low_again = refl;
      back_said = refl;
      back_switch = refl;
      back_true = refl;
      back_waits = refl;
      back_ticks = refl;
      second_begins = refl;
      second_later = refl;
      second_true = refl;
      second_due = refl;
      second_ticks = refl;
      kept_begins = refl;
      kept_said = refl;
      kept_true = refl;
      kept_due = refl;
      kept_ticks = refl;
      kept_critical = refl;
      kept_alive = refl;
    }

-- A run with an accepted release of task i, and with the D-th tick after it, asks the rest of the job.
asked_of : (is_such : ℕ → Bool) (budget : Budget) (m : Model) (t : Task) (i : ℕ) (past before : List Call) (reports : List ℕ)
    (later : List Call) (len : ℕ → ℕ) →
    is_accepted (after m past) (release i) ≡ true →
    is_such t.level ≡ true →
    KeepsBudget t budget len →
    all_true i len (λ _. 0) (step (after m past) (release i)).model (before ++ tick reports ∷ later) ≡ true →
    is_accepted (after (step (after m past) (release i)).model before) (tick reports) ≡ true →
    ticks_in (step (after m past) (release i)).model before + 1 ≡ t.figures.deadline →
    releases_in i (after (step (after m past) (release i)).model (before ++ tick reports ∷ [])) later ≡ 0 →
    InTimeAsked is_such budget m t i (past ++ release i ∷ (before ++ tick reports ∷ later)) len
unfolding begun
asked_of is_such budget m t i past before reports later len begins level_is keeps truth due ticks unreleased =
    record {
      job = record { before = past; since = before ++ tick reports ∷ later; list = refl; accepted = begins };
      level_is = level_is;
      keeps = keeps;
      reports = true_reports i len (step (after m past) (release i)).model (before ++ tick reports ∷ later) truth;
      passed =
          record {
            before = before;
            reports = reports;
            later = later;
            list = refl;
            accepted = due;
            ticks = ticks;
            unreleased = unreleased;
          };
    }

overrun_asked : InTimeAsked is_high high.figures.overload start high 0 overrun long_lengths
unfolding is_high
overrun_asked =
    asked_of is_high high.figures.overload start high 0 [] before_due (0 ∷ 0 ∷ []) (drop 12 overrun) long_lengths
    runs.begins refl long_keeps runs.long_true runs.due runs.ticks runs.unreleased

low_asked : InTimeAsked is_low low.figures.nominal start low 1 low_alone short_lengths
unfolding is_high is_low
low_asked =
    asked_of is_low low.figures.nominal start low 1 [] (take 2 (drop 1 low_alone)) (0 ∷ 0 ∷ []) [] short_lengths
    runs.low_begins refl low_keeps runs.low_true runs.low_due runs.low_ticks refl

-- What is asked of the kept job, by a task set and its shares.
abbrev KeptAsked : TaskSet → List Share → Type 0
KeptAsked ts shares =
    InTimeAsked (λ level. is_kept level (share_at shares 1)) (task_in ts 1).figures.nominal (fresh ts shares) (task_in ts 1) 1 over_switch
    kept_lengths

kept_asked : KeptAsked with_one_kept kept_pairs
unfolding is_high is_low is_kept task_in share_at
kept_asked =
    asked_of (λ level. is_kept level (share_at kept_pairs 1)) kept.figures.nominal kept_start kept 1 (take 3 over_switch)
    (take 3 (drop 4 over_switch)) (4 ∷ 4 ∷ []) (drop 8 over_switch) kept_lengths
    runs.kept_begins refl kept_keeps runs.kept_true runs.kept_due runs.kept_ticks refl

-- Of the three releases of the other run that of the low task asks nothing.
usual_asked : HighJobsWithin (λ t. t.figures.nominal) both start usual
unfolding HighJobsWithin task_in is_high
usual_asked =
    at_releases (λ i m since. is_high (task_in both i).level ≡ true → JobWithin (task_in both i) (task_in both i).figures.nominal i m since) start usual (
      λ _ level. nominal first (drop 1 usual) runs.short_true,
      (λ _ level. absurd (false≢true level), (λ _ level. nominal (after start (take 11 usual)) (drop 11 usual) runs.short_again, tt)),
    )
  where
    nominal : (m : Model) (since : List Call) → all_true 0 short_lengths (λ _. 0) m since ≡ true → JobWithin high high.figures.nominal 0 m since
    nominal m since h = record { lengths = short_lengths; keeps = short_keeps; reports = true_reports 0 short_lengths m since h }

-- Of the five releases of the run that returns those of the low task ask nothing.
back_jobs : HighJobsWithin (λ t. t.figures.overload) both start there_and_back
unfolding HighJobsWithin task_in is_high
back_jobs =
    at_releases (λ i m since. is_high (task_in both i).level ≡ true → JobWithin (task_in both i) (task_in both i).figures.overload i m since)
    start there_and_back (
      λ _ level. within first (drop 1 there_and_back) runs.back_true,
      (
        λ _ level. absurd (false≢true level),
        (
          λ _ level. absurd (false≢true level),
          (
            λ _ level. absurd (false≢true level),
            (λ _ level. within second (drop 13 there_and_back) runs.second_true, tt),
          ),
        ),
      ),
    )
  where
    within : (m : Model) (since : List Call) → all_true 0 long_lengths (λ _. 0) m since ≡ true → JobWithin high high.figures.overload 0 m since
    within m since h = record { lengths = long_lengths; keeps = long_keeps; reports = true_reports 0 long_lengths m since h }

-- All of them hold of the sheet, whose model this is.
pub deadline_met : DeadlineMet
unfolding Guarantee
deadline_met =
    record {
      started = started;
      said =
          (guarantee two_tasks started overrun).answers
          ∙ ap (λ (m : Model). all_model_said m overrun) model_is
          ∙ runs.said;
      beyond = rw task_is long_beyond;
      asked =
          subst₂ (λ (m : Model) (t : Task). InTimeAsked is_high t.figures.overload m t 0 overrun long_lengths) (sym model_is) (sym task_is) overrun_asked;
    }

pub nominal_met : NominalMet
unfolding is_high
nominal_met =
    record {
      started = started;
      high = ap (λ (t : Task). is_high t.level) task_is;
      jobs = ap (λ (m : Model). releases_in 0 m usual) model_is ∙ runs.jobs;
      asked = subst₂ (λ (ts : TaskSet) (m : Model). HighJobsWithin (λ t. t.figures.nominal) ts m usual) (sym read_set) (sym model_is) usual_asked;
    }

-- What is asked of the low job, with the mode.
record LowAsked (m : Model) (t : Task) : Type 0 where
  pub asked : InTimeAsked is_low t.figures.nominal m t 1 low_alone short_lengths
  pub typical : TypicalUntil t.figures.deadline (begun asked.job) asked.job.since

low_all : LowAsked start low
unfolding begun low_asked asked_of
low_all = record { asked = low_asked; typical = typical_until 3 first_low (drop 1 low_alone) runs.low_typical }

pub low_met : LowMet
low_met =
    let all : LowAsked (model_for two_tasks) low_task = subst₂ LowAsked (sym model_is) (sym low_is) low_all in
    record {
      started = started;
      asked = all.asked;
      typical = all.typical;
      again = ap (λ (m : Model). is_accepted (after m low_alone) (release 1)) model_is ∙ runs.low_again;
    }

pub kept_met : KeptMet
unfolding Guarantee model_for
kept_met =
    record {
      started = kept_started;
      said =
          (guarantee one_kept kept_started kept_again).answers
          ∙ ap (λ (m : Model). all_model_said m kept_again) kept_model
          ∙ runs.kept_said;
      critical = ap (λ (m : Model). (after m (take 7 over_switch)).critical) kept_model ∙ runs.kept_critical;
      alive = ap (λ (m : Model). (row_at (after m (take 7 over_switch)) 1).job.alive) kept_model ∙ runs.kept_alive;
      asked = subst₂ KeptAsked (sym kept_set) (sym kept_shares) kept_asked;
    }

-- What is asked of the first switch of the run that returns.
record BackAsked (ts : TaskSet) (m : Model) : Type 0 where
  pub switch : SwitchIn m there_and_back
  pub jobs : HighJobsWithin (λ t. t.figures.overload) ts m there_and_back
  pub waits : waits_for_return (turned switch) switch.since ≡ true
  pub enough : longest_deadline ts ≤ ticks_in (turned switch) switch.since + 1

back_asked : BackAsked both start
unfolding turned longest_deadline is_high
back_asked =
    record {
      switch =
          record {
            before = take 5 there_and_back;
            reports = 0 ∷ 0 ∷ [];
            since = drop 6 there_and_back;
            list = refl;
            task = 0;
            answer = runs.back_switch;
          };
      jobs = back_jobs;
      waits = runs.back_waits;
      enough = rw runs.back_ticks (lit≤ tt);
    }

-- What is asked of its second high job.
record SecondAsked (m : Model) (t : Task) : Type 0 where
  pub asked : InTimeAsked is_high t.figures.overload m t 0 there_and_back long_lengths
  pub later : releases_in 0 m asked.job.before ≡ 1

second_asked : SecondAsked start high
unfolding is_high asked_of
second_asked =
    record {
      asked =
          asked_of is_high high.figures.overload start high 0 (take 12 there_and_back) (take 7 (drop 13 there_and_back)) (0 ∷ 0 ∷ []) [] long_lengths
          runs.second_begins refl long_keeps runs.second_true runs.second_due runs.second_ticks refl;
      later = runs.second_later;
    }

pub back_met : BackMet
unfolding Guarantee
back_met =
    let switch : BackAsked (tasks_for two_tasks) (model_for two_tasks) = subst₂ BackAsked (sym read_set) (sym model_is) back_asked in
    let second_job : SecondAsked (model_for two_tasks) high_task = subst₂ SecondAsked (sym model_is) (sym task_is) second_asked in
    record {
      started = started;
      said =
          (guarantee two_tasks started there_and_back).answers
          ∙ ap (λ (m : Model). all_model_said m there_and_back) model_is
          ∙ runs.back_said;
      switch = switch.switch;
      jobs = switch.jobs;
      waits = switch.waits;
      enough = switch.enough;
      asked = second_job.asked;
      later = second_job.later;
    }

-- S10.7 of the one run: its job has ended.
pub job_ended : Ended high_task (row_at (after (model_for two_tasks) overrun) 0)
unfolding Guarantee Deadline EndInTime model_for
job_ended =
    let a = deadline_met.asked in
    (guarantee two_tasks started overrun).deadline 0 a.job long_lengths a.level_is a.keeps a.reports a.passed

-- S10.9 of the other: the mode stays typical.
pub mode_typical : StaysTypical (model_for two_tasks) usual
unfolding Guarantee Nominal model_for
mode_typical = (guarantee two_tasks started usual).nominal nominal_met.asked

-- S10.10 of the third: the low job has ended.
pub low_ended : Ended low_task (row_at (after (model_for two_tasks) low_alone) 1)
unfolding BesideGuarantee LowDeadline model_for
low_ended =
    let a = low_met.asked in
    (beside_guarantee two_tasks started low_alone).low 1 a.job short_lengths a.level_is a.keeps a.reports low_met.typical a.passed

-- S10.11 of the run on the other sheet: the kept job has ended.
pub kept_ended : Ended kept_task (row_at (after (model_for one_kept) over_switch) 1)
unfolding Guarantee KeptDeadline model_for
kept_ended =
    let a = kept_met.asked in
    (guarantee one_kept kept_started over_switch).kept 1 a.job kept_lengths a.level_is a.keeps a.reports a.passed

-- S10.13 of the run that returns: a tick returns before the longest deadline has passed.
pub mode_back : ReturnWithin (longest_deadline (tasks_for two_tasks)) (turned back_met.switch) back_met.switch.since
unfolding Guarantee BackInTime model_for
mode_back = (guarantee two_tasks started there_and_back).back back_met.switch back_met.jobs back_met.waits back_met.enough

-- S10.7 of its second high job, which is released after a return: it has ended.
pub second_ended : Ended high_task (row_at (after (model_for two_tasks) there_and_back) 0)
unfolding Guarantee Deadline EndInTime model_for
second_ended =
    let a = back_met.asked in
    (guarantee two_tasks started there_and_back).deadline 0 a.job long_lengths a.level_is a.keeps a.reports a.passed
