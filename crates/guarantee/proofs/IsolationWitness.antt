-- What S10.14 and S10.15 ask can be met. The models of the sheets are run by computation: at each tick count the releases, the reports and
-- the modes are compared by a test.
use Prim.Native.Nat.{ℕ, suc, ◌≤◌}
use mathlib.Core.Bool.{Bool, true, false}
use mathlib.Core.List.{List, [], ◌∷◌}
use mathlib.Core.Path.{◌≡◌, refl, sym, ap, ap₂, subst₂, ◌∙◌}
use native.Mathlib.Omega.{arith}
use borrow.Author.Tests.{eqb-true}
use lib.Dec.{eqb}
use Rattle.std.proofs.lemmas.Bool.{agree_below, agree_below_at}
use Rattle.basics.specs.Lists.{all_below, range}
use Rattle.basics.proofs.Below.{all_at}
use Rattle.sheet.specs.declared.task.TaskSet.{TaskSet}
use Rattle.sheet.specs.Format.{task_in}
use Rattle.sheet.specs.Level.{is_low, is_high}
use Rattle.shares.specs.declared.share.Share.{Share}
use Rattle.shares.specs.Test.{division_of, virtual_deadline}
use Rattle.shares.specs.Low.{is_kept}
use Rattle.shares.specs.Totals.{share_at}
use Rattle.shares.specs.Deadline.{virtual_deadline_of}
use Rattle.nodes.specs.Sets.{has}
use Rattle.allocation.specs.Blocks.{offset_in}
use Rattle.model.specs.Row.{is_subset, all_ended, predecessors_of, is_ready, ready, running, running_set, released_row, joined, ticked_row, has_high_job, is_late, survives, switched_row}
use Rattle.model.specs.Step.{Model, Call, step, row_at, granted, running_at, release_refusal, tick_refusal, released, ticked}
use Rattle.model.specs.Run.{after, is_accepted, ticks_in}
use Rattle.model.specs.Plan.{fresh_row, fresh}
use Rattle.model.specs.Isolation.{TaskRun, start, share_of, mode_at, releases_at, report_at, SameRecord, SameGiven, SameModes, Unswitched, AlikeUntil}
use Rattle.guarantee.specs.Runs.{all_model_said}
use Rattle.guarantee.specs.Guarantee.{model_for, Guarantee}
use Rattle.guarantee.specs.Isolation.{task_run, held_after, IsolationGuarantee, CommissioningGuarantee}
use Rattle.guarantee.specs.IsolationWitness.{high_only, low_only, three_tasks, high_tested, high_tested_said, high_among_three, high_among_three_said, low_tested, low_among_three, high_run, high_among, low_run, low_among, IsolationMet, CommissioningMet, two_high, released_late, beside_overrun, ModesMatter}
use Rattle.guarantee.proofs.Theorem.{guarantee}
use Rattle.guarantee.proofs.Isolation.{isolation, commissioning}
use Rattle.guarantee.proofs.WitnessSheets.{Gives, only_high, only_pairs, only_low, only_low_pairs, three, three_pairs, twice, twice_pairs, set_of_lem, shares_of_lem, model_of, start_accepts, sheets}

-- The tasks of the runs, by the tasks and shares that the sheets give.
abbrev high_run_lem : TaskRun
high_run_lem = record { tasks = only_high; shares = only_pairs; calls = high_tested; number = 0 }

abbrev high_among_lem : TaskRun
high_among_lem = record { tasks = three; shares = three_pairs; calls = high_among_three; number = 1 }

abbrev low_run_lem : TaskRun
low_run_lem = record { tasks = only_low; shares = only_low_pairs; calls = low_tested; number = 0 }

abbrev low_among_lem : TaskRun
low_among_lem = record { tasks = three; shares = three_pairs; calls = low_among_three; number = 2 }

-- Whether two runs give their tasks the same at each tick count below t.
abbrev same_releases : ℕ → TaskRun → TaskRun → Bool
same_releases t r q = all_below t (λ s. eqb (releases_at r s) (releases_at q s))

abbrev same_reports : ℕ → TaskRun → TaskRun → Bool
same_reports t r q =
    all_below t (λ s. eqb (report_at r.number s (start r) r.calls) (report_at q.number s (start q) q.calls))

abbrev same_modes : ℕ → TaskRun → TaskRun → Bool
same_modes t r q = agree_below (mode_at r) (mode_at q) (suc t)

given_by : (t : ℕ) (r q : TaskRun) → t ≤ ticks_in (start r) r.calls → t ≤ ticks_in (start q) q.calls →
    same_releases t r q ≡ true → same_reports t r q ≡ true → SameGiven t r q
given_by t r q ticks other_ticks releases reports =
    record {
      ticks = ticks;
      other_ticks = other_ticks;
      releases = λ s h. eqb-true _ _ (all_at t _ releases s h);
      reports = λ s h. eqb-true _ _ (all_at t _ reports s h);
    }

modes_by : (t : ℕ) (r q : TaskRun) → same_modes t r q ≡ true → SameModes t r q
unfolding SameModes
modes_by t r q modes s h = agree_below_at (mode_at r) (mode_at q) (suc t) s modes (omega (arith, h))

-- The runs on the model, by computation.
record Runs : Type 0 where
  pub ticks : ticks_in (start high_run_lem) high_tested ≡ 9
  pub other_ticks : ticks_in (start high_among_lem) high_among_three ≡ 9
  pub releases : same_releases 8 high_run_lem high_among_lem ≡ true
  pub reports : same_reports 8 high_run_lem high_among_lem ≡ true
  pub modes : same_modes 8 high_run_lem high_among_lem ≡ true
  pub said : all_model_said (start high_run_lem) high_tested ≡ high_tested_said
  pub other_said : all_model_said (start high_among_lem) high_among_three ≡ high_among_three_said
  pub later : releases_at high_run_lem 8 ≡ 1
  pub other_later : releases_at high_among_lem 8 ≡ 0
  pub low_ticks : ticks_in (start low_run_lem) low_tested ≡ 4
  pub low_other_ticks : ticks_in (start low_among_lem) low_among_three ≡ 4
  pub low_releases : same_releases 4 low_run_lem low_among_lem ≡ true
  pub low_reports : same_reports 4 low_run_lem low_among_lem ≡ true
  pub unswitched : Unswitched 4 low_run_lem
  pub other_unswitched : Unswitched 4 low_among_lem

runs : Runs
unfolding fresh fresh_row virtual_deadline_of is_low division_of virtual_deadline has range is_high is_kept is_subset all_ended predecessors_of is_ready ready running running_set released_row joined ticked_row has_high_job is_late survives switched_row step row_at granted running_at release_refusal tick_refusal released ticked is_accepted all_below Unswitched
runs =
    record {
      ticks = refl;
      other_ticks = refl;
      releases = refl;
      reports = refl;
      modes = refl;
      said = refl;
      other_said = refl;
      later = refl;
      other_later = refl;
      low_ticks = refl;
      low_other_ticks = refl;
      low_releases = refl;
      low_reports = refl;
      unswitched = refl;
      other_unswitched = refl;
    }

-- What S10.14 asks of two runs, with what comes behind the eighth tick.
record HighAsked (r q : TaskRun) : Type 0 where
  pub same : SameRecord r q
  pub shares : share_of r ≡ share_of q
  pub given : SameGiven 8 r q
  pub modes : SameModes 8 r q
  pub later : releases_at r 8 ≡ 1
  pub other_later : releases_at q 8 ≡ 0

high_asked : HighAsked high_run_lem high_among_lem
unfolding task_in share_at
high_asked =
    record {
      same = record { known = omega arith; other_known = omega arith; says = refl };
      shares = refl;
      given =
          given_by 8 high_run_lem high_among_lem (omega (arith, runs.ticks)) (omega (arith, runs.other_ticks)) runs.releases runs.reports;
      modes = modes_by 8 high_run_lem high_among_lem runs.modes;
      later = runs.later;
      other_later = runs.other_later;
    }

-- What S10.15 asks of two runs.
record LowAsked (r q : TaskRun) : Type 0 where
  pub given : SameGiven 4 r q
  pub unswitched : Unswitched 4 r
  pub other_unswitched : Unswitched 4 q

low_asked : LowAsked low_run_lem low_among_lem
low_asked =
    record {
      given =
          given_by 4 low_run_lem low_among_lem (omega (arith, runs.low_ticks)) (omega (arith, runs.low_other_ticks)) runs.low_releases
          runs.low_reports;
      unswitched = runs.unswitched;
      other_unswitched = runs.other_unswitched;
    }

-- A task in a run of a sheet, by the tasks and shares that the sheet gives.
run_is : {sheet : List ℕ} {ts : TaskSet} {shares : List Share} → Gives sheet ts shares → (calls : List Call) (i : ℕ) →
    task_run sheet calls i ≡ record { tasks = ts; shares = shares; calls = calls; number = i }
run_is gives calls i =
    ap₂ (λ (ts : TaskSet) (shares : List Share). record { tasks = ts; shares = shares; calls = calls; number = i }) (set_of_lem gives)
    (shares_of_lem gives)

high_run_is : high_run ≡ high_run_lem
high_run_is = run_is sheets.a_high_task high_tested 0

high_among_is : high_among ≡ high_among_lem
high_among_is = run_is sheets.all_three high_among_three 1

low_run_is : low_run ≡ low_run_lem
low_run_is = run_is sheets.a_low_task low_tested 0

low_among_is : low_among ≡ low_among_lem
low_among_is = run_is sheets.all_three low_among_three 2

offset_is : (critical : Bool) → offset_in critical only_pairs 0 ≡ 0
unfolding offset_in
offset_is critical = refl

other_offset_is : (critical : Bool) → offset_in critical three_pairs 1 ≡ 2
unfolding offset_in
other_offset_is true = refl
other_offset_is false = refl

pub isolation_met : IsolationMet
unfolding Guarantee
isolation_met =
    let asked : HighAsked high_run high_among = subst₂ HighAsked (sym high_run_is) (sym high_among_is) high_asked in
    record {
      started = start_accepts sheets.a_high_task;
      other_started = start_accepts sheets.all_three;
      same = asked.same;
      shares = asked.shares;
      given = asked.given;
      modes = asked.modes;
      processors = ap (λ (ts : TaskSet). ts.processors) (set_of_lem sheets.a_high_task);
      other_processors = ap (λ (ts : TaskSet). ts.processors) (set_of_lem sheets.all_three);
      offset = λ critical. ap (λ (shares : List Share). offset_in critical shares 0) (shares_of_lem sheets.a_high_task) ∙ offset_is critical;
      other_offset = λ critical. ap (λ (shares : List Share). offset_in critical shares 1) (shares_of_lem sheets.all_three) ∙ other_offset_is critical;
      said =
          (guarantee high_only (start_accepts sheets.a_high_task) high_tested).answers
          ∙ ap (λ (m : Model). all_model_said m high_tested) (model_of sheets.a_high_task)
          ∙ runs.said;
      other_said =
          (guarantee three_tasks (start_accepts sheets.all_three) high_among_three).answers
          ∙ ap (λ (m : Model). all_model_said m high_among_three) (model_of sheets.all_three)
          ∙ runs.other_said;
      later = asked.later;
      other_later = asked.other_later;
    }

pub commissioning_met : CommissioningMet
unfolding task_in share_at
commissioning_met =
    let asked : LowAsked low_run low_among = subst₂ LowAsked (sym low_run_is) (sym low_among_is) low_asked in
    record {
      started = start_accepts sheets.a_low_task;
      other_started = start_accepts sheets.all_three;
      single = ap (λ (ts : TaskSet). ts.count) (set_of_lem sheets.a_low_task);
      known = rw (set_of_lem sheets.all_three) (omega arith);
      says =
          ap (λ (ts : TaskSet). task_in ts 0) (set_of_lem sheets.a_low_task) ∙ ap (λ (ts : TaskSet). task_in ts 2) (sym (set_of_lem sheets.all_three));
      typical =
          ap (λ (shares : List Share). (share_at shares 0).typical) (shares_of_lem sheets.a_low_task)
          ∙ ap (λ (shares : List Share). (share_at shares 2).typical) (sym (shares_of_lem sheets.all_three));
      given = asked.given;
      unswitched = asked.unswitched;
      other_unswitched = asked.other_unswitched;
      critical = ap (λ (shares : List Share). (share_at shares 0).critical) (shares_of_lem sheets.a_low_task);
      other_critical = ap (λ (shares : List Share). (share_at shares 2).critical) (shares_of_lem sheets.all_three);
    }

-- S10.14 of the runs of the high task: it is alike until the eighth tick.
pub high_alike : AlikeUntil 8 high_run (held_after high_only) high_among (held_after three_tasks)
unfolding IsolationGuarantee
high_alike =
    let met = isolation_met in
    isolation high_only three_tasks met.started met.other_started high_tested high_among_three 0 1 8 met.same met.shares met.given met.modes

-- S10.15 of the runs of the low task: it is alike until the fourth tick.
pub low_alike : AlikeUntil 4 low_run (held_after low_only) low_among (held_after three_tasks)
unfolding CommissioningGuarantee
low_alike =
    let met = commissioning_met in
    commissioning low_only three_tasks met.started met.other_started met.single 2 met.known met.says met.typical low_tested
    low_among_three 4 met.given met.unswitched met.other_unswitched

-- The runs that differ in their modes.
abbrev late_run : TaskRun
late_run = record { tasks = only_high; shares = only_pairs; calls = released_late; number = 0 }

abbrev late_beside : TaskRun
late_beside = record { tasks = twice; shares = twice_pairs; calls = beside_overrun; number = 0 }

record Parted (r q : TaskRun) : Type 0 where
  pub same : SameRecord r q
  pub shares : share_of r ≡ share_of q
  pub given : SameGiven 4 r q
  pub mode : mode_at r 4 ≡ false
  pub other_mode : mode_at q 4 ≡ true
  pub running : running_at (after (start r) r.calls) 0 ≡ 0 ∷ []
  pub other_running : running_at (after (start q) q.calls) 0 ≡ 0 ∷ 1 ∷ []

parted : Parted late_run late_beside
unfolding fresh fresh_row virtual_deadline_of is_low division_of virtual_deadline has range is_high is_kept is_subset all_ended predecessors_of is_ready ready running running_set released_row joined ticked_row has_high_job is_late survives switched_row step row_at granted running_at release_refusal tick_refusal released ticked is_accepted all_below task_in share_at
parted =
    record {
      same = record { known = omega arith; other_known = omega arith; says = refl };
      shares = refl;
      given = given_by 4 late_run late_beside (omega arith) (omega arith) refl refl;
      mode = refl;
      other_mode = refl;
      running = refl;
      other_running = refl;
    }

pub modes_matter : ModesMatter
unfolding Guarantee model_for
modes_matter =
    let apart : Parted (task_run high_only released_late 0) (task_run two_high beside_overrun 0) =
    subst₂ Parted (sym (run_is sheets.a_high_task released_late 0))
    (sym (run_is sheets.two_high_tasks beside_overrun 0)) parted in
    record {
      started = start_accepts sheets.a_high_task;
      other_started = start_accepts sheets.two_high_tasks;
      same = apart.same;
      shares = apart.shares;
      given = apart.given;
      mode = apart.mode;
      other_mode = apart.other_mode;
      running =
          ap (λ (m : Model). running_at m 0) (guarantee high_only (start_accepts sheets.a_high_task) released_late).states ∙ apart.running;
      other_running =
          ap (λ (m : Model). running_at m 0) (guarantee two_high (start_accepts sheets.two_high_tasks) beside_overrun).states ∙ apart.other_running;
    }
