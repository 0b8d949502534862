-- S10.2: the model, a call, and one step: the first of the refusals 11 to 15 that holds, else Release or Tick.
use Rattle.std.specs.Prelude.{ℕ, suc, Bool, true, false, cond, not, ◌&&◌, ◌||◌, List, [], ◌∷◌, map, eqb, leb, ltb, length, get_or, set, Option, Some, None, Result, Ok, Err, ⊤}
use Rattle.std.specs.List.{list_any}
use Rattle.sheet.specs.declared.refusal.Refusal.{Refusal}
use Rattle.sheet.specs.declared.refusal.Refusal.TheVariants.{UnknownTask, LowInCritical, TooEarly, WrongCount, NotRunning}
use Rattle.sheet.specs.Refusal.{refused_if, ◌or_else◌}
use Rattle.shares.specs.Totals.{share_in}
use Rattle.model.specs.Row.{Row, is_subset, running, running_set, released_row, ticked_row, has_high_job, is_late, survives, switched_row}

-- S10.2: the model holds the mode, critical or not, and a row for each task.
pub record Model : Type 0 where
  pub critical : Bool
  pub rows : List Row

-- S10.1: a call: Release of a task, or Tick with the reports.
pub data Call : Type 0 where
  release : ℕ → Call
  tick : List ℕ → Call

-- S3.1 and S8.7: a Release was accepted; a tick ran, switched the mode because of a task, or returned to the typical
-- mode; or the call was refused.
pub data Answer : Type 0 where
  accepted : Answer
  ran : Answer
  switched : ℕ → Answer
  returned : Answer
  refused : Refusal → Answer

-- An answer and the model after the call.
pub record Step : Type 0 where
  pub answer : Answer
  pub model : Model

-- A row with nothing in it, for a number that is no task.
abbrev pub no_row : Row
no_row =
    record {
      fixed =
          record {
            level = 0;
            nodes = 0;
            predecessors = [];
            deadline = 0;
            virtual_deadline = 0;
            share = record { typical = 0; critical = 0 };
          };
      age = 0;
      job = record { ended = 0; alive = false };
    }

-- The row of task i.
unfoldable pub row_at : Model → ℕ → Row
row_at m i = get_or m.rows i no_row

-- S8.3: how many processors task i has at this moment: its share in the mode. No other definition decides it.
unfoldable pub granted : Model → ℕ → ℕ
granted m i = share_in m.critical (row_at m i).fixed.share

-- S8.3: the nodes of task i that run, lowest first.
unfoldable pub running_at : Model → ℕ → List ℕ
running_at m i = running (granted m i) (row_at m i)

-- S3.2: what speaks against a Release: the first of the refusals 11 (there is no such task), 12 (its job would not
-- survive a switch, and the mode is critical) and 13 (its job is alive, or its age is below D) that holds.
unfoldable pub release_refusal : Model → ℕ → Result ⊤ Refusal
release_refusal m i =
    refused_if (leb (length m.rows) i) UnknownTask
    or_else refused_if (m.critical && not (survives (row_at m i).fixed)) (LowInCritical i)
    or_else refused_if ((row_at m i).job.alive || ltb (row_at m i).age (row_at m i).fixed.deadline) (TooEarly i)

-- S9.15, over the tasks from i on, each with its grant by number: the first task whose report has a node that is not
-- running.
abbrev pub report_refusal : (ℕ → ℕ) → ℕ → List Row → List ℕ → Result ⊤ Refusal
report_refusal grants i [] reports = Ok tt
report_refusal grants i (r ∷ rows) [] = Ok tt
report_refusal grants i (r ∷ rows) (report ∷ reports) =
    refused_if (not (is_subset report (running_set (grants i) r))) (NotRunning i)
    or_else report_refusal grants (suc i) rows reports

-- S3.2: what speaks against a Tick: the first of the refusals 14 (not as many reports as tasks) and 15 that holds. What
-- runs is by the grants before the tick.
unfoldable pub tick_refusal : Model → List ℕ → Result ⊤ Refusal
tick_refusal m reports =
    refused_if (not (eqb (length reports) (length m.rows))) WrongCount
    or_else report_refusal (granted m) 0 m.rows reports

-- The refusal that a call meets, if any.
abbrev pub refusal_of : Model → Call → Result ⊤ Refusal
refusal_of m (release i) = release_refusal m i
refusal_of m (tick reports) = tick_refusal m reports

-- S8.4: an accepted Release.
unfoldable pub released : Model → ℕ → Step
released m i =
    record {
      answer = accepted;
      model = record { critical = m.critical; rows = set m.rows i (released_row (row_at m i)) };
    }

-- S8.5: a tick, task by task, each with its report.
abbrev pub ticked_rows : List Row → List ℕ → List Row
ticked_rows [] reports = []
ticked_rows (r ∷ rows) [] = r ∷ rows
ticked_rows (r ∷ rows) (report ∷ reports) = ticked_row r report ∷ ticked_rows rows reports

-- S8.7: the lowest task, from i on, that is late.
abbrev pub lowest_late : ℕ → List Row → Option ℕ
lowest_late i [] = None
lowest_late i (r ∷ rows) = cond (is_late r) (Some i) (lowest_late (suc i) rows)

-- S8.6: the mode turns critical and the jobs that do not survive are dropped, if there is a late task.
abbrev pub switched_to : List Row → Option ℕ → Step
switched_to rows None = record { answer = ran; model = record { critical = false; rows = rows } }
switched_to rows (Some i) = record { answer = switched i; model = record { critical = true; rows = map switched_row rows } }

-- S8.9: the critical mode lasts while a high job is alive; where none is, the mode turns typical. Every job stays as it
-- is.
abbrev pub returned_to : List Row → Bool → Step
returned_to rows true = record { answer = ran; model = record { critical = true; rows = rows } }
returned_to rows false = record { answer = returned; model = record { critical = false; rows = rows } }

-- S8.6 and S8.9: what becomes of the mode, by the mode before the tick and the rows after their parts of it: the
-- critical one may return, the typical one may switch, and no tick does both.
abbrev pub turning : Bool → List Row → Step
turning true rows = returned_to rows (list_any has_high_job rows)
turning false rows = switched_to rows (lowest_late 0 rows)

-- S8.5, S8.6 and S8.9: an accepted Tick: first every task's part, then the mode.
unfoldable pub ticked : Model → List ℕ → Step
ticked m reports = turning m.critical (ticked_rows m.rows reports)

-- An accepted call.
abbrev pub accepted_step : Model → Call → Step
accepted_step m (release i) = released m i
accepted_step m (tick reports) = ticked m reports

-- S10.2: where a refusal holds, it is the answer and nothing changes.
abbrev pub step_by : Result ⊤ Refusal → Model → Call → Step
step_by (Ok x) m c = accepted_step m c
step_by (Err r) m c = record { answer = refused r; model = m }

-- One step of the model.
unfoldable pub step : Model → Call → Step
step m c = step_by (refusal_of m c) m c
