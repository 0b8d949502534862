-- The model that a task set and its shares make, and what the sheet's rules and the choice say of them.
use Rattle.std.specs.Prelude.{ℕ, ◌≤◌, ◌<◌, ◌^◌, ◌≡◌, Bool, true, false, List, [], ◌∷◌, length, take}
use Rattle.sheet.specs.declared.task.Figures.{Figures}
use Rattle.sheet.specs.declared.task.Task.{Task}
use Rattle.sheet.specs.declared.task.TaskSet.{TaskSet}
use Rattle.shares.specs.declared.share.Share.{Share}
use Rattle.sheet.specs.Format.{task_in}
use Rattle.shares.specs.Totals.{share_at, share_total}
use Rattle.shares.specs.Test.{passes}
use Rattle.shares.specs.Low.{low_share}
use Rattle.shares.specs.Deadline.{virtual_deadline_of}
use Rattle.sheet.specs.Level.{is_high, is_low}
use Rattle.model.specs.Row.{Row, predecessors_of}
use Rattle.model.specs.Step.{Model}

-- S8.1: a task at the start: what the sheet and the plan fix, no job alive, no node ended, the age at D.
unfoldable pub fresh_row : Task → Share → Row
fresh_row t s =
    record {
      fixed =
          record {
            level = t.level;
            nodes = t.nodes;
            predecessors = t.predecessors;
            deadline = t.figures.deadline;
            virtual_deadline = virtual_deadline_of t s.typical;
            share = s;
          };
      age = t.figures.deadline;
      job = record { ended = 0; alive = false };
    }

-- A fresh row for each task and its share.
abbrev pub fresh_rows : List Task → List Share → List Row
fresh_rows [] shares = []
fresh_rows (t ∷ tasks) [] = []
fresh_rows (t ∷ tasks) (s ∷ shares) = fresh_row t s ∷ fresh_rows tasks shares

-- S10.2: the model at the start of a run: typical mode, every task as S8.1 says.
unfoldable pub fresh : TaskSet → List Share → Model
fresh ts shares = record { critical = false; rows = fresh_rows (take ts.count ts.tasks) shares }

-- S2.9 and S2.10, as far as the theorems rest on them: LN is at least 1 and at most LO.
pub record LawfulFigures (f : Figures) : Type 0 where
  pub span : 1 ≤ f.nominal.span
  pub spans : f.nominal.span ≤ f.overload.span

-- S2.7, S2.11, S2.12 and S2.13: there is a node; the figures keep their rules, a low task's CN equals its CO; the task
-- is heavy; each predecessor of a node has a lower number.
pub record LawfulTask (t : Task) : Type 0 where
  pub nodes : 1 ≤ t.nodes
  pub figures : LawfulFigures t.figures
  pub low : is_low t.level ≡ true → t.figures.nominal.work ≡ t.figures.overload.work
  pub heavy : t.figures.deadline < t.figures.overload.work
  pub masks : (v : ℕ) → v < t.nodes → predecessors_of t.predecessors v < 2 ^ v

-- S4.2: a high task's pair passes, and 1 ≤ a ≤ b.
pub record PassingPair (f : Figures) (s : Share) : Type 0 where
  pub positive : 1 ≤ s.typical
  pub ordered : s.typical ≤ s.critical
  pub passing : passes f s.typical s.critical ≡ true

-- S4.1: a low task has its typical share, and so LN is below D. S5.6: a critical share above 0 is the same.
pub record LowPair (f : Figures) (s : Share) : Type 0 where
  pub room : f.nominal.span < f.deadline
  pub typical : s.typical ≡ low_share f
  pub critical : 0 < s.critical → s.critical ≡ s.typical

-- S5.1 and S5.2: what is assumed of a task set and its shares. There is a pair for each task; each task keeps the
-- sheet's rules; a high task's pair passes and a low task has its share; and in each mode the shares total at most M.
pub record Planned (ts : TaskSet) (shares : List Share) : Type 0 where
  pub tasks : ts.count ≤ length ts.tasks
  pub each : length shares ≡ ts.count
  pub lawful : (i : ℕ) → i < ts.count → LawfulTask (task_in ts i)
  pub high : (i : ℕ) → i < ts.count → is_high (task_in ts i).level ≡ true → PassingPair (task_in ts i).figures (share_at shares i)
  pub low : (i : ℕ) → i < ts.count → is_low (task_in ts i).level ≡ true → LowPair (task_in ts i).figures (share_at shares i)
  pub fits : (critical : Bool) → share_total critical shares ≤ ts.processors
