-- S2 and S5 as facts: what the tasks of an accepted sheet keep, and their shares.
use Rattle.std.specs.Prelude.{ℕ, ◌≤◌, ◌<◌, ◌≡◌, Bool, true, false, List, length}
use Rattle.sheet.specs.declared.task.Figures.{Figures}
use Rattle.sheet.specs.declared.task.Task.{Task}
use Rattle.sheet.specs.declared.task.TaskSet.{TaskSet}
use Rattle.sheet.specs.Format.{task_in}
use Rattle.basics.specs.Numbers.{within}
use Rattle.sheet.specs.Level.{level_lawful, is_low}
use Rattle.sheet.specs.Rules.{figures_lawful, masks_lawful, is_heavy}
use Rattle.shares.specs.declared.share.Share.{Share}
use Rattle.shares.specs.Deadline.{virtual_deadline_of}
use Rattle.shares.specs.Low.{low_share, has_low_share}
use Rattle.shares.specs.Totals.{share_at, share_total}
use Rattle.allocation.specs.Way.{HighPair}

-- S2.7 and S2.9 to S2.13: what is asked of one task, refusals 3 to 6.
pub record LawfulTask (t : Task) : Type 0 where
  pub level : level_lawful t.level ≡ true
  pub nodes : within 1 32 t.nodes ≡ true
  pub figures : figures_lawful t.level t.figures ≡ true
  pub masks : masks_lawful t.predecessors t.nodes ≡ true
  pub heavy : is_heavy t.figures ≡ true

-- S2.1 and S2.2: the ranges of M and n; there are sixteen places for tasks, and each of the n tasks is lawful.
pub record LawfulSet (set : TaskSet) : Type 0 where
  pub some_processors : 1 ≤ set.processors
  pub few_processors : set.processors ≤ 64
  pub some_tasks : 1 ≤ set.count
  pub few_tasks : set.count ≤ 16
  pub all_there : length set.tasks ≡ 16
  pub lawful : (i : ℕ) → i < set.count → LawfulTask (task_in set i)

-- S4.1 and S5.6: a low task has its share, and a critical share above 0 is the same.
pub record KeptPair (M : ℕ) (f : Figures) (s : Share) : Type 0 where
  pub has : has_low_share M f ≡ true
  pub typical : s.typical ≡ low_share f
  pub critical : 0 < s.critical → s.critical ≡ s.typical

-- S4, S5.2 and S5.6: there is a share for each task, in each mode they total at most M, a high task's pair passes and a
-- low task has its share; each task has a processor in typical mode, and V is at most D.
pub record LawfulShares (set : TaskSet) (shares : List Share) : Type 0 where
  pub each : length shares ≡ set.count
  pub fits : (mode : Bool) → share_total mode shares ≤ set.processors
  pub high : (i : ℕ) → i < set.count → is_low (task_in set i).level ≡ false →
      HighPair set.processors (task_in set i).figures (share_at shares i)
  pub low : (i : ℕ) → i < set.count → is_low (task_in set i).level ≡ true →
      KeptPair set.processors (task_in set i).figures (share_at shares i)
  pub some_share : (i : ℕ) → i < set.count → 1 ≤ (share_at shares i).typical
  pub virtual : (i : ℕ) → i < set.count → virtual_deadline_of (task_in set i) (share_at shares i).typical ≤ (task_in set i).figures.deadline
