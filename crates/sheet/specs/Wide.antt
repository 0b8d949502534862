-- S2.14: tasks in the wide form; and what the level of a record says that is not wide.
use Rattle.std.specs.Prelude.{ℕ, ◌+◌, ◌*◌, true, false, cond, List, ◌≡◌, leb, eqb}
use Rattle.basics.specs.Lists.{cells}
use Rattle.basics.specs.Numbers.{u16_at, u16_bytes}
use Rattle.sheet.specs.declared.task.Task.{Task}
use Rattle.sheet.specs.declared.task.TaskSet.{TaskSet}
use Rattle.sheet.specs.Level.{level_lawful, is_high, is_wide, figure_limit, bytes_before_masks}
use Rattle.sheet.specs.Format.{level_at, figure_at, task_in, zero_task}
use Rattle.sheet.specs.Encoding.{figure_bytes}

-- S2.14: the level in the wide form: 16 more, unless it is wide already.
unfoldable pub wide_level : ℕ → ℕ
wide_level level = cond (is_wide level) level (level + 16)

-- S2.14: a task in the wide form. All but its level stays.
unfoldable pub wide_task : Task → Task
wide_task t =
    record { level = wide_level t.level; nodes = t.nodes; figures = t.figures; predecessors = t.predecessors }

-- S2.14: a task set with each of its tasks in the wide form.
unfoldable pub wide_set : TaskSet → TaskSet
wide_set set =
    record {
      processors = set.processors;
      count = set.count;
      tasks = cells 16 (λ i. wide_task (task_in set i)) zero_task set.count;
    }

-- What a level says that is not wide, and so of every sheet without a wide record: 0 is low and 1 is high, figures of
-- two bytes are at most 10,000, and 12 bytes stand before the masks.
pub record Narrow (level : ℕ) : Type 0 where
  pub lawful : level_lawful level ≡ leb level 1
  pub high : is_high level ≡ eqb level 1
  pub limit : figure_limit level ≡ 10000
  pub before_masks : bytes_before_masks level ≡ 12
  pub read : (s : List ℕ) (at i : ℕ) → level_at s at ≡ level → figure_at (is_wide (level_at s at)) s at i ≡ u16_at s (at + 2 + 2 * i)
  pub written : (x : ℕ) → figure_bytes (is_wide level) x ≡ u16_bytes x

-- This holds of each level that is not wide.
unfoldable pub NarrowLevels : Type 0
NarrowLevels = (level : ℕ) → is_wide level ≡ false → Narrow level

-- S2.14: the wide form of a level is wide, and it is high, or lawful, where the level itself is.
pub record WideLevel (level : ℕ) : Type 0 where
  pub wide : is_wide (wide_level level) ≡ true
  pub high : is_high (wide_level level) ≡ is_high level
  pub lawful : level_lawful (wide_level level) ≡ level_lawful level

-- This holds of each level.
unfoldable pub WideLevels : Type 0
WideLevels = (level : ℕ) → WideLevel level
