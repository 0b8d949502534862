-- S2.1 to S2.6: where each number of a sheet stands, over the list of its bytes.
use Rattle.std.specs.Prelude.{ℕ, zero, suc, ◌+◌, ◌*◌, Bool, cond, List, [], get_or, replicate}
use Rattle.basics.specs.Lists.{cells}
use Rattle.basics.specs.Numbers.{byte_at, u16_at, u32_at}
use Rattle.sheet.specs.declared.task.Figures.{Figures}
use Rattle.sheet.specs.declared.task.Task.{Task}
use Rattle.sheet.specs.declared.task.TaskSet.{TaskSet}
use Rattle.sheet.specs.Level.{is_wide, bytes_before_masks}

-- S2.1: M, the number of processors.
unfoldable pub processors_of : List ℕ → ℕ
processors_of s = byte_at s 0

-- S2.2: n, the number of tasks.
unfoldable pub count_of : List ℕ → ℕ
count_of s = byte_at s 1

-- S2.3: where task i's record begins, by the directory.
unfoldable pub offset_of : List ℕ → ℕ → ℕ
offset_of s i = u16_at s (2 + 4 * i)

-- S2.3: the length of task i's record, by the directory.
unfoldable pub length_of : List ℕ → ℕ → ℕ
length_of s i = u16_at s (4 + 4 * i)

-- S2.4: where task i's record has to begin: the first behind the directory, each other one at the end of the one
-- before it. For i = n it is the end of the last record.
unfoldable pub place_of : List ℕ → ℕ → ℕ
place_of s zero = 2 + 4 * count_of s
place_of s (suc i) = offset_of s i + length_of s i

-- S2.6: the level, in the record that begins at a place.
unfoldable pub level_at : List ℕ → ℕ → ℕ
level_at s at = byte_at s at

-- S2.6: k, the number of nodes.
unfoldable pub nodes_at : List ℕ → ℕ → ℕ
nodes_at s at = byte_at s (at + 1)

-- S2.6: figure i of the five, four bytes in the wide form and two in the other, in the record that begins at a place.
unfoldable pub figure_at : Bool → List ℕ → ℕ → ℕ → ℕ
figure_at wide s at i = cond wide (u32_at s (at + 2 + 4 * i)) (u16_at s (at + 2 + 2 * i))

-- S2.6: the five figures. Works stand before spans, and of each the nominal one first.
unfoldable pub figures_at : List ℕ → ℕ → Figures
figures_at s at =
    let wide = is_wide (level_at s at) in
    record {
      deadline = figure_at wide s at 0;
      nominal = record { work = figure_at wide s at 1; span = figure_at wide s at 3 };
      overload = record { work = figure_at wide s at 2; span = figure_at wide s at 4 };
    }

-- S2.6: the masks that begin at a place, one of each of k nodes, and 0 for the nodes from k on.
unfoldable pub masks_at : List ℕ → ℕ → ℕ → List ℕ
masks_at s at k = cells 32 (λ v. u32_at s (at + 4 * v)) 0 k

-- S2.6: the task whose record begins at a place.
unfoldable pub task_at : List ℕ → ℕ → Task
task_at s at =
    record {
      level = level_at s at;
      nodes = nodes_at s at;
      figures = figures_at s at;
      predecessors = masks_at s (at + bytes_before_masks (level_at s at)) (nodes_at s at);
    }

-- Figures of zeros.
abbrev pub no_figures : Figures
no_figures =
    record {
      deadline = 0;
      nominal = record { work = 0; span = 0 };
      overload = record { work = 0; span = 0 };
    }

-- A task of zeros, which stands in the place of one that is not there.
unfoldable pub zero_task : Task
zero_task = record { level = 0; nodes = 0; figures = no_figures; predecessors = replicate 32 0 }

-- S2.5: the first count tasks in the order of the directory, and zeros in the place of the others.
unfoldable pub tasks_below : List ℕ → ℕ → List Task
tasks_below s count = cells 16 (λ i. task_at s (offset_of s i)) zero_task count

-- S2: what the whole sheet says.
unfoldable pub task_set_of : List ℕ → TaskSet
task_set_of s =
    record {
      processors = processors_of s;
      count = count_of s;
      tasks = tasks_below s (count_of s);
    }

-- S3.5: a task set of zeros, which a refused reading gives.
unfoldable pub zero_task_set : TaskSet
zero_task_set = record { processors = 0; count = 0; tasks = replicate 16 zero_task }

-- What stands for a task where a list has none.
abbrev pub missing_task : Task
missing_task = record { level = 0; nodes = 0; figures = no_figures; predecessors = [] }

-- Task i of a task set.
unfoldable pub task_in : TaskSet → ℕ → Task
task_in set i = get_or set.tasks i missing_task
