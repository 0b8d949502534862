-- S14.6 and S14.7: the task that a graph becomes under the terms of an import.
use Rattle.std.specs.Prelude.{ℕ, ◌+◌, ◌*◌, ◌/◌, Bool, ◌&&◌, ◌||◌, eqb, leb}
use Rattle.basics.specs.Numbers.{within}
use Rattle.sheet.specs.declared.task.Figures.{Figures}
use Rattle.sheet.specs.declared.task.Task.{Task}
use Rattle.sheet.specs.Level.{is_high}
use Rattle.graph_text.specs.Graph.{Graph, time_of, masks_of}
use Rattle.chains.specs.Chains.{budget_of}
use Rattle.importer.specs.declared.terms.Terms.{Terms}

-- S14.6: the level is low, 0, or high, 1; the percentage is from 100 to 400, and 100 for a low task.
unfoldable pub terms_lawful : Terms → Bool
terms_lawful t =
    leb t.level 1
    && within 100 400 t.percentage
    && (is_high t.level || eqb t.percentage 100)

-- S14.6: a time by a percentage, rounded up.
unfoldable pub scaled : ℕ → ℕ → ℕ
scaled percentage time = (time * percentage + 99) / 100

-- S14.6: the overload time of node v.
unfoldable pub overload_time_of : Graph → ℕ → ℕ → ℕ
overload_time_of g percentage v = scaled percentage (time_of g v)

-- S14.7: the five figures: the deadline as it is asked, and the budgets of the nominal and of the overload times.
unfoldable pub figures_of : Graph → Terms → Figures
figures_of g t =
    record {
      deadline = t.deadline;
      nominal = budget_of (masks_of g) (time_of g) g.count;
      overload = budget_of (masks_of g) (overload_time_of g t.percentage) g.count;
    }

-- S14.7: the task.
unfoldable pub task_from : Graph → Terms → Task
task_from g t =
    record { level = t.level; nodes = g.count; figures = figures_of g t; predecessors = masks_of g }
