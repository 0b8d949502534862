-- What the exported functions say of a reading, as numbers.
use Rattle.std.specs.Prelude.{ℕ, cond, List, [], ◌∷◌, ltb, eqb, get_or}
use Rattle.sheet.specs.declared.task.Task.{Task}
use Rattle.sheet.specs.declared.task.TaskSet.{TaskSet}
use Rattle.sheet.specs.Format.{task_in}

-- S2.6: the fields of a task in order: level, k, D, CN, LN, CO, LO, and the 32 masks.
unfoldable pub task_fields : Task → List ℕ
task_fields t =
    t.level
    ∷ t.nodes
    ∷ t.figures.deadline
    ∷ t.figures.nominal.work
    ∷ t.figures.nominal.span
    ∷ t.figures.overload.work
    ∷ t.figures.overload.span
    ∷ t.predecessors

-- S2.1, S2.2: the fields of the whole sheet: M and n.
unfoldable pub sheet_fields : TaskSet → List ℕ
sheet_fields set = set.processors ∷ set.count ∷ []

-- Field `field` of task `task`; for task 16, of the whole sheet; 0 where there is none.
unfoldable pub field_of : TaskSet → ℕ → ℕ → ℕ
field_of set task field =
    cond (ltb task 16) (get_or (task_fields (task_in set task)) field 0)
    (cond (eqb task 16) (get_or (sheet_fields set) field 0) 0)
