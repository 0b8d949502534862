-- Written: the bytes that the format reads a task and a sheet from.
use Rattle.std.specs.Prelude.{ℕ, zero, suc, ◌+◌, ◌*◌, Bool, cond, List, [], ◌∷◌, ◌++◌, length, take, flat_map}
use Rattle.basics.specs.Numbers.{u16_bytes, u32_bytes}
use Rattle.sheet.specs.declared.task.Task.{Task}
use Rattle.sheet.specs.declared.task.TaskSet.{TaskSet}
use Rattle.sheet.specs.Level.{is_wide}

-- S2.6: a figure, in four bytes in the wide form and in two in the other.
unfoldable pub figure_bytes : Bool → ℕ → List ℕ
figure_bytes wide x = cond wide (u32_bytes x) (u16_bytes x)

-- S2.6: the masks of the first k nodes.
unfoldable pub masks_bytes : ℕ → List ℕ → List ℕ
masks_bytes zero masks = []
masks_bytes (suc k) [] = []
masks_bytes (suc k) (mask ∷ masks) = u32_bytes mask ++ masks_bytes k masks

-- S2.6: a task's record, part by part.
unfoldable pub record_bytes : Task → List ℕ
record_bytes t =
    let wide = is_wide t.level in
    t.level
    ∷ t.nodes
    ∷ figure_bytes wide t.figures.deadline
    ++ figure_bytes wide t.figures.nominal.work
    ++ figure_bytes wide t.figures.overload.work
    ++ figure_bytes wide t.figures.nominal.span
    ++ figure_bytes wide t.figures.overload.span
    ++ masks_bytes t.nodes t.predecessors

-- S2.3: the directory of tasks whose first record begins at a place: for each task where its record begins, and its
-- length.
unfoldable pub directory_bytes : ℕ → List Task → List ℕ
directory_bytes place [] = []
directory_bytes place (t ∷ tasks) =
    u16_bytes place
    ++ u16_bytes (length (record_bytes t))
    ++ directory_bytes (place + length (record_bytes t)) tasks

-- S2.1 to S2.5: the sheet of a task set: M, n, the directory, and the records one behind the other.
unfoldable pub sheet_bytes : TaskSet → List ℕ
sheet_bytes set =
    let tasks = take set.count set.tasks in
    set.processors ∷ set.count ∷ directory_bytes (2 + 4 * set.count) tasks ++ flat_map record_bytes tasks
