-- S2.14: a sheet and its wide form. Both are read to the same tasks but for the level, and the planner fixes the same
-- for them.
use Rattle.std.specs.Prelude.{ℕ, ◌-◌, ◌<◌, true, List, ◌≡◌, ltb, length, drop, replicate, Ok}
use Rattle.std.specs.List.{list_all}
use Rattle.sheet.specs.declared.task.TaskSet.{TaskSet}
use Rattle.sheet.specs.Format.{task_in, zero_task, task_set_of}
use Rattle.sheet.specs.Encoding.{sheet_bytes}
use Rattle.sheet.specs.Wide.{wide_set}
use Rattle.reader.specs.Reading.{read_of, read_answer}
use Rattle.allocation.specs.Lawful.{LawfulSet}
use Rattle.allocation.specs.Allocation.{allocated_of}

-- A task set whose unused places hold zeros: each task has 32 masks, those from k on 0, and zeros stand behind the last
-- task.
pub record Padded (set : TaskSet) : Type 0 where
  pub masks : (i : ℕ) → i < set.count → length (task_in set i).predecessors ≡ 32
  pub masks_none : (i : ℕ) → i < set.count →
      drop (task_in set i).nodes (task_in set i).predecessors ≡ replicate (32 - (task_in set i).nodes) 0
  pub tasks_none : drop set.count set.tasks ≡ replicate (16 - set.count) zero_task

-- S2: a lawful task set that is written as a sheet is read as it is.
unfoldable pub SheetRead : Type 0
SheetRead = (set : TaskSet) → LawfulSet set → Padded set → read_of (sheet_bytes set) ≡ Ok set

-- S2: a sheet that the reader accepts is what is written of its task set, byte by byte.
unfoldable pub SheetAgain : Type 0
SheetAgain = (s : List ℕ) → list_all (λ b. ltb b 256) s ≡ true → read_answer s ≡ Ok tt → sheet_bytes (task_set_of s) ≡ s

-- S2.14: the wide form of a sheet: what is written of its task set with each task in the wide form.
unfoldable pub wide_form : List ℕ → List ℕ
wide_form s = sheet_bytes (wide_set (task_set_of s))

-- S2.14: the wide form of an accepted sheet is accepted, and read to the same tasks but for the level.
unfoldable pub WideRead : Type 0
WideRead =
    (s : List ℕ) → read_answer s ≡ Ok tt → read_of (wide_form s) ≡ Ok (wide_set (task_set_of s))

-- S2.14: for both the planner has the same answer, 7 and 8 among them, and fixes the same shares, blocks, V and
-- remainders.
unfoldable pub WideAllocated : Type 0
WideAllocated = (s : List ℕ) → read_answer s ≡ Ok tt → allocated_of (wide_form s) ≡ allocated_of s
