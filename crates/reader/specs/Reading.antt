-- What a list of bytes is as a sheet: refusals 1 to 6 in their order, and the task set where none of them holds.
use Rattle.std.specs.Prelude.{ℕ, ◌+◌, ◌*◌, ◌-◌, Bool, ◌&&◌, not, List, leb, eqb, length, Result, Ok, Err}
use Rattle.sheet.specs.declared.refusal.Refusal.{Refusal}
use Rattle.sheet.specs.declared.refusal.Refusal.TheVariants.{BadHeader, BadPlace, BadRecord}
use Rattle.sheet.specs.declared.task.TaskSet.{TaskSet}
use Rattle.sheet.specs.Refusal.{Answer, refused_if, ◌or_else◌, first_over}
use Rattle.sheet.specs.Format.{processors_of, count_of, offset_of, length_of, level_at, nodes_at, task_at, task_set_of, zero_task_set, place_of}
use Rattle.basics.specs.Numbers.{within}
use Rattle.sheet.specs.Rules.{shape_lawful, task_answer}

-- S2.1, S2.2, S9.1: M and n are there and in their ranges, and so is the directory.
unfoldable pub header_lawful : List ℕ → Bool
header_lawful s =
    leb 2 (length s)
    && within 1 64 (processors_of s)
    && within 1 16 (count_of s)
    && leb (2 + 4 * count_of s) (length s)

-- S9.1.
unfoldable pub header_answer : List ℕ → Answer
header_answer s = refused_if (not (header_lawful s)) BadHeader

-- S9.2, for task i: its record does not begin where it has to.
unfoldable pub place_answer : List ℕ → ℕ → Answer
place_answer s i = refused_if (not (eqb (offset_of s i) (place_of s i))) (BadPlace i)

-- S9.2, for the end: the last record does not end with the sheet, a fault of the last task.
unfoldable pub end_answer : List ℕ → Answer
end_answer s = refused_if (not (eqb (place_of s (count_of s)) (length s))) (BadPlace (count_of s - 1))

-- S9.3, for task i.
unfoldable pub shape_answer : List ℕ → ℕ → Answer
shape_answer s i =
    refused_if (not (shape_lawful (level_at s (offset_of s i)) (nodes_at s (offset_of s i)) (length_of s i))) (BadRecord i)

-- S3.3: refusals 3 to 6 of task i. The record is read as a task only where 3 does not hold.
unfoldable pub record_answer : List ℕ → ℕ → Answer
record_answer s i = shape_answer s i or_else task_answer (task_at s (offset_of s i)) i

-- S3.3: the header; the place of each record and then the end; and then each task's record.
unfoldable pub read_answer : List ℕ → Answer
read_answer s =
    header_answer s
    or_else first_over (place_answer s) 0 (count_of s)
    or_else end_answer s
    or_else first_over (record_answer s) 0 (count_of s)

-- S2, S3: what the reader makes of a list of bytes: the first refusal, or the sheet's task set.
unfoldable pub read_of : List ℕ → Result TaskSet Refusal
read_of s = read_answer s or_else Ok (task_set_of s)

-- S3.5: the task set that a reading leaves: zeros where it is refused.
abbrev pub set_of : Result TaskSet Refusal → TaskSet
set_of (Ok set) = set
set_of (Err r) = zero_task_set
