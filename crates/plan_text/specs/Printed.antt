-- S6.1, S6.2: what is printed for a sheet, a line for each task or the line of a refusal.
use Rattle.std.specs.Prelude.{ℕ, cond, List, [], ◌∷◌, ◌++◌, leb, length, drop, unwrap_or, Result, Ok, Err, flat_map}
use Rattle.sheet.specs.declared.refusal.Refusal.{Refusal}
use Rattle.sheet.specs.Refusal.{number, task, no_task}
use Rattle.basics.specs.Lists.{range}
use Rattle.allocation.specs.declared.allocate.Allocation.{Allocation}
use Rattle.allocation.specs.declared.allocate.Allocated.{Allocated}
use Rattle.allocation.specs.Allocation.{allocation_at, allocated_of}
use Rattle.plan_text.specs.Lines.{blank, line}

-- S6.1: the seven numbers of task i: itself, its block in the typical and in the critical mode (where it begins, and
-- its length; S5.4), V (S4.5) and the remainder (S4.6).
unfoldable pub fields_of : ℕ → Allocation → List ℕ
fields_of i a =
    i
    ∷ a.offset.typical
    ∷ a.share.typical
    ∷ a.offset.critical
    ∷ a.share.critical
    ∷ a.virtual_deadline
    ∷ a.remainder
    ∷ []

-- S6.1: a line for each of n tasks, in their order.
unfoldable pub plan_lines : ℕ → List Allocation → List ℕ
plan_lines n allocations = flat_map (λ i. line (fields_of i (allocation_at allocations i))) (range 0 n)

-- S6.2: the bytes of `refused` and of a blank.
abbrev pub refused_word : List ℕ
refused_word = 114 ∷ 101 ∷ 102 ∷ 117 ∷ 115 ∷ 101 ∷ 100 ∷ blank ∷ []

-- S6.2: the word, and then the number and the task of a refusal.
unfoldable pub refusal_line : ℕ → ℕ → List ℕ
refusal_line number task = refused_word ++ line (number ∷ task ∷ [])

-- S6.1, S6.2: the lines of the tasks, or the line of the refusal; 255 stands where it names no task.
abbrev pub lines_for : Result Allocated Refusal → List ℕ
lines_for (Ok a) = plan_lines a.count a.allocations
lines_for (Err r) = refusal_line (number r) (unwrap_or (task r) no_task)

-- S6.1, S6.2: what is printed for the bytes of a sheet: what is fixed for its tasks, or the first cause of 1 to 8
-- (S3.3). Refusal 9 has none here: a printed plan is written to no buffer of the caller's.
unfoldable pub text_of : List ℕ → List ℕ
text_of s = lines_for (allocated_of s)

-- A buffer with a text at its front, where it has room for the whole text; otherwise as it was.
unfoldable pub written_to : List ℕ → List ℕ → List ℕ
written_to buffer text = cond (leb (length text) (length buffer)) (text ++ drop (length text) buffer) buffer
