-- S5.5 and S9.9: the plan of a sheet, its bytes, and refusal 9 after those of the reader and of the choice.
use Rattle.std.specs.Prelude.{ℕ, ◌*◌, Bool, true, false, cond, List, [], ◌∷◌, ◌++◌, ltb, length, flat_map}
use Rattle.sheet.specs.declared.refusal.Refusal.TheVariants.{ShortBuffer}
use Rattle.sheet.specs.Refusal.{Answer, refused_if, ◌or_else◌, written_if}
use Rattle.sheet.specs.Format.{task_set_of}
use Rattle.shares.specs.Totals.{share_in}
use Rattle.basics.specs.Numbers.{u32_bytes}
use Rattle.basics.specs.Lists.{range}
use Rattle.allocation.specs.declared.allocate.Offset.{Offset}
use Rattle.allocation.specs.declared.allocate.Allocation.{Allocation}
use Rattle.allocation.specs.Allocation.{allocation_at, allocation_answer, allocations_for}

-- S5.4: where a task's block begins in a mode, the critical one or the typical one.
abbrev pub begin_in : Bool → Offset → ℕ
begin_in critical o = cond critical o.critical o.typical

-- S5.5: a task's block in a mode: its offset and its length.
abbrev pub block_of : Bool → Allocation → List ℕ
block_of mode a = begin_in mode a.offset ∷ share_in mode a.share ∷ []

-- S5.5: the blocks of n tasks in a mode.
unfoldable pub block_bytes : Bool → ℕ → List Allocation → List ℕ
block_bytes mode n allocations = flat_map (λ i. block_of mode (allocation_at allocations i)) (range 0 n)

-- S5.5: V of n tasks, four bytes for each.
unfoldable pub virtual_bytes : ℕ → List Allocation → List ℕ
virtual_bytes n allocations = flat_map (λ i. u32_bytes (allocation_at allocations i).virtual_deadline) (range 0 n)

-- S5.5: the remainders of n tasks, a byte for each.
unfoldable pub remainder_bytes : ℕ → List Allocation → List ℕ
remainder_bytes n allocations = flat_map (λ i. (allocation_at allocations i).remainder ∷ []) (range 0 n)

-- S5.5: the typical blocks, the critical blocks, the virtual deadlines and the remainders of n tasks, one behind the
-- other: 9n bytes.
unfoldable pub plan_bytes : ℕ → List Allocation → List ℕ
plan_bytes n allocations =
    block_bytes false n allocations
    ++ block_bytes true n allocations
    ++ virtual_bytes n allocations
    ++ remainder_bytes n allocations

-- S3.3: the refusals of the allocation, and then refusal 9, for a sheet and the length of the buffer.
unfoldable pub plan_answer : List ℕ → ℕ → Answer
plan_answer s room =
    allocation_answer s
    or_else refused_if (ltb room (9 * (task_set_of s).count)) ShortBuffer

-- S5.5: the buffer after the call.
unfoldable pub planned : List ℕ → List ℕ → List ℕ
planned s buffer =
    written_if (plan_answer s (length buffer)) (plan_bytes (task_set_of s).count (allocations_for s)) buffer
