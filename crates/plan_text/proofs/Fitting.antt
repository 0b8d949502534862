-- What is printed fits an empty text: the lines of tasks whose blocks, V and remainders are small, and the line of a
-- refusal.
use Rattle.std.proofs.Common.{◌≡◌, ◌+◌, ◌<◌, ◌≤◌, ℕ, List, [], ◌∷◌, ◌++◌, sym, ◌∙◌}
use Rattle.std.specs.Prelude.{Ok}
use Rattle.allocation.specs.declared.allocate.Allocation.{Allocation}
use Rattle.allocation.specs.declared.allocate.Allocated.{Allocated}
use Rattle.allocation.specs.Allocation.{allocation_at, allocated_of}
use Rattle.allocation.specs.means.Bounds.{AllBounded}
use Rattle.allocation.proofs.Allocations.{allocated_ok, allocated_bounded}
use Rattle.plan_text.specs.Lines.{line}
use Rattle.plan_text.specs.Printed.{fields_of, plan_lines, refused_word, refusal_line}
use Rattle.plan_text.specs.means.Growth.{with_bytes}
use Rattle.plan_text.proofs.Growths.{with_both, from_empty}
use Rattle.plan_text.proofs.Lengths.{lines_length, refusal-length}
use Rattle.plan_text.proofs.Tasks.{lines_from, lines_step, lines_none}

-- A task's line, and then those of the tasks after it.
pub plan_step : (t : List ℕ) (n : ℕ) (allocations : List Allocation) (i : ℕ) → i < n →
    with_bytes (with_bytes t (line (fields_of i (allocation_at allocations i)))) (lines_from n allocations (i + 1))
    ≡ with_bytes t (lines_from n allocations i)
plan_step t n allocations i h =
    rw (lines_step n allocations i h)
    (with_both t (line (fields_of i (allocation_at allocations i))) (lines_from n allocations (i + 1)))

-- No task is left.
pub plan_done : (t : List ℕ) (n : ℕ) (allocations : List Allocation) (i : ℕ) → n ≤ i → AllBounded allocations n →
    with_bytes t (lines_from n allocations i) ≡ with_bytes [] (plan_lines n allocations) → t ≡ plan_lines n allocations
plan_done t n allocations i past small e =
    (rw (lines_none n allocations i past) at e) ∙ from_empty (plan_lines n allocations) (lines_length n allocations small)

-- The word, and then the number and the task.
pub refusal_whole : (number task : ℕ) → number < 256 → task < 256 →
    with_bytes (with_bytes [] refused_word) (line (number ∷ task ∷ [])) ≡ refusal_line number task
unfolding refusal_line
refusal_whole number task h g =
    with_both [] refused_word (line (number ∷ task ∷ []))
    ∙ from_empty (refused_word ++ line (number ∷ task ∷ [])) (refusal-length number task h g)

-- What is fixed for a sheet is small.
pub fixed_bounded : (s : List ℕ) (a : Allocated) → Ok a ≡ allocated_of s → AllBounded a.allocations a.count
fixed_bounded s a e =
    let p = allocated_ok s (sym e) in
    rw p.1 (allocated_bounded s p.0)
