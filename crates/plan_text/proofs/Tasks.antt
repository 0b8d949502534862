-- The lines of the tasks from task i on: all of them, those after the first, and none.
use Prim.Native.Nat.{ℕ, suc, ◌+◌, ◌-◌, ◌≤◌, ◌<◌}
use mathlib.Core.List.{List, [], ◌++◌}
use mathlib.Core.Path.{◌≡◌}
use native.Mathlib.Numerals.{add-one}
use native.Mathlib.Omega.{arith}
use Rattle.std.specs.Prelude.{flat_map}
use Rattle.basics.specs.Lists.{range}
use Rattle.allocation.specs.declared.allocate.Allocation.{Allocation}
use Rattle.allocation.specs.Allocation.{allocation_at}
use Rattle.plan_text.specs.Lines.{line}
use Rattle.plan_text.specs.Printed.{fields_of, plan_lines}

module _ (n : ℕ) (allocations : List Allocation) where
  pub lines_from : ℕ → List ℕ
  lines_from i = flat_map (λ j. line (fields_of j (allocation_at allocations j))) (range i (n - i))

  pub lines_all : lines_from 0 ≡ plan_lines n allocations
  unfolding lines_from plan_lines
  lines_all =
      let all : n - 0 ≡ n = omega arith in
      rw all

  pub lines_step : (i : ℕ) → i < n → lines_from i ≡ line (fields_of i (allocation_at allocations i)) ++ lines_from (i + 1)
  unfolding lines_from range
  lines_step i h =
      let left : n - i ≡ suc (n - (i + 1)) = omega arith in
      rw (left, add-one i)

  pub lines_none : (i : ℕ) → n ≤ i → lines_from i ≡ []
  unfolding lines_from range
  lines_none i h =
      let none : n - i ≡ 0 = omega arith in
      rw none
