-- The masks of a record and the tasks of a sheet, read one after the other.
use Prim.Native.Nat.{ℕ, ◌<◌, ◌+◌, ◌*◌}
use mathlib.Core.List.{List}
use mathlib.Core.Path.{◌≡◌, sym}
use native.Mathlib.Omega.{arith}
use lib.ListN.{set, replicate}
use Rattle.basics.specs.Numbers.{u32_at}
use Rattle.basics.proofs.Cells.{cells_none, cells_store}
use Rattle.sheet.specs.Format.{masks_at, task_at, offset_of, tasks_below, zero_task}

-- The masks of a record, read one after the other.
module _ (s : List ℕ) (at : ℕ) where
  pub masks_none : replicate 32 0 ≡ masks_at s at 0
  unfolding masks_at
  masks_none = sym (cells_none (λ v. u32_at s (at + 4 * v)) 0 0 32 0 (omega arith))

  pub masks_store : (v : ℕ) → v < 32 → set (masks_at s at v) v (u32_at s (at + 4 * v)) ≡ masks_at s at (v + 1)
  unfolding masks_at
  masks_store v h = cells_store (λ v. u32_at s (at + 4 * v)) 0 32 v h

-- The tasks of a sheet, read one after the other.
module _ (s : List ℕ) where
  pub tasks_none : replicate 16 zero_task ≡ tasks_below s 0
  unfolding tasks_below
  tasks_none = sym (cells_none (λ i. task_at s (offset_of s i)) zero_task 0 16 0 (omega arith))

  pub tasks_store : (i : ℕ) → i < 16 → set (tasks_below s i) i (task_at s (offset_of s i)) ≡ tasks_below s (i + 1)
  unfolding tasks_below
  tasks_store i h = cells_store (λ i. task_at s (offset_of s i)) zero_task 16 i h
