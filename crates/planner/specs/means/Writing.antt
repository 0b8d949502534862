-- What only the writing of a plan needs: that a task's bytes fit the buffer, and where they go.
use Rattle.std.specs.Prelude.{ℕ, ◌+◌, ◌*◌, ◌≤◌, ◌<◌, true, false, List, [], ◌∷◌}
use Rattle.std.proofs.lemmas.List.Edits.{sets}
use Rattle.basics.specs.Numbers.{u32_bytes}
use Rattle.allocation.specs.declared.allocate.Allocation.{Allocation}
use Rattle.planner.specs.Plan.{block_of}

-- Task i of n has its place in a buffer that holds their plan.
pub record TaskFits (n i room : ℕ) : Type 0 where
  pub known : i < n
  pub few : n ≤ 16
  pub inside : 9 * n ≤ room

-- A buffer with the bytes of task i in the four parts of a plan of n tasks.
unfoldable pub with_task : ℕ → ℕ → Allocation → List ℕ → List ℕ
with_task n i a buffer =
    let typical = sets buffer (2 * i) (block_of false a) in
    let critical = sets typical (2 * n + 2 * i) (block_of true a) in
    let virtuals = sets critical (4 * n + 4 * i) (u32_bytes a.virtual_deadline) in
    sets virtuals (8 * n + i) (a.remainder ∷ [])
