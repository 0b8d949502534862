-- The parts of a plan, task after task: the bytes of one more task stand behind those of the tasks before it.
use Prim.Native.Nat.{ℕ, ◌+◌, ◌*◌}
use mathlib.Core.Path.{◌≡◌, refl, sym, ap, ◌∙◌}
use mathlib.Core.Bool.{Bool}
use mathlib.Core.List.{List, [], ◌∷◌}
use native.Mathlib.Omega.{arith}
use lib.ListN.{length}
use lib.Seq.{sets}
use Rattle.std.specs.Prelude.{flat_map}
use Rattle.basics.specs.Numbers.{u32_bytes}
use Rattle.basics.specs.Lists.{range}
use Rattle.basics.proofs.Bytes.{sets-append}
use Rattle.allocation.specs.declared.allocate.Allocation.{Allocation}
use Rattle.allocation.specs.Allocation.{allocation_at}
use Rattle.planner.specs.Plan.{block_of, block_bytes, virtual_bytes, remainder_bytes}
use Rattle.planner.proofs.Bytes.{flat_map_next, part_length}

-- The bytes of task i behind those of i tasks.
part_more : (f : ℕ → List ℕ) (width : ℕ) → ((i : ℕ) → length (f i) ≡ width) → (old : List ℕ) (from i place : ℕ) →
    place ≡ from + width * i → sets (sets old from (flat_map f (range 0 i))) place (f i) ≡ sets old from (flat_map f (range 0 (i + 1)))
part_more f width same old from i place here =
    let so_far : from + length (flat_map f (range 0 i)) ≡ place = omega (arith, part_length f width same i, here) in
    rw (← so_far) (sym (sets-append old from (flat_map f (range 0 i)) (f i)) ∙ ap (λ (l : List ℕ). sets old from l) (sym (flat_map_next f i)))

module _ (allocations : List Allocation) where
  module _ (mode : Bool) where
    pub blocks-length : (n : ℕ) → length (block_bytes mode n allocations) ≡ 2 * n
    unfolding block_bytes
    blocks-length = part_length (λ j. block_of mode (allocation_at allocations j)) 2 (λ j. refl)

    pub blocks_more : (old : List ℕ) (from i place : ℕ) → place ≡ from + 2 * i →
        sets (sets old from (block_bytes mode i allocations)) place (block_of mode (allocation_at allocations i))
        ≡ sets old from (block_bytes mode (i + 1) allocations)
    unfolding block_bytes
    blocks_more = part_more (λ j. block_of mode (allocation_at allocations j)) 2 (λ j. refl)

  pub virtuals_length : (n : ℕ) → length (virtual_bytes n allocations) ≡ 4 * n
  unfolding virtual_bytes u32_bytes
  virtuals_length = part_length (λ j. u32_bytes (allocation_at allocations j).virtual_deadline) 4 (λ j. refl)

  pub virtuals_more : (old : List ℕ) (from i place : ℕ) → place ≡ from + 4 * i →
      sets (sets old from (virtual_bytes i allocations)) place (u32_bytes (allocation_at allocations i).virtual_deadline)
      ≡ sets old from (virtual_bytes (i + 1) allocations)
  unfolding virtual_bytes u32_bytes
  virtuals_more = part_more (λ j. u32_bytes (allocation_at allocations j).virtual_deadline) 4 (λ j. refl)

  pub remainders_length : (n : ℕ) → length (remainder_bytes n allocations) ≡ n
  unfolding remainder_bytes
  remainders_length n = part_length (λ j. (allocation_at allocations j).remainder ∷ []) 1 (λ j. refl) n ∙ omega arith

  pub remainders_more : (old : List ℕ) (from i place : ℕ) → place ≡ from + i →
      sets (sets old from (remainder_bytes i allocations)) place ((allocation_at allocations i).remainder ∷ [])
      ≡ sets old from (remainder_bytes (i + 1) allocations)
  unfolding remainder_bytes
  remainders_more old from i place here = part_more (λ j. (allocation_at allocations j).remainder ∷ []) 1 (λ j. refl) old from i place (omega arith)
