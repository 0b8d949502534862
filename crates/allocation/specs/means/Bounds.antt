-- By what the numbers of an allocation fit their fields, their bytes and their digits.
use Rattle.std.specs.Prelude.{ℕ, ◌+◌, ◌≤◌, ◌<◌, Bool, false, List}
use Rattle.sheet.specs.declared.task.TaskSet.{TaskSet}
use Rattle.shares.specs.declared.share.Share.{Share}
use Rattle.allocation.specs.declared.allocate.Allocation.{Allocation}
use Rattle.allocation.specs.Blocks.{offset_in, length_in}
use Rattle.allocation.specs.Allocation.{allocation_at}

-- Each task of a set has a typical share, so that its V (S4.5) is a number, and each block ends below 256.
pub record SharesFit (set : TaskSet) (shares : List Share) : Type 0 where
  pub few : set.count ≤ 16
  pub some_share : (i : ℕ) → i < set.count → 1 ≤ length_in false shares i
  pub ends : (mode : Bool) (i : ℕ) → i ≤ set.count → offset_in mode shares i < 256

-- A task's blocks end within 64 processors, its V is at most 1,000,000, and its remainder is less than 64.
pub record Bounded (a : Allocation) : Type 0 where
  pub typical : a.offset.typical + a.share.typical ≤ 64
  pub critical : a.offset.critical + a.share.critical ≤ 64
  pub virtual : a.virtual_deadline ≤ 1000000
  pub remainder : a.remainder < 64

-- The same of each of the first n tasks.
pub record AllBounded (allocations : List Allocation) (n : ℕ) : Type 0 where
  pub few : n ≤ 16
  pub each : (i : ℕ) → i < n → Bounded (allocation_at allocations i)
