-- S4.2: how large the two sides of the pair test get, whatever limit the figures have.
use Rattle.std.specs.Prelude.{ℕ, ◌*◌, ◌≤◌, true, ◌≡◌}
use Rattle.sheet.specs.declared.task.Figures.{Figures}
use Rattle.sheet.specs.Rules.{in_order}
use Rattle.shares.specs.Test.{demand}

-- For figures that keep S2.10, what a pair has to supply is at most CO·a·b.
unfoldable pub DemandBound : Type 0
DemandBound =
    (f : Figures) (a b : ℕ) → in_order f ≡ true → 1 ≤ a → a ≤ b → demand f a b ≤ f.overload.work * a * b

-- Both sides, where D and CO are at most a limit and the shares at most 64. At 1,000,000 this is 4,096,000,000, which
-- lies below 2 ^ 32.
pub record SidesWithin (limit : ℕ) (f : Figures) (a b : ℕ) : Type 0 where
  pub asked : demand f a b ≤ limit * 64 * 64
  pub supplied : f.deadline * a * b ≤ limit * 64 * 64

-- Over any limit.
unfoldable pub SidesBound : Type 0
SidesBound =
    (limit : ℕ) (f : Figures) (a b : ℕ) → in_order f ≡ true → f.deadline ≤ limit → f.overload.work ≤ limit →
    1 ≤ a → a ≤ b → b ≤ 64 → SidesWithin limit f a b
