-- S4.3: the search for a high task's least critical share.
use Rattle.std.specs.Prelude.{ℕ, zero, suc, ◌+◌, ◌-◌, Bool, cond, leb, Option, Some, None}
use Rattle.sheet.specs.declared.task.Figures.{Figures}
use Rattle.shares.specs.Test.{passes}

-- The first of the n numbers from k on that passes a test, or `none`.
unfoldable pub first : (ℕ → Bool) → ℕ → ℕ → ℕ → ℕ
first test none k zero = none
first test none k (suc n) = cond (test k) k (first test none (suc k) n)

-- S4.3: the first b from a to M with which a passes. M + 1 stands for none.
unfoldable pub least_critical : ℕ → Figures → ℕ → ℕ
least_critical M f a = first (passes f a) (M + 1) a (M + 1 - a)

-- The answer that says a number: a share within M, or none.
unfoldable pub found_of : ℕ → ℕ → Option ℕ
found_of M b = cond (leb b M) (Some b) None
