-- S4.4: the offer of a task of either level.
use Rattle.std.specs.Prelude.{ℕ, zero, suc, ◌+◌, cond, ◌&&◌, List, [], ◌∷◌, eqb}
use Rattle.sheet.specs.declared.task.Figures.{Figures}
use Rattle.sheet.specs.declared.task.Task.{Task}
use Rattle.sheet.specs.Level.{is_low}
use Rattle.shares.specs.Low.{low_share, has_low_share}
use Rattle.shares.specs.Search.{least_critical}

-- S4.4: in a low task's offer 0 stands at its share, and M + 1 everywhere else.
unfoldable pub low_critical : ℕ → Figures → ℕ → ℕ
low_critical M f a = cond (has_low_share M f && eqb a (low_share f)) 0 (M + 1)

-- S4.4: what a task's offer says at typical share a; M + 1 stands for none.
unfoldable pub critical_at : ℕ → Task → ℕ → ℕ
critical_at M t a = cond (is_low t.level) (low_critical M t.figures a) (least_critical M t.figures a)

-- The values of g at the n numbers from k on.
unfoldable pub tabulate : (ℕ → ℕ) → ℕ → ℕ → List ℕ
tabulate g k zero = []
tabulate g k (suc n) = g k ∷ tabulate g (suc k) n

-- S4.4: an offer is what is said at the typical shares 1 to 64, in this order.
unfoldable pub offer_of : ℕ → Task → List ℕ
offer_of M t = tabulate (critical_at M t) 1 64
