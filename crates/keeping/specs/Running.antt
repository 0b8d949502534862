-- S5.7: the running totals by which the tasks to keep are found: the critical total of the shares as they stand, and
-- what it comes to with one task more kept. The code holds each in a byte, where M + 1 stands for any total above M.
use Rattle.std.specs.Prelude.{ℕ, ◌+◌, List, map, eqb, length, set, take, filter}
use Rattle.basics.specs.Lists.{range}
use Rattle.shares.specs.declared.share.Share.{Share}
use Rattle.shares.specs.Totals.{share_at, critical_total}
use Rattle.keeping.specs.Kept.{subsets, processors_for, typical_share_at, kept_share}

-- The critical share of task i.
unfoldable pub critical_share_at : List Share → ℕ → ℕ
critical_share_at shares i = (share_at shares i).critical

-- Those of the first n tasks that have no critical share.
unfoldable pub without : ℕ → List Share → List ℕ
without n shares = filter (λ i. eqb (critical_share_at shares i) 0) (range 0 n)

-- S5.7: the critical totals of the shares of n tasks with k tasks kept that have no critical share, one for each set of
-- k of them. Nothing is cut off.
unfoldable pub totals_keeping : ℕ → List Share → ℕ → List ℕ
totals_keeping n shares k =
    map (λ tasks. critical_total (take n shares) + processors_for (typical_share_at shares) tasks)
    (filter (λ tasks. eqb (length tasks) k) (subsets (without n shares)))

-- The critical total of the shares of n tasks once task i is kept.
unfoldable pub total_with_task : ℕ → List Share → ℕ → ℕ
total_with_task n shares i = critical_total (take n (set shares i (kept_share (share_at shares i))))

-- S5.7: these totals with one task more kept, one for each that has no critical share. Nothing is cut off.
unfoldable pub totals_with_one : ℕ → List Share → List ℕ
totals_with_one n shares = map (total_with_task n shares) (without n shares)
