-- What holds of the running totals after any number of tasks was kept, as a law that a function of `promise` promises.
use Rattle.std.specs.Prelude.{ℕ, ◌+◌, ◌≤◌, ◌≡◌, List, length}
use Rattle.basics.specs.Order.{least, capped_at}
use Rattle.shares.specs.declared.share.Share.{Share}
use Rattle.keeping.specs.Running.{totals_keeping}
use Rattle.keeping.specs.means.Keeping.{Next, KeptAfter, Keepable}

-- S5.7: after k tasks were kept, the total that is found with one more is the smaller of M + 1 and the least of all
-- sets of k + 1 low tasks.
unfoldable pub RunningLeast : Type 0
RunningLeast =
    (M n k i total : ℕ) (shares line : List Share) → Keepable M n shares → n ≤ length shares → KeptAfter M n shares k line →
    Next M n line i total → total ≡ capped_at (M + 1) (least (totals_keeping n shares (k + 1)))
