-- The nodes of one row: which of them run, as a test; sets within others; all nodes ended, as a test of each.
use Prim.Native.Nat.{ℕ, ◌<◌, ◌^◌}
use mathlib.Core.Path.{◌≡◌, ap, ◌∙◌}
use mathlib.Core.Bool.{true, ◌&&◌}
use mathlib.Core.List.{List}
use native.Mathlib.Omega.{arith}
use borrow.Author.Tests.{eqb-true}
use lib.Bits.{bit_and, and_le_r}
use lib.Dec.{ltb}
use Rattle.basics.specs.Lists.{count}
use Rattle.basics.proofs.Below.{range-all_at, range_all}
use Rattle.nodes.specs.Sets.{has, set_of}
use Rattle.nodes.proofs.Members.{set_of-filter_lt, has-set_of-filter}
use Rattle.model.specs.Row.{Row, is_subset, all_ended, is_ready, running_set}
use Rattle.model.proofs.Starts.{runs_first, running_is}

-- A node runs if it is below k, ready, and fewer than are granted are ready below it.
pub runs_test : (grant : ℕ) (r : Row) (v : ℕ) →
    has (running_set grant r) v ≡
    (ltb v r.fixed.nodes && (is_ready r v && ltb (count (is_ready r) v) grant))
unfolding running_set runs_first
runs_test grant r v =
    ap (λ (vs : List ℕ). has (set_of vs) v) (running_is grant r)
    ∙ has-set_of-filter (runs_first grant r) r.fixed.nodes v

pub running_below : (grant : ℕ) (r : Row) → running_set grant r < 2 ^ r.fixed.nodes
unfolding running_set
running_below grant r = rw (running_is grant r) (set_of-filter_lt (runs_first grant r) r.fixed.nodes)

-- A subset is no larger as a number.
pub subset_below : (a b n : ℕ) → is_subset a b ≡ true → b < n → a < n
unfolding is_subset
subset_below a b n e h = omega (arith, and_le_r a b, eqb-true (bit_and a b) a e)

-- All nodes have ended just where each has.
pub all_ended_at : (k ended v : ℕ) → all_ended k ended ≡ true → v < k → has ended v ≡ true
unfolding all_ended
all_ended_at k ended v e h = range-all_at (has ended) 0 k v e (omega arith) (omega arith)

pub all_ended_intro : (k ended : ℕ) → ((v : ℕ) → v < k → has ended v ≡ true) → all_ended k ended ≡ true
unfolding all_ended
all_ended_intro k ended h = range_all (has ended) 0 k (λ v low high. h v (omega arith))
