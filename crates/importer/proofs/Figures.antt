-- Times by a percentage: one node more is one cell more.
use Prim.Native.Nat.{ℕ, zero, suc, ◌+◌, ◌≤◌, ◌<◌}
use mathlib.Core.List.{List, [], ◌∷◌}
use mathlib.Core.Path.{◌≡◌, sym}
use native.Mathlib.Omega.{arith}
use lib.ListN.{set, replicate, take, length}
use Rattle.std.proofs.Common.{length-take-le, ap, ◌∙◌, refl}
use Rattle.basics.proofs.Lists.{get_or-padded}
use Rattle.chains.specs.Chains.{budget_of}
use Rattle.chains.proofs.Laws.{budget_same}
use Rattle.basics.proofs.Cells.{cells_none, cells_store}
use Rattle.chains.specs.means.Bounds.{time_at, time_limit, Small}
use Rattle.importer.specs.Task.{scaled}
use Rattle.importer.specs.means.Nodes.{scaled_times}

pub scaled_none : (percentage : ℕ) (times : List ℕ) → replicate 32 0 ≡ scaled_times 0 percentage times
unfolding scaled_times
scaled_none percentage times = sym (cells_none (λ v. scaled percentage (time_at times v)) 0 0 32 0 (omega arith))

scaled_more : (v percentage : ℕ) (times : List ℕ) → v < 32 →
    set (scaled_times v percentage times) v (scaled percentage (time_at times v)) ≡ scaled_times (v + 1) percentage times
unfolding scaled_times
scaled_more v percentage times h = cells_store (λ u. scaled percentage (time_at times u)) 0 32 v h

-- The same of whatever was stored, if it is the time by the percentage.
pub scaled_next : (v percentage : ℕ) (times held : List ℕ) (x : ℕ) → v < 32 → held ≡ scaled_times v percentage times →
    x ≡ scaled percentage (time_at times v) → set held v x ≡ scaled_times (v + 1) percentage times
scaled_next v percentage times held x h before stored = rw (before, stored) (scaled_more v percentage times h)

-- Times stay within what sums may lean on, of which one is stored after the other.
pub none_small : Small (replicate 32 0)
unfolding Small
none_small v = omega (arith, get_or-padded [] 32 v)

pub next_small : (held : List ℕ) (v x : ℕ) → Small held → x ≤ time_limit → Small (set held v x)
unfolding Small
next_small [] v x small h = small
next_small (y ∷ held) zero x small h = λ u. elim u as (λ w. time_at (x ∷ held) w ≤ time_limit) [ zero ↦ h | suc w ↦ small (suc w) ]
next_small (y ∷ held) (suc v) x small h =
    λ u. elim u as (λ w. time_at (y ∷ set held v x) w ≤ time_limit) [ zero ↦ small 0 | suc w ↦ next_small held v x (λ n. small (suc n)) h w ]

-- The first k of small times are small, and come to the budget of k nodes.
pub small_taken : (k : ℕ) (times : List ℕ) → Small times → Small (take k times)
unfolding Small
small_taken zero times small = λ v. omega arith
small_taken (suc k) [] small = small
small_taken (suc k) (x ∷ times) small =
    λ u. elim u as (λ w. time_at (x ∷ take k times) w ≤ time_limit) [ zero ↦ small 0 | suc w ↦ small_taken k times (λ n. small (suc n)) w ]

time_taken : (k : ℕ) (times : List ℕ) (v : ℕ) → v < k → time_at (take k times) v ≡ time_at times v
time_taken zero times v h = absurd (omega arith)
time_taken (suc k) [] v h = refl
time_taken (suc k) (x ∷ times) zero h = refl
time_taken (suc k) (x ∷ times) (suc v) h = time_taken k times v (omega arith)

pub budget_taken : (masks : List ℕ) (k : ℕ) (times : List ℕ) → k ≤ length times →
    budget_of masks (time_at (take k times)) (length (take k times)) ≡ budget_of masks (time_at times) k
budget_taken masks k times few =
    ap (budget_of masks (time_at (take k times))) (length-take-le k times few)
    ∙ budget_same masks (time_at (take k times)) (time_at times) k (time_taken k times)
