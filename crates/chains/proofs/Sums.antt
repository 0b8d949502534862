-- Sums of times: they grow with their bound, by no less for times that are no less, and k times of at most b come to at most k * b.
-- By induction on the bound.
use Prim.Native.Nat.{ℕ, zero, suc, ◌+◌, ◌-◌, ◌*◌, ◌≤◌, ◌<◌}
use mathlib.Core.Path.{◌≡◌, refl, sym, ap, ◌∙◌}
use native.Mathlib.Omega.{arith}
use native.Mathlib.Nat.{suc-mul}
use mathlib.Core.List.{List, [], ◌∷◌}
use lib.ListN.{length}
use Rattle.std.specs.Prelude.{sum}
use Rattle.std.proofs.lemmas.List.Sums.{sum_by-cons}
use Rattle.chains.specs.means.Bounds.{time_at}
use Rattle.model.specs.Budget.{sum_below}
use Rattle.model.proofs.Sums.{sum_zero, sum_first}

-- No nodes, and one node more.
pub sum_none : (f : ℕ → ℕ) → sum_below 0 f ≡ 0
unfolding sum_below
sum_none f = refl

pub sum_next : (k : ℕ) (f : ℕ → ℕ) → sum_below (suc k) f ≡ sum_below k f + f k
unfolding sum_below
sum_next k f = refl

-- What the nodes from u on add to the one sum, they add to the other at least.
gap_add : (f g : ℕ → ℕ) (u n : ℕ) → ((v : ℕ) → v < u + n → f v ≤ g v) →
    sum_below u g + sum_below (u + n) f ≤ sum_below u f + sum_below (u + n) g
gap_add f g u zero h = let e : u + 0 ≡ u = omega arith in rw e (omega arith)
gap_add f g u (suc n) h =
    let e : u + suc n ≡ suc (u + n) = omega arith in
    rw e
    (omega (arith, sum_next (u + n) f, sum_next (u + n) g, h (u + n) (omega arith), gap_add f g u n (λ v l. h v (omega arith))))

pub gap_grows : (f g : ℕ → ℕ) (u k : ℕ) → u ≤ k → ((v : ℕ) → v < k → f v ≤ g v) →
    sum_below u g + sum_below k f ≤ sum_below u f + sum_below k g
gap_grows f g u k up h =
    let e : u + (k - u) ≡ k = omega arith in
    rw e at (gap_add f g u (k - u) (λ v l. h v (omega arith)))

pub sum_grows : (f : ℕ → ℕ) (u k : ℕ) → u ≤ k → sum_below u f ≤ sum_below k f
sum_grows f u k up =
    omega (arith, gap_grows (λ _. 0) f u k up (λ v l. omega arith), sum_zero u, sum_zero k)

pub sum_bound : (k : ℕ) (f : ℕ → ℕ) (b : ℕ) → ((v : ℕ) → v < k → f v ≤ b) → sum_below k f ≤ k * b
unfolding sum_below
sum_bound zero f b h = omega arith
sum_bound (suc k) f b h = omega (arith, sum_bound k f b (λ v l. h v (omega arith)), h k (omega arith), suc-mul k b)

-- The sum of the numbers of a list.
pub sum_all : (times : List ℕ) → sum times ≡ sum_below (length times) (time_at times)
sum_all [] = sym (sum_none (time_at []))
sum_all (x ∷ times) =
    sum_by-cons (λ (y : ℕ). y) x times
    ∙ ap (λ (n : ℕ). x + n) (sum_all times)
    ∙ sym (sum_first (length times) (time_at (x ∷ times)))
