-- Two functions of times, the one nowhere above the other: the chain that ends at a node grows, and by no more than the times up to
-- that node. By induction over the nodes below a bound.
use Prim.Native.Nat.{ℕ, zero, suc, ◌+◌, ◌-◌, ◌≤◌, ◌<◌}
use mathlib.Core.List.{List}
use native.Mathlib.Omega.{arith}
use borrow.Author.Count.{below_more}
use Rattle.model.specs.Budget.{sum_below}
use Rattle.model.proofs.Sums.{sum_le}
use Rattle.chains.specs.Chains.{span_of}
use Rattle.chains.proofs.Sums.{sum_next, gap_grows}
use Rattle.chains.proofs.Ends.{Before, chain_of, chain_least, chain_more, chain_le}
use Rattle.chains.proofs.Spans.{span_at, span_le}

module _ (masks : List ℕ) (less more : ℕ → ℕ) where
  -- The chain that ends at v is no shorter, and longer by no more than the times up to v have grown together.
  pub record Grows (v : ℕ) : Type 0 where
    pub up : chain_of masks less v ≤ chain_of masks more v
    pub within : chain_of masks more v + sum_below (suc v) less ≤ chain_of masks less v + sum_below (suc v) more

  -- So it is for a node if it is for its predecessors.
  next_grows : (v : ℕ) → ((u : ℕ) → u < suc v → less u ≤ more u) → ((u : ℕ) → u < v → Grows u) → Grows v
  next_grows v h earlier =
      let up = chain_le masks less v (chain_of masks more v - more v) shorter in
      let within = chain_le masks more v limit longer in
      record {
        up = omega (arith, own, chain_least masks more v, up);
        within = omega (arith, own, whole, chain_least masks less v, sum_next v less, sum_next v more, within);
      }
    where
      own : less v ≤ more v
      own = h v (omega arith)

      whole : sum_below v less ≤ sum_below v more
      whole = sum_le v less more (λ u l. h u (omega arith))

      limit : ℕ
      limit = chain_of masks less v - less v + (sum_below v more - sum_below v less)

      shorter : (u : ℕ) → Before masks u v → chain_of masks less u ≤ chain_of masks more v - more v
      shorter u b = omega (arith, (earlier u b.lower).up, chain_more masks more u v b)

      longer : (u : ℕ) → Before masks u v → chain_of masks more u ≤ limit
      longer u b =
          let gap = gap_grows less more (suc u) v b.lower (λ w l. h w (omega arith)) in
          omega (arith, gap, whole, (earlier u b.lower).within, chain_more masks less u v b)

  pub chain_grows : (k : ℕ) → ((v : ℕ) → v < k → less v ≤ more v) → (v : ℕ) → v < k → Grows v
  chain_grows zero h v l = absurd (omega arith)
  chain_grows (suc k) h v l =
      let earlier = chain_grows k (λ u m. h u (omega arith)) in
      below_more Grows k earlier (next_grows k h earlier) v (omega arith)

  module _ (k : ℕ) (h : (v : ℕ) → v < k → less v ≤ more v) where
    pub span_grows : span_of masks less k ≤ span_of masks more k
    span_grows = span_le masks less k _ (λ v l. omega (arith, (chain_grows k h v l).up, span_at masks more k v l))

    pub span_within : span_of masks more k + sum_below k less ≤ span_of masks less k + sum_below k more
    span_within =
        omega (arith, whole, span_le masks more k (span_of masks less k + (sum_below k more - sum_below k less)) each)
      where
        whole : sum_below k less ≤ sum_below k more
        whole = sum_le k less more h

        each : (v : ℕ) → v < k → chain_of masks more v ≤ span_of masks less k + (sum_below k more - sum_below k less)
        each v l =
            let gap = gap_grows less more (suc v) k l h in
            omega (arith, gap, whole, (chain_grows k h v l).within, span_at masks less k v l)
