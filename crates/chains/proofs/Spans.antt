-- The span: the longest of the chains that end at the nodes below k, and so at most the work.
use Prim.Native.Nat.{ℕ, zero, suc, ◌*◌, ◌≤◌, ◌<◌}
use mathlib.Core.Path.{◌≡◌}
use mathlib.Core.List.{List, Memᴰ}
use native.Mathlib.Omega.{arith}
use lib.ListN.{get_or}
use borrow.Author.Count.{below_more}
use Rattle.basics.specs.Lists.{range}
use Rattle.basics.proofs.Members.{range-has, range-within}
use Rattle.model.specs.Budget.{sum_below}
use Rattle.chains.specs.Chains.{chains_below, span_of}
use Rattle.chains.proofs.Greatest.{longest_at, longest_le, longest_one}
use Rattle.chains.proofs.Sums.{sum_next, sum_grows, sum_bound}
use Rattle.chains.proofs.Ends.{Before, chain_of, chain_at_lem, chain_le}

module _ (masks : List ℕ) (times : ℕ → ℕ) where
  -- A node where the longest chain of k nodes ends.
  pub record Last (k : ℕ) : Type 0 where
    pub node : ℕ
    pub below : node < k
    pub longest : chain_of masks times node ≡ span_of masks times k

  pub span_at : (k v : ℕ) → v < k → chain_of masks times v ≤ span_of masks times k
  unfolding span_of
  span_at k v l =
      let member = range-has 0 k v (omega arith) (omega arith) in
      omega (arith, chain_at_lem masks times k v l, longest_at (chains_below masks times k) (range 0 k) v member)

  pub span_le : (k b : ℕ) → ((v : ℕ) → v < k → chain_of masks times v ≤ b) → span_of masks times k ≤ b
  unfolding span_of
  span_le k b h = longest_le (chains_below masks times k) b (range 0 k) each
    where
      each : (v : ℕ) → Memᴰ v (range 0 k) → get_or (chains_below masks times k) v 0 ≤ b
      each v m =
          let l : v < k = omega (arith, (range-within 0 k v m).1) in
          omega (arith, chain_at_lem masks times k v l, h v l)

  pub span_last : (k : ℕ) → 1 ≤ k → Last k
  unfolding span_of range
  span_last zero some = absurd (omega arith)
  span_last (suc k) some =
      let one = longest_one (chains_below masks times (suc k)) 0 (range 1 k) in
      let l : one.node < suc k = omega (arith, (range-within 0 (suc k) one.node one.member).1) in
      record { node = one.node; below = l; longest = omega (arith, chain_at_lem masks times (suc k) one.node l, one.longest) }

  -- The chain that ends at a node is at most the sum of the times up to it.
  chain_sum : (k v : ℕ) → v < k → chain_of masks times v ≤ sum_below (suc v) times
  chain_sum zero v l = absurd (omega arith)
  chain_sum (suc k) v l =
      below_more (λ u. chain_of masks times u ≤ sum_below (suc u) times) k (chain_sum k) (last (chain_sum k)) v (omega arith)
    where
      last : ((u : ℕ) → u < k → chain_of masks times u ≤ sum_below (suc u) times) → chain_of masks times k ≤ sum_below (suc k) times
      last earlier = omega (arith, sum_next k times, chain_le masks times k (sum_below k times) before)
        where
          before : (u : ℕ) → Before masks u k → chain_of masks times u ≤ sum_below k times
          before u b = omega (arith, earlier u b.lower, sum_grows times (suc u) k b.lower)

  pub span_sum : (k : ℕ) → span_of masks times k ≤ sum_below k times
  span_sum k =
      span_le k (sum_below k times) (λ v l. omega (arith, chain_sum k v l, sum_grows times (suc v) k (omega arith)))

  -- Times of at most b have a span of at most b for each node.
  pub span_bound : (k b : ℕ) → ((v : ℕ) → v < k → times v ≤ b) → span_of masks times k ≤ k * b
  span_bound k b h = omega (arith, span_sum k, sum_bound k times b h)
