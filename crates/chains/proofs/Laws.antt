-- S14.8: what the work and the span of times come to. A chain is bounded node by node from its first on, and from a node where the
-- longest chain ends one walks back along the predecessors that made it.
use Prim.Native.Nat.{ℕ, zero, suc, ◌+◌, ◌≤◌, ◌<◌}
use mathlib.Core.Path.{◌≡◌, ap₂}
use mathlib.Core.Logic.{◌⊎◌, inl, inr}
use mathlib.Core.Bool.{true}
use mathlib.Core.List.{List, [], ◌∷◌}
use native.Mathlib.Omega.{arith}
use lib.Pow.{pow_pos}
use Rattle.basics.specs.Lists.{range}
use Rattle.nodes.proofs.Bits.{has_lt}
use Rattle.model.specs.Row.{predecessors_of, precedes}
use Rattle.model.specs.Budget.{Chain, alone, link, along}
use Rattle.model.proofs.Sums.{sum_le, sum_same}
use Rattle.chains.specs.Chains.{longest_among, span_of, budget_of}
use Rattle.chains.specs.Laws.{LowerOnly, SpanIsGreatest, OwnBudget, SpanWithinWork, Growth}
use Rattle.chains.proofs.Ends.{Before, chain_of, Longest, chain_least, chain_more, chain_from, chains_same}
use Rattle.chains.proofs.Spans.{span_at, span_last, span_sum}
use Rattle.chains.proofs.Growth.{span_grows, span_within}

module _ (masks : List ℕ) (times : ℕ → ℕ) (k : ℕ) where
  -- The first node of a chain is one of the k.
  first_below : {u : ℕ} {rest : List ℕ} → Chain k (precedes masks) u rest → u < k
  first_below (alone l) = l
  first_below (link l e c) = l

  -- A predecessor that a mask of lower nodes names.
  named_before : k ≤ 32 → LowerOnly masks k → (u v : ℕ) → v < k → precedes masks u v ≡ true → Before masks u v
  unfolding precedes LowerOnly
  named_before few low u v l e =
      let lower : u < v = has_lt v (predecessors_of masks v) u (omega (arith, low v l, pow_pos v)) e in
      record { lower = lower; few = omega arith; named = e }

  -- What comes before a chain and the chain are together at most the span.
  along_le_span : k ≤ 32 → LowerOnly masks k → {u : ℕ} {rest : List ℕ} → Chain k (precedes masks) u rest →
      chain_of masks times u + along times u rest ≤ span_of masks times k + times u
  along_le_span few low (alone {u} l) = omega (arith, span_at masks times k u l)
  along_le_span few low (link {u} {v} {rest} l e c) =
      let before = named_before few low u v (first_below c) e in
      omega (arith, chain_more masks times u v before, along_le_span few low c)

  pub chain_bound : k ≤ 32 → LowerOnly masks k → (u : ℕ) (rest : List ℕ) → Chain k (precedes masks) u rest →
      along times u rest ≤ span_of masks times k
  chain_bound few low u rest c = omega (arith, along_le_span few low c, chain_least masks times u)

  -- A chain that comes to the longest that ends at v and what follows v.
  record Whole (v : ℕ) (rest : List ℕ) : Type 0 where
    pub first : ℕ
    pub others : List ℕ
    pub chain : Chain k (precedes masks) first others
    pub sum : along times first others + times v ≡ chain_of masks times v + along times v rest

  whole : (n v : ℕ) (rest : List ℕ) → v < n → Chain k (precedes masks) v rest → Whole v rest
  unfolding precedes
  whole zero v rest l c = absurd (omega arith)
  whole (suc n) v rest l c = go (whole n) (chain_from masks times v)
    where
      go : ((u : ℕ) (rest : List ℕ) → u < n → Chain k (precedes masks) u rest → Whole u rest) →
          (chain_of masks times v ≡ times v) ⊎ Longest masks times v → Whole v rest
      go earlier (inl own) = record { first = v; others = rest; chain = c; sum = omega arith }
      go earlier (inr before) =
          let below : before.node < k = omega (arith, before.comes.lower, first_below c) in
          let longer : Chain k (precedes masks) before.node (v ∷ rest) = link below before.comes.named c in
          let w = earlier before.node (v ∷ rest) (omega (arith, before.comes.lower)) longer in
          record { first = w.first; others = w.others; chain = w.chain; sum = omega (arith, w.sum, before.whole) }

pub span_is_greatest : SpanIsGreatest
unfolding SpanIsGreatest
span_is_greatest masks times k some few low =
    let end = span_last masks times k some in
    let w = whole masks times k k end.node [] end.below (alone end.below) in
    record {
      bound = chain_bound masks times k few low;
      first = w.first;
      others = w.others;
      chain = w.chain;
      reached = omega (arith, w.sum, end.longest);
    }

pub own_budget : OwnBudget
unfolding OwnBudget budget_of
own_budget masks times k few low positive =
    record { positive = positive; work = omega arith; span = chain_bound masks times k few low }

pub span_within_work : SpanWithinWork
unfolding SpanWithinWork budget_of
span_within_work masks times k = span_sum masks times k

pub growth : Growth
unfolding Growth budget_of
growth masks less more k h =
    let work = sum_le k less more h in
    let span = span_grows masks less more k h in
    record { work = work; span = span; growth = omega (arith, work, span, span_within masks less more k h) }

-- Times that agree below k come to the same budget.
pub budget_same : (masks : List ℕ) (f g : ℕ → ℕ) (k : ℕ) → ((v : ℕ) → v < k → f v ≡ g v) → budget_of masks f k ≡ budget_of masks g k
unfolding budget_of span_of
budget_same masks f g k same =
    ap₂ (λ (w : ℕ) (chains : List ℕ). record { work = w; span = longest_among chains (range 0 k) })
    (sum_same k f g same)
    (chains_same masks f g k same)
