-- S10.6: what the lengths of a job's nodes may come to, all together and along every chain.
use Rattle.std.specs.Prelude.{ℕ, zero, suc, ◌+◌, ◌≤◌, ◌<◌, ◌≡◌, Bool, true, List, [], ◌∷◌}

-- The sum of f over the nodes below k.
unfoldable pub sum_below : ℕ → (ℕ → ℕ) → ℕ
sum_below zero f = 0
sum_below (suc k) f = sum_below k f + f k

-- S10.6: a chain is a first node and the nodes after it, all below k, each a predecessor of the one behind it; precedes
-- u v says that node u is a predecessor of node v.
pub data Chain (k : ℕ) (precedes : ℕ → ℕ → Bool) : ℕ → List ℕ → Type 0 where
  alone : {u : ℕ} → u < k → Chain k precedes u []
  link : {u v : ℕ} {rest : List ℕ} → u < k → precedes u v ≡ true → Chain k precedes v rest → Chain k precedes u (v ∷ rest)

-- The sum of f along a chain, given by its first node and the nodes after it.
abbrev pub along : (ℕ → ℕ) → ℕ → List ℕ → ℕ
along f u [] = f u
along f u (v ∷ rest) = f u + along f v rest

-- S10.6: the lengths of a job's k nodes keep a work and a span: each is at least one tick, all together are at most
-- max_work, and along every chain they are at most max_span.
pub record Keeps (k : ℕ) (precedes : ℕ → ℕ → Bool) (max_work max_span : ℕ) (len : ℕ → ℕ) : Type 0 where
  pub positive : (v : ℕ) → v < k → 1 ≤ len v
  pub work : sum_below k len ≤ max_work
  pub span : (u : ℕ) (rest : List ℕ) → Chain k precedes u rest → along len u rest ≤ max_span
