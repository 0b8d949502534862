-- Sums along chains, and the step of the deadline theorem: where a node with work left either runs or waits for one
-- with work left, every chain with work left after the tick had less than some chain before it.
use Prim.Native.Nat.{ℕ, ◌+◌, ◌≤◌, ◌<◌}
use mathlib.Core.Path.{◌≡◌}
use mathlib.Core.Bool.{Bool, true}
use mathlib.Core.List.{List, ◌∷◌}
use mathlib.Core.Logic.{◌⊎◌, inl, inr}
use native.Mathlib.Omega.{arith}
use native.Mathlib.Decide.{dec_le}
use Rattle.model.specs.Budget.{Chain, alone, link, along}

pub along_le :
    {k : ℕ} {precedes : ℕ → ℕ → Bool} {u : ℕ} {rest : List ℕ} (f g : ℕ → ℕ) →
    ((v : ℕ) → v < k → f v ≤ g v) →
    Chain k precedes u rest →
    along f u rest ≤ along g u rest
along_le f g h (alone {u} l) = h u l
along_le f g h (link {u} {v} {rest} l e c) = omega (arith, h u l, along_le f g h c)

pub along_same :
    {k : ℕ} {precedes : ℕ → ℕ → Bool} {u : ℕ} {rest : List ℕ} (f g : ℕ → ℕ) →
    ((v : ℕ) → v < k → f v ≡ g v) →
    Chain k precedes u rest →
    along f u rest ≡ along g u rest
along_same f g h (alone {u} l) = h u l
along_same f g h (link {u} {v} {rest} l e c) = omega (arith, h u l, along_same f g h c)

-- A predecessor of node v of which P holds.
pub record Earlier (k : ℕ) (precedes : ℕ → ℕ → Bool) (P : ℕ → Type 0) (v : ℕ) : Type 0 where
  pub node : ℕ
  pub below : node < k
  pub before : precedes node v ≡ true
  pub holds : P node

-- A chain along which f comes to more than n.
pub record Longer (k : ℕ) (precedes : ℕ → ℕ → Bool) (f : ℕ → ℕ) (n : ℕ) : Type 0 where
  pub head : ℕ
  pub rest : List ℕ
  pub chain : Chain k precedes head rest
  pub more : n < along f head rest

module _
    {k : ℕ}
    {precedes : ℕ → ℕ → Bool}
    (f g : ℕ → ℕ)
    (falls : (v : ℕ) → v < k → g v ≤ f v)
    (moves : (v : ℕ) → v < k → 1 ≤ g v → (g v < f v) ⊎ Earlier k precedes (λ x. 1 ≤ f x) v)
  where
    along_less : {u : ℕ} {rest : List ℕ} → Chain k precedes u rest → g u < f u → along g u rest < along f u rest
    along_less (alone l) h = h
    along_less (link l e c) h = omega (arith, along_le g f falls c)

    at_head : {u : ℕ} {rest : List ℕ} → u < k → Chain k precedes u rest → 1 ≤ g u → Longer k precedes f (along g u rest)
    at_head {u} {rest} l c some = go (moves u l some)
      where
        go : (g u < f u) ⊎ Earlier k precedes (λ x. 1 ≤ f x) u → Longer k precedes f (along g u rest)
        go (inl h) = record { head = u; rest = rest; chain = c; more = along_less c h }
        go (inr x) =
            record {
              head = x.node;
              rest = u ∷ rest;
              chain = link x.below x.before c;
              more = omega (arith, along_le g f falls c, x.holds);
            }

    -- The first node of the chain with work left after the tick ran, or a predecessor of it goes in front.
    pub longer_before :
        {u : ℕ} {rest : List ℕ} → Chain k precedes u rest → 1 ≤ along g u rest → Longer k precedes f (along g u rest)
    longer_before (alone {u} l) some = at_head l (alone l) some
    longer_before (link {u} {v} {rest} l e c) some = go (longer_before c) (dec_le 1 (g u))
      where
        go : (1 ≤ along g v rest → Longer k precedes f (along g v rest)) → Dec (1 ≤ g u) → Longer k precedes f (g u + along g v rest)
        go later (yes h) = at_head l (link l e c) h
        go later (no h) =
            let w = later (omega arith) in
            record { head = w.head; rest = w.rest; chain = w.chain; more = omega (arith, w.more) }
