-- The longest chain that ends at a node: where the list of chains holds it, what it is made of, and what bounds it.
use Prim.Native.Nat.{ℕ, zero, suc, ◌+◌, ◌≤◌, ◌<◌}
use mathlib.Core.Path.{◌≡◌, refl, ap₂, ◌∙◌}
use mathlib.Core.Logic.{◌⊎◌, inl, inr}
use mathlib.Core.Bool.{true}
use mathlib.Core.List.{List, [], ◌∷◌, ◌++◌, Memᴰ}
use native.Mathlib.Omega.{arith}
use native.Mathlib.Decide.{dec_lt}
use lib.ListN.{length, get_or, length-append, get_or-append, get_or-eq_default}
use lib.Seq.{get_or_at}
use borrow.Author.Count.{below_more}
use Rattle.nodes.specs.Sets.{has, members}
use Rattle.nodes.proofs.Members.{members_mem, mem_members}
use Rattle.model.specs.Row.{predecessors_of}
use Rattle.chains.specs.Chains.{longest_among, chain_at, chains_below}
use Rattle.chains.proofs.Greatest.{OneOf, longest_none, longest_at, longest_le, longest_one}

-- Node u is a predecessor of node v whose chain counts for that of v: lower than v, and one of the 32 that a mask names.
pub record Before (masks : List ℕ) (u v : ℕ) : Type 0 where
  pub lower : u < v
  pub few : u < 32
  pub named : has (predecessors_of masks v) u ≡ true

module _ (masks : List ℕ) (times : ℕ → ℕ) where
  -- The longest chain that ends at node v.
  unfoldable pub chain_of : ℕ → ℕ
  chain_of v = chain_at masks times (chains_below masks times v) v

  pub chains_length : (k : ℕ) → length (chains_below masks times k) ≡ k
  unfolding chains_below
  chains_length zero = refl
  chains_length (suc k) =
      let earlier = chains_below masks times k in
      length-append earlier (chain_at masks times earlier k ∷ []) ∙ omega (arith, chains_length k)

  -- The list of the chains below k holds it for each node below k, and 0 past these.
  pub chain_at_lem : (k v : ℕ) → v < k → get_or (chains_below masks times k) v 0 ≡ chain_of v
  unfolding chains_below chain_of
  chain_at_lem zero v l = absurd (omega arith)
  chain_at_lem (suc k) v l =
      let earlier = chains_below masks times k in
      let own = chain_at masks times earlier k ∷ [] in
      below_more (λ u. get_or (earlier ++ own) u 0 ≡ chain_of u) k
      (λ u h. get_or-append earlier own 0 u (omega (arith, chains_length k)) ∙ chain_at_lem k u h)
      (get_or_at earlier (chain_at masks times earlier k) [] 0 k (chains_length k))
      v (omega arith)

  chain_past : (k v : ℕ) → k ≤ v → get_or (chains_below masks times k) v 0 ≡ 0
  chain_past k v h = get_or-eq_default (chains_below masks times k) 0 (omega (arith, chains_length k))

  -- The nodes of a mask whose chains count for that of v.
  abbrev before : ℕ → List ℕ
  before v = members 32 (predecessors_of masks v)

  own_and_longest : (v : ℕ) → chain_of v ≡ times v + longest_among (chains_below masks times v) (before v)
  unfolding chain_of chain_at
  own_and_longest v = refl

  -- A node's own time alone, and with the chain of each predecessor, is no more.
  pub chain_least : (v : ℕ) → times v ≤ chain_of v
  chain_least v = omega (arith, own_and_longest v)

  pub chain_more : (u v : ℕ) → Before masks u v → times v + chain_of u ≤ chain_of v
  chain_more u v b =
      let member = mem_members 32 (predecessors_of masks v) u b.named b.few in
      omega (arith, own_and_longest v, chain_at_lem v u b.lower, longest_at (chains_below masks times v) (before v) u member)

  -- What bounds the chains of the predecessors bounds it, the node's own time apart.
  pub chain_le : (v b : ℕ) → ((u : ℕ) → Before masks u v → chain_of u ≤ b) → chain_of v ≤ times v + b
  chain_le v b h =
      omega (arith, own_and_longest v, longest_le (chains_below masks times v) b (before v) (λ u m. go u m (dec_lt u v)))
    where
      go : (u : ℕ) → Memᴰ u (before v) → Dec (u < v) → get_or (chains_below masks times v) u 0 ≤ b
      go u m (yes l) =
          let found = members_mem 32 (predecessors_of masks v) u m in
          omega (arith, chain_at_lem v u l, h u (record { lower = l; few = found.1; named = found.0 }))
      go u m (no l) = omega (arith, chain_past v u (omega arith))

  -- It is the node's own time, or that and the chain of a predecessor.
  pub record Longest (v : ℕ) : Type 0 where
    pub node : ℕ
    pub comes : Before masks node v
    pub whole : chain_of v ≡ times v + chain_of node

  pub chain_from : (v : ℕ) → (chain_of v ≡ times v) ⊎ Longest v
  chain_from v = go (before v) refl
    where
      held : (one : OneOf (chains_below masks times v) (before v)) → Dec (one.node < v) → (chain_of v ≡ times v) ⊎ Longest v
      held one (yes l) =
          let found = members_mem 32 (predecessors_of masks v) one.node one.member in
          inr (record {
            node = one.node;
            comes = record { lower = l; few = found.1; named = found.0 };
            whole = omega (arith, own_and_longest v, chain_at_lem v one.node l, one.longest);
          })
      held one (no l) = inl (omega (arith, own_and_longest v, chain_past v one.node (omega arith), one.longest))

      go : (nodes : List ℕ) → before v ≡ nodes → (chain_of v ≡ times v) ⊎ Longest v
      go [] e = inl (rw e at (own_and_longest v) ∙ omega (arith, longest_none (chains_below masks times v)))
      go (i ∷ nodes) e =
          let one : OneOf (chains_below masks times v) (before v) = rw e (longest_one (chains_below masks times v) i nodes) in
          held one (dec_lt one.node v)

-- Times that agree below v have the same chains below v.
pub chains_same : (masks : List ℕ) (f g : ℕ → ℕ) (v : ℕ) → ((u : ℕ) → u < v → f u ≡ g u) →
    chains_below masks f v ≡ chains_below masks g v
unfolding chains_below chain_at
chains_same masks f g zero same = refl
chains_same masks f g (suc v) same =
    ap₂ (λ (chains : List ℕ) (own : ℕ). chains ++ (own + longest_among chains (members 32 (predecessors_of masks v))) ∷ [])
    (chains_same masks f g v (λ u l. same u (omega arith)))
    (same v (omega arith))
