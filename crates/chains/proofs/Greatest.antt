-- The longest of the chains that end at some nodes: no chain exceeds it, and it is one of them. By induction on the nodes.
use Prim.Native.Nat.{ℕ, ◌≤◌, max}
use mathlib.Core.Path.{◌≡◌, refl, ap₂}
use mathlib.Core.List.Memᴰ
use mathlib.Core.List.{List, [], ◌∷◌, map, Memᴰ}
use native.Mathlib.Omega.{arith}
use native.Mathlib.Decide.{dec_le}
use lib.ListN.{get_or}
use Rattle.basics.proofs.Members.{greatest-has}
use Rattle.std.specs.Prelude.{fold}
use Rattle.std.specs.List.{reduce}
use Rattle.std.specs.Option.{unwrap_or}
use Rattle.basics.specs.Lists.{greatest}
use Rattle.chains.specs.Chains.{longest_among}

-- One of the nodes, where the longest of their chains ends.
pub record OneOf (chains nodes : List ℕ) : Type 0 where
  pub node : ℕ
  pub member : Memᴰ node nodes
  pub longest : get_or chains node 0 ≡ longest_among chains nodes

module _ (chains : List ℕ) where
  pub longest_none : longest_among chains [] ≡ 0
  unfolding longest_among
  longest_none = refl

  -- The first node apart.
  pub longest_first : (j : ℕ) (nodes : List ℕ) → longest_among chains (j ∷ nodes) ≡ max (get_or chains j 0) (longest_among chains nodes)
  unfolding longest_among
  longest_first j nodes = refl

  pub longest_at : (nodes : List ℕ) (j : ℕ) → Memᴰ j nodes → get_or chains j 0 ≤ longest_among chains nodes
  unfolding longest_among
  longest_at nodes j m = greatest-has (map (λ j. get_or chains j 0) nodes) (get_or chains j 0) (Memᴰ.map (λ j. get_or chains j 0) m)

  pub longest_le : (b : ℕ) (nodes : List ℕ) → ((j : ℕ) → Memᴰ j nodes → get_or chains j 0 ≤ b) → longest_among chains nodes ≤ b
  longest_le b [] h = omega (arith, longest_none)
  longest_le b (i ∷ nodes) h =
      omega (arith, longest_first i nodes, h i (Memᴰ.head refl), longest_le b nodes (λ j m. h j (Memᴰ.tail m)))

  -- Of one node or more, it ends at one of them.
  pub longest_one : (i : ℕ) (nodes : List ℕ) → OneOf chains (i ∷ nodes)
  longest_one i [] =
      record { node = i; member = Memᴰ.head refl; longest = omega (arith, longest_first i [], longest_none) }
  longest_one i (j ∷ nodes) = go (longest_one j nodes) (dec_le (longest_among chains (j ∷ nodes)) (get_or chains i 0))
    where
      go : OneOf chains (j ∷ nodes) → Dec (longest_among chains (j ∷ nodes) ≤ get_or chains i 0) → OneOf chains (i ∷ j ∷ nodes)
      go rest (yes h) =
          record { node = i; member = Memᴰ.head refl; longest = omega (arith, longest_first i (j ∷ nodes)) }
      go rest (no h) =
          record {
            node = rest.node;
            member = Memᴰ.tail rest.member;
            longest = omega (arith, longest_first i (j ∷ nodes), rest.longest);
          }

-- Chains that agree have the same longest.
pub longest_same : (chains others nodes : List ℕ) → ((j : ℕ) → get_or chains j 0 ≡ get_or others j 0) →
    longest_among chains nodes ≡ longest_among others nodes
unfolding longest_among
longest_same chains others [] same = refl
longest_same chains others (i ∷ nodes) same = ap₂ max (same i) (longest_same chains others nodes same)

-- The greatest of some numbers, as the library takes it.
folded : (x : ℕ) (xs : List ℕ) → fold max x xs ≡ max x (greatest xs)
folded x [] = omega arith
folded x (y ∷ xs) = omega (arith, folded (max x y) xs)

pub greatest_reduced : (xs : List ℕ) → unwrap_or (reduce max xs) 0 ≡ greatest xs
greatest_reduced [] = refl
greatest_reduced (x ∷ xs) = folded x xs
