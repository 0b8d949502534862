-- Worked facts by computation: small sets of nodes, as numbers.
use mathlib.Core.Bool.{true, false}
use mathlib.Core.List.{[], ◌∷◌}
use mathlib.Core.Path.{◌≡◌, refl}
use Rattle.basics.specs.Lists.{range, count}
use Rattle.nodes.specs.Sets.{has, members, set_of, is_within}

pub record Worked : Type 0 where
  -- S1.2: 5 is the set of the nodes 0 and 2; the highest bit of a u32 is node 31.
  pub has_first : has 5 0 ≡ true
  pub has_not : has 5 1 ≡ false
  pub has_third : has 5 2 ≡ true
  pub has_above : has 5 3 ≡ false
  pub has_highest : has 2147483648 31 ≡ true
  pub listed : members 4 5 ≡ 0 ∷ 2 ∷ []
  pub listed_below : members 2 5 ≡ 0 ∷ []
  pub made : set_of (0 ∷ 2 ∷ []) ≡ 5
  pub numbers : range 3 2 ≡ 3 ∷ 4 ∷ []
  -- S8.2: each node of 1 is in 5, node 1 of 3 is not; the empty set is in every set.
  pub within : is_within 4 1 5 ≡ true
  pub not_within : is_within 4 3 5 ≡ false
  pub none_within : is_within 4 0 0 ≡ true
  -- S8.3: two of the nodes below 3 are in 5, one of those below 2.
  pub counted : count (has 5) 3 ≡ 2
  pub counted_below : count (has 5) 2 ≡ 1

worked : Worked
unfolding has range members is_within count
worked =
    record {
      has_first = refl;
      has_not = refl;
      has_third = refl;
      has_above = refl;
      has_highest = refl;
      listed = refl;
      listed_below = refl;
      made = refl;
      numbers = refl;
      within = refl;
      not_within = refl;
      none_within = refl;
      counted = refl;
      counted_below = refl;
    }
