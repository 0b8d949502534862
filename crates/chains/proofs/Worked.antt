-- Worked facts by computation: a diamond of four nodes, and witnesses that the premises of the laws can be met.
use Prim.Native.Nat.{ℕ, zero, suc, ◌≤◌, ◌<◌}
use mathlib.Core.Path.{◌≡◌, refl}
use mathlib.Core.List.{List, [], ◌∷◌}
use native.Mathlib.Omega.{arith}
use lib.Dec.{lit≤}
use Rattle.basics.specs.Lists.{range, greatest}
use Rattle.nodes.specs.Sets.{has, members}
use Rattle.model.specs.Row.{predecessors_of, precedes}
use Rattle.model.specs.Budget.{sum_below, Keeps}
use Rattle.chains.specs.Chains.{longest_among, chain_at, chains_below, span_of, budget_of}
use Rattle.chains.specs.Laws.{LowerOnly, GreatestAlong, SpanIsGreatest, OwnBudget, GrownTo, Growth}
use Rattle.chains.specs.means.Bounds.{time_at, Small}
use Rattle.chains.proofs.Laws.{span_is_greatest, own_budget, growth}

-- Node 0 precedes the nodes 1 and 2, and both precede node 3.
abbrev pub diamond : List ℕ
diamond = 0 ∷ 1 ∷ 1 ∷ 6 ∷ []

-- The times of the four nodes; and others that are nowhere less.
abbrev pub four : List ℕ
four = 2 ∷ 3 ∷ 5 ∷ 1 ∷ []

abbrev pub longer : List ℕ
longer = 2 ∷ 9 ∷ 5 ∷ 1 ∷ []

pub record Worked : Type 0 where
  pub greatest_one : greatest (3 ∷ 7 ∷ 5 ∷ []) ≡ 7
  pub greatest_none : greatest [] ≡ 0
  -- S14.7: the longest chain of the nodes 1 and 2 is that of node 2, whichever comes last; of no nodes it is 0.
  pub among : longest_among (2 ∷ 5 ∷ 7 ∷ []) (1 ∷ 2 ∷ []) ≡ 7
  pub among_first : longest_among (2 ∷ 7 ∷ 5 ∷ []) (1 ∷ 2 ∷ []) ≡ 7
  pub among_none : longest_among (2 ∷ 5 ∷ 7 ∷ []) [] ≡ 0
  -- The chain of node 3: its time 1, and 7 of node 2.
  pub at_last : chain_at diamond (time_at four) (2 ∷ 5 ∷ 7 ∷ []) 3 ≡ 8
  pub below_two : chains_below diamond (time_at four) 2 ≡ 2 ∷ 5 ∷ []
  pub chains : chains_below diamond (time_at four) 4 ≡ 2 ∷ 5 ∷ 7 ∷ 8 ∷ []
  -- Work 11 and span 8 of the four nodes, 10 and 7 of the first three.
  pub whole : budget_of diamond (time_at four) 4 ≡ record { work = 11; span = 8 }
  pub three : budget_of diamond (time_at four) 3 ≡ record { work = 10; span = 7 }
  -- With a longer time of node 1 the chain goes through it.
  pub through : chains_below diamond (time_at longer) 4 ≡ 2 ∷ 11 ∷ 7 ∷ 12 ∷ []
  pub grown : budget_of diamond (time_at longer) 4 ≡ record { work = 17; span = 12 }
  -- Without predecessors the span is the greatest time, and in a row it is the work.
  pub apart : budget_of (0 ∷ 0 ∷ 0 ∷ []) (time_at four) 3 ≡ record { work = 10; span = 5 }
  pub in_a_row : budget_of (0 ∷ 1 ∷ 2 ∷ []) (time_at four) 3 ≡ record { work = 10; span = 10 }
  pub budget_of_none : budget_of [] (time_at four) 0 ≡ record { work = 0; span = 0 }

pub worked : Worked
unfolding has range members predecessors_of sum_below longest_among chain_at chains_below span_of budget_of
worked =
    record {
      greatest_one = refl;
      greatest_none = refl;
      among = refl;
      among_first = refl;
      among_none = refl;
      at_last = refl;
      below_two = refl;
      chains = refl;
      whole = refl;
      three = refl;
      through = refl;
      grown = refl;
      apart = refl;
      in_a_row = refl;
      budget_of_none = refl;
    }

-- The diamond's masks name lower nodes only, its times are at least 1, and the others are nowhere less.
pub diamond_lower : LowerOnly diamond 4
unfolding LowerOnly predecessors_of
diamond_lower zero l = lit≤ tt
diamond_lower (suc zero) l = lit≤ tt
diamond_lower (suc (suc zero)) l = lit≤ tt
diamond_lower (suc (suc (suc zero))) l = lit≤ tt
diamond_lower (suc (suc (suc (suc v)))) l = absurd (omega arith)

four_positive : (v : ℕ) → v < 4 → 1 ≤ time_at four v
four_positive zero l = lit≤ tt
four_positive (suc zero) l = lit≤ tt
four_positive (suc (suc zero)) l = lit≤ tt
four_positive (suc (suc (suc zero))) l = lit≤ tt
four_positive (suc (suc (suc (suc v)))) l = absurd (omega arith)

four_less : (v : ℕ) → v < 4 → time_at four v ≤ time_at longer v
four_less zero l = lit≤ tt
four_less (suc zero) l = lit≤ tt
four_less (suc (suc zero)) l = lit≤ tt
four_less (suc (suc (suc zero))) l = lit≤ tt
four_less (suc (suc (suc (suc v)))) l = absurd (omega arith)

-- The laws at the diamond.
pub diamond_greatest : GreatestAlong diamond (time_at four) 4 8
unfolding has range members predecessors_of longest_among chain_at chains_below span_of SpanIsGreatest
diamond_greatest = span_is_greatest diamond (time_at four) 4 (lit≤ tt) (lit≤ tt) diamond_lower

pub diamond_keeps : Keeps 4 (precedes diamond) 11 8 (time_at four)
unfolding has range members predecessors_of sum_below longest_among chain_at chains_below span_of budget_of OwnBudget
diamond_keeps = own_budget diamond (time_at four) 4 (lit≤ tt) diamond_lower four_positive

pub diamond_grown : GrownTo (record { work = 11; span = 8 }) (record { work = 17; span = 12 })
unfolding has range members predecessors_of sum_below longest_among chain_at chains_below span_of budget_of Growth
diamond_grown = growth diamond (time_at four) (time_at longer) 4 four_less

-- There are small times.
pub four_small : Small four
unfolding Small
four_small zero = lit≤ tt
four_small (suc zero) = lit≤ tt
four_small (suc (suc zero)) = lit≤ tt
four_small (suc (suc (suc zero))) = lit≤ tt
four_small (suc (suc (suc (suc v)))) = omega arith
