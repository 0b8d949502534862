-- The lowest members of a set: all of them where it has few, each a node of a word, and the set of them as a sum.
use Prim.Native.Nat.{ℕ, zero, suc, ◌^◌, ◌≤◌, ◌<◌}
use mathlib.Core.Path.{◌≡◌, refl, ap, ◌∙◌}
use mathlib.Core.List.{List, [], ◌∷◌}
use native.Mathlib.Omega.{arith}
use lib.Count.{ones}
use lib.ListN.{length, take, get_or}
use lib.Seq.{take_all}
use Rattle.std.specs.List.{sum_by}
use Rattle.std.proofs.lemmas.List.Sums.{sum_by-cons}
use Rattle.basics.specs.Lists.{range}
use Rattle.nodes.specs.Sets.{has, members, set_of}
use Rattle.nodes.proofs.Members.{ones_members, set_of-members}
use Rattle.nodes.proofs.Rising.{Rising, rising_range, rising_filter, rising_take}

-- Where a set has no more than s members, its s lowest are the set.
pub all_lowest : (k set s : ℕ) → set < 2 ^ k → ones set ≤ s → set_of (take s (members k set)) ≡ set
all_lowest k set s below few =
    ap set_of (take_all s (members k set) (omega (arith, ones_members k set below))) ∙ set_of-members k set below

-- The set of a list is the sum of its nodes' bits.
pub set_of_sum : (vs : List ℕ) → sum_by (λ v. 2 ^ v) vs ≡ set_of vs
set_of_sum [] = refl
set_of_sum (v ∷ vs) = omega (arith, sum_by-cons (λ (u : ℕ). 2 ^ u) v vs, set_of_sum vs)

rising_lt : (low k : ℕ) (vs : List ℕ) → Rising low k vs → (i d : ℕ) → i < length vs → get_or vs i d < k
rising_lt low k [] r i d h = absurd (omega arith)
rising_lt low k (v ∷ vs) r zero d h = r.1
rising_lt low k (v ∷ vs) r (suc i) d h = rising_lt (suc v) k vs r.2 i d (omega arith)

-- Each of the lowest members is a node.
pub lowest_node_lt : (k set s i d : ℕ) → i < length (take s (members k set)) → get_or (take s (members k set)) i d < k
unfolding members
lowest_node_lt k set s i d h =
    rising_lt 0 k (take s (members k set)) (rising_take s 0 k (members k set) (rising_filter (has set) 0 k (range 0 k) (rising_range 0 k k (omega arith)))) i d h
