-- What the functions keep: the chains below v in an array of 32, with 0 from v on.
use Prim.Native.Nat.{ℕ, suc, ◌+◌, ◌-◌, ◌*◌, ◌≤◌, ◌<◌, min}
use mathlib.Core.Path.{◌≡◌, refl, sym, ap, ap₂, ◌∙◌}
use mathlib.Core.List.{List, ◌++◌}
use native.Mathlib.Omega.{arith}
use native.Mathlib.Nat.{mul-le-mul_right, min-eq_left}
use lib.ListN.{get_or, set, replicate}
use lib.Seq.{append_snoc, set_at}
use Rattle.basics.proofs.Lists.{get_or-padded}
use Rattle.basics.specs.Lists.{range}
use Rattle.nodes.specs.Sets.{members, set_of}
use Rattle.nodes.proofs.Rising.{rising_range, members-set_of}
use Rattle.model.specs.Row.{predecessors_of}
use Rattle.model.specs.Budget.{sum_below}
use Rattle.chains.specs.Chains.{longest_among, chain_at, chains_below, span_of}
use Rattle.chains.specs.means.Bounds.{time_at, time_limit, Small}
use Rattle.chains.proofs.Greatest.{longest_same}
use Rattle.chains.proofs.Sums.{sum_bound}
use Rattle.chains.proofs.Ends.{chain_of, chains_length}
use Rattle.chains.proofs.Spans.{span_at, span_sum}

-- The longest of these does not change by zeros behind them.
pub longest_padded : (xs : List ℕ) (n : ℕ) (nodes : List ℕ) → longest_among (xs ++ replicate n 0) nodes ≡ longest_among xs nodes
longest_padded xs n nodes = longest_same (xs ++ replicate n 0) xs nodes (get_or-padded xs n)

-- The chains of no nodes.
pub chains_none : (masks : List ℕ) (times : ℕ → ℕ) → chains_below masks times 0 ++ replicate 32 0 ≡ replicate 32 0
unfolding chains_below
chains_none masks times = refl

pub chains_first : (masks : List ℕ) (times : ℕ → ℕ) (v : ℕ) → v < 1 → chains_below masks times v ++ replicate (32 - v) 0 ≡ replicate 32 0
chains_first masks times v h = let e : v ≡ 0 = omega arith in rw e (chains_none masks times)

-- Up to 32 small times have a sum within a word.
pub sum-small : (times : List ℕ) (k : ℕ) → Small times → k ≤ 32 → sum_below k (time_at times) ≤ 32 * time_limit
unfolding Small
sum-small times k small few = omega (arith, sum_bound k (time_at times) time_limit (λ v l. small v), mul-le-mul_right time_limit few)

-- One node's own time and the longest chain among its predecessors, where the array holds the chains of the nodes below it.
module _
    (masks times : List ℕ)
    (v : ℕ)
    (chains : List ℕ)
    (longest : ℕ)
    (few : v < 32)
    (earlier : chains ≡ chains_below masks (time_at times) v ++ replicate (32 - v) 0)
    (e : longest ≡ longest_among chains (members 32 (get_or masks v 0)))
  where
    own_is : time_at times v + longest ≡ chain_of masks (time_at times) v
    unfolding chain_of chain_at predecessors_of
    own_is =
        let nodes = members 32 (get_or masks v 0) in
        let read = ap (λ (l : List ℕ). longest_among l nodes) earlier in
        let held = longest_padded (chains_below masks (time_at times) v) (32 - v) nodes in
        ap (λ (n : ℕ). time_at times v + n) (e ∙ read ∙ held)

    -- They come to a word.
    pub own_small : Small times → time_at times v + longest ≤ 32 * time_limit
    own_small small =
        omega (
          arith,
          own_is,
          span_at masks (time_at times) (suc v) v (omega arith),
          span_sum masks (time_at times) (suc v),
          sum-small times (suc v) small (omega arith),
        )

    -- Stored behind the chains below v they give the chains below v + 1.
    pub chains_stored :
        set chains v (time_at times v + longest) ≡ chains_below masks (time_at times) (suc v) ++ replicate (32 - suc v) 0
    unfolding chains_below chain_of
    chains_stored =
        let below = chains_below masks (time_at times) v in
        let own = chain_of masks (time_at times) v in
        let rest : List ℕ = replicate (32 - suc v) 0 in
        let one : 32 - v ≡ suc (32 - suc v) = omega arith in
        ap₂ (λ (l : List ℕ) (n : ℕ). set l v n) (earlier ∙ ap (λ (n : ℕ). below ++ replicate n 0) one) own_is
        ∙ set_at below 0 rest own v (chains_length masks (time_at times) v)
        ∙ sym (append_snoc below own rest)

-- The span: the longest chain among the k lowest nodes, read from the array.
pub span_read : (masks : List ℕ) (times : ℕ → ℕ) (k : ℕ) (chains : List ℕ) (nodes longest : ℕ) → k ≤ 32 →
    chains ≡ chains_below masks times k ++ replicate (32 - k) 0 →
    nodes ≡ set_of (range 0 (min k 32)) →
    longest ≡ longest_among chains (members 32 nodes) →
    longest ≡ span_of masks times k
unfolding span_of
span_read masks times k chains nodes longest few all-chains all-nodes e =
    let set = all-nodes ∙ ap (λ (n : ℕ). set_of (range 0 n)) (min-eq_left few) in
    let listed = ap (members 32) set ∙ members-set_of 32 (range 0 k) (rising_range 0 k 32 (omega arith)) in
    e ∙ ap₂ longest_among all-chains listed ∙ longest_padded (chains_below masks times k) (32 - k) (range 0 k)
