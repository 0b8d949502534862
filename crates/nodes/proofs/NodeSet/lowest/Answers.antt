-- `nodes::NodeSet::lowest`, where the set has more members: the chain gives the bits of the lowest.
use Prim.Native.Nat.{ℕ, ◌^◌}
use mathlib.Core.List.{List}
use mathlib.Core.Path.{◌≡◌, refl, ◌∙◌}
use native.Mathlib.Omega.{arith}
use borrow.Author.Rules.{rules}
use lib.ListN.{take}
use Rattle.std.specs.Int.Bits.{or_zero_r}
use Rattle.std.specs.Iterator.{YieldsFirstBy}
use Rattle.std.specs.Iterator.Adapters.{take_steps}
use Rattle.std.proofs.lemmas.Iterator.{YieldsList, YieldsList-from_take, YieldsList-from_map}
use Rattle.std.proofs.lemmas.Iterator.Adapters.{serves_from_places}
use Rattle.std.proofs.lemmas.Iterator.Consumers.{YieldsList-at, YieldsList-from_first, sum_by_from_yields_List, fits_by_from_yields_list}
use Rattle.nodes.specs.Sets.{members, set_of}
use Rattle.nodes.proofs.Members.{set_of_lowest_lt}
use Rattle.nodes.proofs.Picks.{set_of_sum, lowest_node_lt}
use Rattle.nodes.proofs.NodeSet.lowest.Goals.{After-map}
use Rattle.nodes.proofs.NodeSet.lowest.Goals as goal

-- The chain's nodes are the lowest members.
taken : (c : After-map) → YieldsList (take_steps (YieldsFirstBy (λ (v : ℕ). v) (λ (vs : List ℕ). vs))) (λ v. v) c.map.result.iter (take c.args.count (members 32 c.args.self))
taken c =
    YieldsList-at c.map.ensures.source
    (YieldsList-from_take c.args.count (YieldsList-from_first (λ v. v) (λ vs. vs) (members 32 c.args.self) (c.take.ensures.source ∙ c.iter.ensures)) (omega arith))

pub sum-requires-clause-can : goal.sum-requires-clause-can
sum-requires-clause-can c =
    (tt, serves_from_places (taken c) (λ x q e. refl) (λ x k l e. omega (arith, lowest_node_lt 32 c.args.self c.args.count k x l)))

pub sum-requires-clause-fits : goal.sum-requires-clause-fits
sum-requires-clause-fits c =
    fits_by_from_yields_list (λ v. 2 ^ v) _ c.map.result _
    (YieldsList-from_map _ (λ v. 2 ^ v) (taken c) c.map.ensures.closure (λ x r q k. search rules))
    (rw (set_of_sum _) (set_of_lowest_lt 32 c.args.self c.args.count))

-- By numbers, so that a sum to which 0 is joined proves too.
pub returns : goal.returns
returns c =
    let picked : c.sum.result ≡ set_of (take c.args.count (members 32 c.args.self)) =
    sum_by_from_yields_List (λ v. 2 ^ v) _ c.map.result _ c.sum.ensures.ran
    (YieldsList-from_map _ (λ v. 2 ^ v) (taken ((goal.at.returns c).After-map)) c.map.ensures.closure (λ x r q k. search rules))
    ∙ set_of_sum _ in
    omega (arith, or_zero_r)
