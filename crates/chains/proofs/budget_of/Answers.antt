-- `chains::budget_of`: the work is the sum of the times, and the span the longest chain among all the nodes.
use Prim.Native.Nat.{ℕ}
use mathlib.Core.Path.{ap₂, ◌∙◌}
use native.Mathlib.Omega.{arith}
use lib.ListN.{length}
use Rattle.chains.specs.Chains.{budget_of}
use Rattle.chains.specs.means.Bounds.{time_at}
use Rattle.chains.proofs.Stores.{span_read, sum-small}
use Rattle.chains.proofs.Sums.{sum_all}
use Rattle.chains.proofs.budget_of.Goals as goal

-- The times of the nodes add up to the work, which stays within a word.
pub total-requires : goal.total-requires
total-requires c =
    omega (arith, sum_all c.args.times.now, sum-small c.args.times.now (length c.args.times.now) c.requires.small c.requires.few)

pub returns : goal.returns
unfolding budget_of
returns c =
    ap₂ (λ (w s : ℕ). record { work = w; span = s }) (c.total.ensures ∙ sum_all c.args.times.now)
    (span_read c.args.masks.now (time_at c.args.times.now) (length c.args.times.now) _ _ _ c.requires.few c.chains_below-chains.ensures c.full-nodes.ensures c.longest_among.ensures)
