-- `allocation::selection::lower`: the goals that the check leaves.
use mathlib.Core.Path.{◌≡◌, ap, ◌∙◌}
use native.Mathlib.Omega.{arith}
use lib.ListN.{length-set}
use Rattle.allocation.specs.means.Selection.{total_at}
use Rattle.allocation.proofs.Lowering.{partway, lowered_none, lowered_more, lowered-all}
use Rattle.allocation.proofs.selection.lower.Goals as goal

pub loop-t-init : goal.loop-t-init
loop-t-init c =
    (omega arith, omega arith, c.requires.all_there, lowered_none c.args.a c.args.critical (total_at c.args.rest.now) c.args.totals.now c.requires.all_there)

pub loop-t-preserved : goal.loop-t-preserved
unfolding total_at
loop-t-preserved c =
    let rest = total_at c.args.rest.now in (
      omega arith,
      omega arith,
      length-set c.loop-t.totals c.loop-t.t c.min.result ∙ c.loop-t.invariant.2,
      lowered_more c.args.a c.args.critical rest c.args.totals.now c.loop-t.t c.loop-t.totals (omega arith) (omega arith) c.loop-t.invariant.3
          c.min.ensures (omega arith),
    )

pub returns : goal.returns
returns c =
    let all : c.loop-t.t ≡ 65 = omega arith in
    c.loop-t.invariant.3
    ∙ ap (partway c.args.a c.args.critical (total_at c.args.rest.now) c.args.totals.now) all
    ∙ lowered-all c.args.a c.args.critical (total_at c.args.rest.now) c.args.totals.now
