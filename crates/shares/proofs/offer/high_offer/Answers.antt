-- `shares::offer::high_offer`: the goals that the check leaves.
use Prim.Native.Nat.{ℕ, ◌+◌, ◌-◌, ◌<◌}
use mathlib.Core.Path.{◌≡◌, sym, ap, ◌∙◌}
use native.Mathlib.Omega.{arith}
use lib.ListN.{set}
use Rattle.std.specs.Prelude.{Option, unwrap_or}
use Rattle.sheet.specs.declared.task.Figures.{Figures}
use Rattle.shares.specs.Search.{least_critical}
use Rattle.shares.specs.Offer.{tabulate}
use Rattle.shares.proofs.Least.{least_bound, least_past}
use Rattle.shares.proofs.Walk.{number_answer}
use Rattle.basics.specs.Lists.{cells_from}
use Rattle.basics.proofs.Cells.{cells_none, cells_store_from}
use Rattle.shares.proofs.Offers.{cells_tabulated}
use Rattle.shares.proofs.offer.high_offer.Goals.{After-from}
use Rattle.shares.proofs.offer.high_offer.Goals as goal

pub loop-a-init : goal.loop-a-init
loop-a-init c =
    (omega arith, omega arith, sym (cells_none (least_critical c.args.m c.args.f) (c.args.m + 1) 1 64 1 (omega arith)))

-- The offer with the cell that the loop stores.
stored : (c : After-from) →
    set c.loop-a.offer (c.from.result - 1) c.unwrap_or.result
    ≡ cells_from 1 64 (least_critical c.args.m c.args.f)
    (c.args.m + 1) (c.loop-a.a + 1)
stored c =
    let found = c.unwrap_or.ensures ∙ ap (λ (r : Option ℕ). unwrap_or r (c.args.m + 1)) c.least_critical.ensures in
    let cell : c.unwrap_or.result ≡ least_critical c.args.m c.args.f c.loop-a.a = found ∙ number_answer c.args.m _ (least_bound c.args.m c.args.f c.loop-a.a) in
    rw (c.from.ensures, cell, c.loop-a.invariant.2) (cells_store_from (least_critical c.args.m c.args.f) (c.args.m + 1) 1 64 (c.loop-a.a - 1) c.loop-a.a (omega arith) (omega arith))

pub loop-a-preserved : goal.loop-a-preserved
loop-a-preserved c = (omega arith, omega arith, stored (goal.at.loop-a-preserved c).After-from)

-- An offer that is done up to m is done.
done : (f : Figures) (m next : ℕ) → m < next → cells_from 1 64 (least_critical m f) (m + 1) next ≡ tabulate (least_critical m f) 1 64
done f m next past = cells_tabulated (least_critical m f) (m + 1) 1 64 next (λ a above. least_past m f a (omega arith))

pub returns : goal.returns
returns c = c.loop-a.invariant.2 ∙ done _ _ c.loop-a.a (omega arith)

pub returns-2 : goal.returns-2
returns-2 c = stored (goal.at.returns-2 c).After-from ∙ done _ _ (c.loop-a.a + 1) (omega arith)
