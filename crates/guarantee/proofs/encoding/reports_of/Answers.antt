-- `guarantee::encoding::reports_of`: the cells that are filled are the reports in turn.
use Rattle.std.proofs.Common.{◌+◌, ◌*◌, take, ap, ◌∙◌, arith}
use Rattle.basics.specs.Lists.{cells}
use Rattle.basics.specs.Numbers.{u32_at}
use Rattle.basics.proofs.Cells.{cells_taken}
use Rattle.guarantee.specs.Encoding.{reports_at}
use Rattle.guarantee.proofs.encoding.reports_of.Goals as goal

pub returns-clause-value : goal.returns-clause-value
unfolding reports_at
returns-clause-value c =
    ap (take c.args.count) (c.u32s_at.ensures ∙ ap (cells 255 (λ i. u32_at c.args.call.now (2 + 4 * i)) 0) c.from.ensures)
    ∙ cells_taken (λ i. u32_at c.args.call.now (2 + 4 * i)) 0 0 255 c.args.count c.args.count (omega arith) (omega arith)
