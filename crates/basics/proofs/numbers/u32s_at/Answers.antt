-- `basics::numbers::u32s_at`: no cell is filled at first, and a store fills one more.
use Rattle.std.proofs.Common.{◌+◌, ◌*◌, sym, arith}
use Rattle.basics.specs.Numbers.{u32_at}
use Rattle.basics.proofs.Cells.{cells_none, cells_store}
use Rattle.basics.proofs.numbers.u32s_at.Goals as goal

pub loop-i-init : goal.loop-i-init
loop-i-init g c = sym (cells_none (λ i. u32_at c.args.s.now (c.args.at + 4 * i)) 0 0 g.row.N 0 (omega arith))

pub loop-i-preserved : goal.loop-i-preserved
loop-i-preserved g c =
    rw (c.u32_at.ensures, c.loop-i.invariant)
    (cells_store (λ i. u32_at c.args.s.now (c.args.at + 4 * i)) 0 g.row.N c.loop-i.i (omega arith))
