-- `basics::numbers::u32s_at`: the cells hold the numbers passed.
use Rattle.std.proofs.Common.{◌≡◌, ◌+◌, ◌*◌}
use Rattle.basics.specs.Lists.{cells}
use Rattle.basics.specs.Numbers.{u32_at}
use Rattle.basics.proofs.numbers.u32s_at.Given as goal

abbrev pub invariant-loop-i : goal.invariant-loop-i
invariant-loop-i g l = l.numbers ≡ cells g.row.N (λ i. u32_at l.s (l.at + 4 * i)) 0 l.i
