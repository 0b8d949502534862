-- `allocation::selection::best_share`: best is the first best share before a, and least its total.
use Prim.Native.Nat.{◌-◌, ◌≤◌}
use Rattle.allocation.proofs.Lines.{BestUpTo}
use Rattle.allocation.proofs.selection.best_share.Given as goal

abbrev pub invariant-loop-a : goal.invariant-loop-a
invariant-loop-a l = (2 ≤ l.a) × BestUpTo l.offer l.rest l.t (l.a - 1) l.best l.least
