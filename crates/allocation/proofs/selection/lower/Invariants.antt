-- `allocation::selection::lower`: the totals from 1 on below t are lowered.
use Prim.Native.Nat.{◌≤◌}
use mathlib.Core.Path.{◌≡◌}
use lib.ListN.{length}
use Rattle.allocation.specs.means.Selection.{total_at}
use Rattle.allocation.proofs.Lowering.{partway}
use Rattle.allocation.proofs.selection.lower.Given as goal

abbrev pub invariant-loop-t : goal.invariant-loop-t
invariant-loop-t l =
    (1 ≤ l.t) × (l.t ≤ 65) × (length l.totals ≡ 65) × (l.totals ≡ partway l.a l.critical (total_at l.rest) l.initial.totals l.t)
