-- `shares::offer::high_offer`: the offer is done below typical share a and says m + 1 from a on, which is right above
-- m.
use Prim.Native.Nat.{◌+◌, ◌≤◌}
use mathlib.Core.Path.{◌≡◌}
use Rattle.shares.specs.Search.{least_critical}
use Rattle.basics.specs.Lists.{cells_from}
use Rattle.shares.proofs.offer.high_offer.Given as goal

abbrev pub invariant-loop-a : goal.invariant-loop-a
invariant-loop-a l = (1 ≤ l.a) × (l.a ≤ l.m + 1) × (l.offer ≡ cells_from 1 64 (least_critical l.m l.f) (l.m + 1) l.a)
