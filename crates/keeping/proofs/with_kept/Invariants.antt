-- `keeping::with_kept`: what is kept so far, and its critical total, which rises up to m.
use Prim.Native.Nat.{ℕ, ◌-◌}
use mathlib.Core.Path.{◌≡◌}
use lib.ListN.{take}
use Rattle.shares.specs.Totals.{critical_total}
use Rattle.keeping.proofs.Steps.{KeptSoFar}
use Rattle.keeping.proofs.with_kept.Given as goal

abbrev pub invariant-loop-next : goal.invariant-loop-next
invariant-loop-next l = ((k : ℕ) × KeptSoFar l.m l.n l.initial.all k l.all) × (l.total ≡ critical_total (take l.n l.all))

abbrev pub decreases-loop-next : goal.decreases-loop-next
decreases-loop-next l = l.m - l.total
