-- `shares::search::least_critical`: what the search from b gives is what it gives from a, and b is from a to m + 1.
use Prim.Native.Nat.{◌+◌, ◌-◌, ◌*◌, ◌≤◌}
use mathlib.Core.Path.{◌≡◌}
use Rattle.shares.specs.means.Terms.{meets}
use Rattle.shares.specs.Search.{first}
use Rattle.shares.proofs.search.least_critical.Given as goal

abbrev pub invariant-loop-b : goal.invariant-loop-b
invariant-loop-b l =
    record {
      from : l.a ≤ l.b;
      to : l.b ≤ l.m + 1;
      same : first (meets l.t l.a) (l.m + 1) l.a (l.m + 1 - l.a) ≡ first (meets l.t l.a) (l.m + 1) l.b (l.m + 1 - l.b);
      needed : l.need ≡ l.t.slope * l.b + l.t.fixed + l.t.extra * (l.b - l.a);
      had : l.have ≡ l.t.supply * l.b;
    }

abbrev pub decreases-loop-b : goal.decreases-loop-b
decreases-loop-b l = l.m + 1 - l.b
