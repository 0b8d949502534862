-- S8.2 and S8.3: a node starts only when each of its predecessors has ended: the test of `is_ready` by sets, read bit
-- by bit.
use Prim.Native.Nat.{ℕ, ◌+◌, ◌≤◌, ◌<◌, min}
use mathlib.Core.Path.{◌≡◌, sym, ap, ap₂, subst, ◌∙◌}
use mathlib.Core.Bool.{Bool, true, not, ◌&&◌, and-eq-true_iff}
use mathlib.Core.List.{Memᴰ}
use native.Mathlib.Omega.{arith}
use borrow.Author.Tests.{eqb-true, eq-eqb, not-true, ltb-true, lt-ltb}
use lib.Bits.{bit_and}
use lib.Dec.{ltb}
use lib.ListN.{length, length-take}
use Rattle.std.specs.Prelude.{filter}
use Rattle.basics.specs.Lists.{range, count}
use Rattle.nodes.specs.Sets.{has}
use Rattle.nodes.proofs.Bits.{has_and, within_and, within_antisymm}
use Rattle.basics.proofs.Members.{range-has, range-within, filter-has, filter_from}
use Rattle.basics.proofs.Counts.{count_mono, filter_lowest}
use Rattle.model.specs.Row.{Row, is_subset, predecessors_of, precedes, is_ready, ready, running}
use Rattle.model.specs.Beside.{MayStart, Startable}

-- A set is within another just where each of its members is in the other.
subset_member : (a b v : ℕ) → is_subset a b ≡ true → has a v ≡ true → has b v ≡ true
unfolding is_subset
subset_member a b v e h =
    ((and-eq-true_iff (has a v) (has b v)).0 (sym (has_and a b v) ∙ ap (λ (n : ℕ). has n v) (eqb-true (bit_and a b) a e) ∙ h)).1

subset_intro : (a b : ℕ) → ((v : ℕ) → has a v ≡ true → has b v ≡ true) → is_subset a b ≡ true
unfolding is_subset
subset_intro a b h =
    eq-eqb (bit_and a b) a
    (within_antisymm (bit_and a b) a (within_and a b) (λ v e. has_and a b v ∙ ap₂ ◌&&◌ e (h v e)))

may_start : (r : Row) (v : ℕ) → is_ready r v ≡ true → v < r.fixed.nodes → MayStart r v
unfolding is_ready precedes
may_start r v e below =
    record {
      node = below;
      alive = first.0;
      left = not-true (has r.job.ended v) first.1;
      predecessors = λ j. subset_member mask r.job.ended j all.1;
    }
  where
    mask : ℕ
    mask = predecessors_of r.fixed.predecessors v

    all : ((r.job.alive && not (has r.job.ended v)) ≡ true) × (is_subset mask r.job.ended ≡ true)
    all = (and-eq-true_iff (r.job.alive && not (has r.job.ended v)) (is_subset mask r.job.ended)).0 e

    first : (r.job.alive ≡ true) × (not (has r.job.ended v) ≡ true)
    first = (and-eq-true_iff r.job.alive (not (has r.job.ended v))).0 all.0

ready-start : (r : Row) (v : ℕ) → MayStart r v → is_ready r v ≡ true
unfolding is_ready precedes
ready-start r v s =
    ap₂ ◌&&◌ (ap₂ ◌&&◌ s.alive (ap not s.left))
    (subset_intro (predecessors_of r.fixed.predecessors v) r.job.ended s.predecessors)

start-ready : (r : Row) (v : ℕ) → MayStart r v → Memᴰ v (ready r)
unfolding ready
start-ready r v s =
    filter-has (is_ready r) _ v (range-has _ r.fixed.nodes v (omega arith) (omega (arith, s.node))) (ready-start r v s)

running_many : (grant : ℕ) (r : Row) →
    length (running grant r) ≡ min grant (length (ready r))
unfolding running
running_many grant r = omega (arith, length-take grant (ready r))

-- A node among the first of the ready ones is ready, and fewer than are granted are ready below it.
unfoldable pub runs_first : ℕ → Row → ℕ → Bool
runs_first grant r v = is_ready r v && ltb (count (is_ready r) v) grant

pub running_is : (grant : ℕ) (r : Row) → running grant r ≡ filter (runs_first grant r) (range 0 r.fixed.nodes)
unfolding running ready runs_first
running_is grant r = sym (filter_lowest (is_ready r) grant r.fixed.nodes)

record First (grant : ℕ) (r : Row) (v : ℕ) : Type 0 where
  pub node : v < r.fixed.nodes
  pub ready : is_ready r v ≡ true
  pub few : count (is_ready r) v < grant

running-first : (grant : ℕ) (r : Row) (v : ℕ) → Memᴰ v (running grant r) → First grant r v
unfolding runs_first
running-first grant r v m =
    record { node = omega (arith, below); ready = both.0; few = ltb-true _ _ both.1 }
  where
    kept : Memᴰ v (range 0 r.fixed.nodes) × (runs_first grant r v ≡ true)
    kept = filter_from (runs_first grant r) (range 0 r.fixed.nodes) v (subst (Memᴰ v) (running_is grant r) m)

    below : (0 ≤ v) × (v < 0 + r.fixed.nodes)
    below = range-within 0 r.fixed.nodes v kept.0

    both : (is_ready r v ≡ true) × (ltb (count (is_ready r) v) grant ≡ true)
    both = (and-eq-true_iff (is_ready r v) (ltb (count (is_ready r) v) grant)).0 kept.1

first-running : (grant : ℕ) (r : Row) (v : ℕ) → First grant r v → Memᴰ v (running grant r)
unfolding runs_first
first-running grant r v f =
    subst (Memᴰ v) (sym (running_is grant r))
    (filter-has (runs_first grant r) (range 0 r.fixed.nodes) v
    (range-has 0 r.fixed.nodes v (omega arith) (omega (arith, f.node)))
    (ap₂ ◌&&◌ f.ready (lt-ltb (count (is_ready r) v) grant f.few)))

-- S8.2 and S8.3, of every row.
pub startable : (r : Row) → Startable r
startable r =
    record {
      runs = λ grant v m. let f = running-first grant r v m in may_start r v f.ready f.node;
      listed = start-ready r;
      lowest = lowest;
      many = λ grant. running_many grant r;
    }
  where
    lowest : (grant u v : ℕ) → u < v → MayStart r u → Memᴰ v (running grant r) → Memᴰ u (running grant r)
    lowest grant u v below s m =
        let f = running-first grant r v m in
        first-running grant r u
        (record {
          node = s.node;
          ready = ready-start r u s;
          few = omega (arith, f.few, count_mono (is_ready r) u v (omega arith));
        })
