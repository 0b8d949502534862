-- Sets of nodes as the code keeps them: a subset, all nodes ended, the ready nodes gathered one by one, and the lowest
-- of them.
use Prim.Native.Nat.{ℕ, suc, ◌+◌, ◌-◌, ◌≤◌, ◌<◌, ◌^◌, min}
use mathlib.Core.Path.{◌≡◌, sym, ap, ◌∙◌}
use mathlib.Core.Bool.{Bool, true, false, not, ◌&&◌, and_comm}
use mathlib.Core.List.{List, []}
use native.Mathlib.Nat.{min-eq_left, add-zero, zero-add}
use native.Mathlib.Numerals.{add-one}
use native.Mathlib.Omega.{arith}
use borrow.Author.Tests.{lt-ltb}
use lib.Bits.{bit_and}
use lib.ListN.{take}
use Rattle.std.specs.Prelude.{filter}
use Rattle.basics.specs.Lists.{range, kept_if}
use Rattle.nodes.specs.Sets.{has, members, set_of, is_within}
use Rattle.nodes.proofs.Bits.{has-without, has_ext}
use Rattle.basics.proofs.Lists.{filter_none}
use Rattle.nodes.proofs.Members.{set_of-filter_lt, has-set_of-filter}
use Rattle.nodes.proofs.Parts.{and_eq_is_within}
use Rattle.nodes.proofs.Rising.{Rising, rising_range, rising_filter, rising_take, members-set_of, set_of_lt}
use Rattle.entries.specs.declared.state.TaskState.{TaskState}
use Rattle.entries.specs.Entry.{fixed_of, row_of}
use Rattle.model.specs.Row.{Row, is_subset, all_ended, predecessors_of, is_ready, ready, running, running_set}

-- For a word, the test of every member is the subset test.
pub within_subset : (a b : ℕ) → a < 2 ^ 32 → is_within 32 a b ≡ is_subset a b
unfolding is_subset
within_subset a b h = sym (and_eq_is_within 32 a b h)

-- All k nodes have ended just where the set of all k lies within the ended set.
pub full_ended : (k ended : ℕ) → k ≤ 32 → is_within 32 (set_of (range 0 (min k 32))) ended ≡ all_ended k ended
unfolding is_within all_ended
full_ended k ended h =
    rw (min-eq_left {n = k} {m = 32} h, members-set_of 32 (range 0 k) (rising_range 0 k 32 (omega arith)))

-- A set of kept nodes, the first one apart.
kept_apart : (t : Bool) (v : ℕ) (vs : List ℕ) → set_of (kept_if t v vs) ≡ set_of (kept_if t v []) + set_of vs
kept_apart true v vs = ap (λ (n : ℕ). n + set_of vs) (sym (add-zero (2 ^ v)))
kept_apart false v vs = sym (zero-add (set_of vs))

-- The nodes below k that pass a test, gathered from 0 on: what is gathered, with what is left, is the whole.
unfoldable pub Gathered : (ℕ → Bool) → ℕ → ℕ → ℕ → Type 0
Gathered p k v set = set + set_of (filter p (range v (k - v))) ≡ set_of (filter p (range 0 k))

module _ (p : ℕ → Bool) (k : ℕ) where
  pub gathered_none : Gathered p k 0 0
  unfolding Gathered
  gathered_none = let all : k - 0 ≡ k = omega arith in rw (all, zero-add)

  pub gathered_more : (v set : ℕ) → v < k → Gathered p k v set → Gathered p k (v + 1) (set + set_of (kept_if (p v) v []))
  unfolding Gathered range
  gathered_more v set h g =
      let step : k - v ≡ suc (k - suc v) = omega arith in
      let opened : set + set_of (filter p (range v (suc (k - suc v)))) ≡ set_of (filter p (range 0 k)) = rw step at g in
      rw (add-one v) (omega (arith, kept_apart (p v) v (filter p (range (suc v) (k - suc v)))))

  pub gathered_all : (v set : ℕ) → k ≤ v → Gathered p k v set → set ≡ set_of (filter p (range 0 k))
  unfolding Gathered range
  gathered_all v set h g =
      let none : k - v ≡ 0 = omega arith in
      sym (add-zero set) ∙ rw none at g

  -- No step leaves the word.
  pub gathered_fits : (v set : ℕ) → k ≤ 32 → v < k → Gathered p k v set → set + set_of (kept_if (p v) v []) < 2 ^ 32
  unfolding Gathered
  gathered_fits v set few h g =
      let more : Gathered p k (v + 1) (set + set_of (kept_if (p v) v [])) = gathered_more v set h g in
      omega (arith, set_of_lt 32 (filter p (range 0 k)) (rising_filter p 0 32 (range 0 k) (rising_range 0 k 32 (omega arith))))

-- Whether all predecessors of node v have ended.
unfoldable pub is_unblocked : Row → ℕ → Bool
is_unblocked r v = is_subset (predecessors_of r.fixed.predecessors v) r.job.ended

-- The ready nodes: none of a job that is not alive, and of an alive one those that wait for no node, less the ended
-- ones.
pub ready_none : (r : Row) → r.job.alive ≡ false → 0 ≡ set_of (ready r)
unfolding ready is_ready
ready_none r dead = ap set_of (sym (filter_none (is_ready r) (range 0 r.fixed.nodes) (λ v m. rw dead)))

pub ready_less_ended : (r : Row) (set : ℕ) → r.job.alive ≡ true → set ≡ set_of (filter (is_unblocked r) (range 0 r.fixed.nodes))
    → set - bit_and set r.job.ended ≡ set_of (ready r)
unfolding ready is_ready is_unblocked
ready_less_ended r set alive e =
    let k = r.fixed.nodes in
    let ended = r.job.ended in
    has_ext k (set - bit_and set ended) (set_of (filter (is_ready r) (range 0 k)))
    (omega (arith, e, set_of-filter_lt (is_unblocked r) k))
    (set_of-filter_lt (is_ready r) k)
    (λ v h.
    has-without set ended v
    ∙ ap (λ (n : ℕ). has n v && not (has ended v)) e
    ∙ rw (has-set_of-filter (is_unblocked r) k v, has-set_of-filter (is_ready r) k v, lt-ltb v k h, alive)
    (and_comm (is_unblocked r v) (not (has ended v))))

-- The lowest of an entry's ready nodes are the running ones, as sets.
pub lowest_ready : (grant : ℕ) (e : TaskState) → e.nodes ≤ 32
    → set_of (take grant (members 32 (set_of (ready (row_of e))))) ≡ running_set grant (row_of e)
unfolding running_set running ready row_of fixed_of
lowest_ready grant e h =
    ap (λ (vs : List ℕ). set_of (take grant vs))
    (members-set_of 32 (filter (is_ready (row_of e)) (range 0 e.nodes))
    (rising_filter (is_ready (row_of e)) 0 32 (range 0 e.nodes) (rising_range 0 e.nodes 32 (omega arith))))

-- The running nodes rise, so the set of them gives the list back.
pub running_rises : (grant : ℕ) (r : Row) (k : ℕ) → r.fixed.nodes ≤ k → Rising 0 k (running grant r)
unfolding running ready
running_rises grant r k h =
    rising_take grant 0 k (filter (is_ready r) (range 0 r.fixed.nodes))
    (rising_filter (is_ready r) 0 k (range 0 r.fixed.nodes) (rising_range 0 r.fixed.nodes k (omega arith)))

pub running-members : (grant : ℕ) (r : Row) → r.fixed.nodes ≤ 32 → members 32 (running_set grant r) ≡ running grant r
unfolding running_set
running-members grant r h = members-set_of 32 (running grant r) (running_rises grant r 32 h)
