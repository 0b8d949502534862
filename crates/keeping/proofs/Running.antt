-- S5.7: the running totals. A task that is kept adds its typical share to the critical total; and the total with the
-- next task to keep is the least of the totals with one task more, or M + 1 where that is above M.
use Prim.Native.Nat.{ℕ, zero, suc, ◌+◌, ◌≤◌, ◌<◌}
use mathlib.Core.Path.{◌≡◌}
use mathlib.Core.Logic.{inl, inr}
use mathlib.Core.List.Memᴰ
use mathlib.Core.List.{List, [], ◌∷◌, Memᴰ}
use native.Mathlib.Omega.{arith}
use lib.ListN.{length, set, take}
use borrow.Author.Tests.{eqb-true, eq-eqb}
use Rattle.basics.specs.Lists.{range}
use Rattle.basics.specs.Order.{least, capped_at}
use Rattle.basics.proofs.Members.{range-has, range-within, filter-has, filter_from}
use Rattle.basics.proofs.Order.{capped_is}
use Rattle.shares.specs.declared.share.Share.{Share}
use Rattle.shares.specs.Totals.{share_at, critical_total}
use Rattle.keeping.specs.Kept.{typical_share_at, kept_share}
use Rattle.keeping.specs.Running.{critical_share_at, without, total_with_task, totals_with_one}
use Rattle.keeping.specs.means.Keeping.{NotAfter, Next, none, found, Keepable}

-- The critical total with one share put in.
total_set : (shares : List Share) (n i : ℕ) (s : Share) → i < n → i < length shares →
    critical_total (take n (set shares i s)) + (share_at shares i).critical ≡ critical_total (take n shares) + s.critical
unfolding share_at
total_set [] n i s inside there = absurd (omega arith)
total_set (u ∷ shares) zero i s inside there = absurd (omega arith)
total_set (u ∷ shares) (suc n) zero s inside there = omega arith
total_set (u ∷ shares) (suc n) (suc i) s inside there = omega (arith, total_set shares n i s (omega arith) (omega arith))

module _ (n : ℕ) (shares : List Share) where
  -- The tasks without a critical share.
  pub low_from : (i : ℕ) → Memᴰ i (without n shares) → (i < n) × (critical_share_at shares i ≡ 0)
  unfolding without
  low_from i m =
      let here = filter_from _ (range 0 n) i m in
      (omega (arith, (range-within 0 n i here.0).1), eqb-true (critical_share_at shares i) 0 here.1)

  pub low_has : (i : ℕ) → i < n → critical_share_at shares i ≡ 0 → Memᴰ i (without n shares)
  unfolding without
  low_has i inside zero-share =
      filter-has _ (range 0 n) i (range-has 0 n i (omega arith) (omega arith)) (eq-eqb (critical_share_at shares i) 0 zero-share)

  -- S5.7: the total with one task more kept.
  pub one_more_kept : n ≤ length shares → (i : ℕ) → i < n → critical_share_at shares i ≡ 0 →
      total_with_task n shares i ≡ critical_total (take n shares) + typical_share_at shares i
  unfolding total_with_task critical_share_at typical_share_at kept_share
  one_more_kept long i inside zero-share = omega (arith, total_set shares n i (kept_share (share_at shares i)) inside (omega arith), zero-share)

  module _ (long : n ≤ length shares) where
    -- The total with a task without a critical share is one of them, and each of them is the total with such a task.
    with_has : (i : ℕ) → i < n → critical_share_at shares i ≡ 0 →
        Memᴰ (critical_total (take n shares) + typical_share_at shares i) (totals_with_one n shares)
    unfolding totals_with_one
    with_has i inside zero-share =
        rw (← one_more_kept long i inside zero-share) (Memᴰ.map (total_with_task n shares) (low_has i inside zero-share))

    with_from : (P : ℕ → Type 0) → ((j : ℕ) → j < n → critical_share_at shares j ≡ 0 → P (critical_total (take n shares) + typical_share_at shares j)) →
        (y : ℕ) → Memᴰ y (totals_with_one n shares) → P y
    unfolding totals_with_one
    with_from P each y m =
        let one = Memᴰ.of_map (total_with_task n shares) (without n shares) m in
        let low = low_from one.0 one.1 in
        rw (← one.2, one_more_kept long one.0 low.0 low.1) (each one.0 low.0 low.1)

-- What is found of the next task to keep.
module _ {M n : ℕ} {shares : List Share} where
  -- A total within M is that of a task.
  pub next_inside : {i x : ℕ} → Next M n shares i x → x ≤ M → i < n
  next_inside (none more) to = absurd (omega arith)
  next_inside (found inside low fits first) to = inside

  -- The total rises, since the task has a typical share.
  pub next_above : Keepable M n shares → {i x : ℕ} → Next M n shares i x → critical_total (take n shares) < x
  next_above able (none more) = let fits = able.fits in omega arith
  next_above able (found {i} inside low fits first) = let one = able.some_share i inside in omega arith

  -- It is the critical total of the shares, once the task's critical share is its typical one.
  pub next_total : n ≤ length shares → {i x : ℕ} → Next M n shares i x → x ≤ M → (typical critical : ℕ) → critical ≡ typical_share_at shares i →
      x ≡ critical_total (take n (set shares i (record { typical = typical; critical = critical })))
  unfolding critical_share_at
  next_total long (none more) to typical critical same = absurd (omega arith)
  next_total long (found {i} inside low fits first) to typical critical same =
      omega (arith, total_set shares n i (record { typical = typical; critical = critical }) inside (omega arith), low, same)

  -- S5.7: the least of the totals with one task more kept, up to M + 1.
  pub next_least : n ≤ length shares → {i x : ℕ} → Next M n shares i x → x ≡ capped_at (M + 1) (least (totals_with_one n shares))
  next_least long (none more) =
      capped_is (M + 1) (totals_with_one n shares) (M + 1) (omega arith)
      (with_from n shares long (λ y. M + 1 ≤ y) (λ j inside low. omega (arith, more j inside low))) (λ less. absurd (omega arith))
  next_least long (found {i} inside low fits first) =
      capped_is (M + 1) (totals_with_one n shares) (critical_total (take n shares) + typical_share_at shares i) (omega arith)
      (with_from n shares long (λ y. critical_total (take n shares) + typical_share_at shares i ≤ y) (λ j inside' low'. at_most j (first j inside' low')))
      (λ less. with_has n shares long i inside low)
    where
      at_most : (j : ℕ) → NotAfter (typical_share_at shares) i j →
          critical_total (take n shares) + typical_share_at shares i ≤ critical_total (take n shares) + typical_share_at shares j
      at_most j (inl less) = omega arith
      at_most j (inr (same, _)) = omega arith
