-- S5.7: after k tasks were kept, the total held for the next one is the least of all sets of k + 1 tasks, up to M + 1.
use Prim.Native.Nat.{ℕ, ◌+◌, ◌-◌, ◌≤◌, ◌<◌}
use mathlib.Core.Path.{◌≡◌, refl, sym, ap, ◌∙◌, subst}
use mathlib.Core.List.Memᴰ
use mathlib.Core.List.{List, Memᴰ}
use mathlib.Core.Bool.{false}
use native.Mathlib.Omega.{arith}
use lib.ListN.{length, take}
use borrow.Author.Tests.{eqb-true, eq-eqb}
use Rattle.std.specs.Prelude.{filter}
use Rattle.basics.specs.Order.{least, capped_at}
use Rattle.basics.proofs.Members.{filter-has, filter_from}
use Rattle.basics.proofs.Order.{capped_is}
use Rattle.shares.specs.declared.share.Share.{Share}
use Rattle.shares.specs.Totals.{share_at, critical_total}
use Rattle.keeping.specs.Kept.{subsets, processors_for, typical_share_at, kept_share}
use Rattle.keeping.specs.Running.{without, totals_keeping}
use Rattle.keeping.specs.Promise.{RunningLeast}
use Rattle.keeping.specs.means.Keeping.{Next, none, found, KeptAfter, none_kept, one_more, Keepable}
use Rattle.keeping.proofs.Parts.{Part, part_subset, subset_part, filter_part}
use Rattle.keeping.proofs.Greedy.{fewest, too_many}
use Rattle.keeping.proofs.Running.{low_from}
use Rattle.keeping.proofs.Steps.{also, filter_also, also_length, KeptSoFar, rising, kept_none, line_typical, free_has, Least, split_more, kept_more, line-length}
use Rattle.keeping.proofs.Steps as steps

-- The totals with k tasks kept, by sets.
module _ (n : ℕ) (shares : List Share) (k : ℕ) where
  keeping_has : (tasks : List ℕ) → Part (without n shares) tasks → length tasks ≡ k →
      Memᴰ (critical_total (take n shares) + processors_for (typical_share_at shares) tasks) (totals_keeping n shares k)
  unfolding totals_keeping
  keeping_has tasks p many =
      Memᴰ.map (λ set. critical_total (take n shares) + processors_for (typical_share_at shares) set)
      (filter-has _ (subsets (without n shares)) tasks (part_subset p) (eq-eqb (length tasks) k many))

  keeping_from : (P : ℕ → Type 0) →
      ((tasks : List ℕ) → Part (without n shares) tasks → length tasks ≡ k → P (critical_total (take n shares) + processors_for (typical_share_at shares) tasks)) →
      (y : ℕ) → Memᴰ y (totals_keeping n shares k) → P y
  unfolding totals_keeping
  keeping_from P each y m =
      let image = Memᴰ.of_map (λ set. critical_total (take n shares) + processors_for (typical_share_at shares) set) _ m in
      let kept = filter_from _ (subsets (without n shares)) image.0 image.1 in
      rw (← image.2) (each image.0 (subset_part (without n shares) image.0 kept.0) (eqb-true _ k kept.1))

module _ (M n : ℕ) (shares : List Share) (able : Keepable M n shares) where
  module _ {k : ℕ} {line : List Share} (kept : KeptSoFar M n shares k line) (there : n ≤ length line) where
    -- Where the next task is found, it and those kept have the least shares; where it is not, any set of one task more
    -- takes too many.
    next_of_all : {i total : ℕ} → Next M n line i total → total ≡ capped_at (M + 1) (least (totals_keeping n shares (k + 1)))
    next_of_all (none past) =
        capped_is (M + 1) (totals_keeping n shares (k + 1)) (M + 1) (omega arith)
        (keeping_from n shares (k + 1) (λ y. M + 1 ≤ y)
        (λ tasks p many.
        omega (
          arith,
          too_many (typical_share_at shares) kept.test kept.split (M - critical_total (take n line)) full tasks p (omega (arith, kept.many)),
          kept.sum,
          kept.fits,
        )))
        (λ less. absurd (omega arith))
      where
        full : (i : ℕ) → Memᴰ i (without n shares) → kept.test i ≡ false → M - critical_total (take n line) < typical_share_at shares i
        full i m out =
            omega (arith, past i (low_from n shares i m).0 (free_has M n shares able kept i m out), line_typical M n shares able kept i, kept.fits)
    next_of_all (found {i} inside low fits first) =
        capped_is (M + 1) (totals_keeping n shares (k + 1)) (critical_total (take n line) + typical_share_at line i) (omega arith)
        (keeping_from n shares (k + 1) (λ y. critical_total (take n line) + typical_share_at line i ≤ y)
        (λ tasks p many.
        omega (
          arith,
          fewest (typical_share_at shares) (also kept.test i) (split_more M n shares able kept i there task) tasks p (many ∙ sym long),
          whole,
        )))
        (λ less.
        subst (λ (y : ℕ). Memᴰ y (totals_keeping n shares (k + 1))) (sym whole)
        (keeping_has n shares (k + 1) (filter (also kept.test i) (without n shares)) (filter_part (also kept.test i) (without n shares)) long))
      where
        task : Least M n shares able kept i
        task = steps.least M n shares able kept i (critical_total (take n line) + typical_share_at line i) fits (found inside low fits first)

        long : length (filter (also kept.test i) (without n shares)) ≡ k + 1
        long = also_length kept.test i (without n shares) (rising M n shares able) task.low task.out ∙ ap (λ (j : ℕ). j + 1) kept.many

        whole : critical_total (take n line) + typical_share_at line i
            ≡ critical_total (take n shares) + processors_for (typical_share_at shares) (filter (also kept.test i) (without n shares))
        whole =
            omega (
              arith,
              filter_also (typical_share_at shares) kept.test i (without n shares) (rising M n shares able) task.low task.out,
              line_typical M n shares able kept i,
              kept.sum,
            )

  -- What is kept after k tasks.
  after : n ≤ length shares → {k : ℕ} {line : List Share} → KeptAfter M n shares k line → KeptSoFar M n shares k line
  unfolding kept_share typical_share_at
  after there none_kept = kept_none M n shares able
  after there (one_more {i = i} {total} {line} earlier next to) =
      let kept = after there earlier in
      kept_more M n shares able kept (omega (arith, line-length M n shares able kept)) i total to next (share_at line i).typical (share_at line i).typical refl refl

  pub running-least : n ≤ length shares → {k i total : ℕ} {line : List Share} → KeptAfter M n shares k line → Next M n line i total →
      total ≡ capped_at (M + 1) (least (totals_keeping n shares (k + 1)))
  running-least there earlier next =
      let kept = after there earlier in
      next_of_all kept (omega (arith, line-length M n shares able kept)) next

-- The same of any shares that can be kept.
pub running_least : RunningLeast
unfolding RunningLeast
running_least M n k i total shares line able there earlier next = omega (arith, running-least M n shares able there earlier next)
