-- Sums, counts and tests over the numbers below k, each by induction on k.
use Prim.Native.Nat.{ℕ, zero, suc, ◌+◌, ◌≤◌, ◌<◌, min}
use mathlib.Core.Path.{◌≡◌, refl, ap, ap₂, ◌∙◌}
use mathlib.Core.Bool.{Bool, true, false, ◌&&◌, and-true, true≢false}
use native.Mathlib.Omega.{arith}
use lib.Dec.{ltb}
use borrow.Author.Tests.{ltb-true, ltb-false, lt-ltb}
use Rattle.std.proofs.lemmas.Bool.{and_parts}
use borrow.Author.Count.{below_more}
use Rattle.basics.specs.Lists.{bit, count, all_below}
use Rattle.basics.proofs.Below.{all_at}
use Rattle.basics.proofs.Counts.{count_ext, count_mono}
use Rattle.model.specs.Budget.{sum_below}

-- Whether v is among the s lowest numbers that pass the test: it passes, and fewer than s below it do.
unfoldable pub lowest : ℕ → (ℕ → Bool) → ℕ → Bool
lowest s p v = p v && ltb (count p v) s

pub sum_le : (k : ℕ) (f g : ℕ → ℕ) → ((v : ℕ) → v < k → f v ≤ g v) → sum_below k f ≤ sum_below k g
unfolding sum_below
sum_le zero f g h = omega arith
sum_le (suc k) f g h = omega (arith, sum_le k f g (λ v l. h v (omega arith)), h k (omega arith))

pub sum_same : (k : ℕ) (f g : ℕ → ℕ) → ((v : ℕ) → v < k → f v ≡ g v) → sum_below k f ≡ sum_below k g
unfolding sum_below
sum_same zero f g h = refl
sum_same (suc k) f g h = omega (arith, sum_same k f g (λ v l. h v (omega arith)), h k (omega arith))

-- The first term apart.
pub sum_first : (k : ℕ) (f : ℕ → ℕ) → sum_below (suc k) f ≡ f 0 + sum_below k (λ v. f (suc v))
unfolding sum_below
sum_first zero f = omega arith
sum_first (suc k) f = omega (arith, sum_first k f)

pub sum_add : (k : ℕ) (f g : ℕ → ℕ) → sum_below k (λ v. f v + g v) ≡ sum_below k f + sum_below k g
unfolding sum_below
sum_add zero f g = refl
sum_add (suc k) f g = omega (arith, sum_add k f g)

pub sum_zero : (k : ℕ) → sum_below k (λ _. 0) ≡ 0
unfolding sum_below
sum_zero zero = refl
sum_zero (suc k) = omega (arith, sum_zero k)

pub sum_bits : (k : ℕ) (p : ℕ → Bool) → sum_below k (λ v. bit (p v)) ≡ count p k
unfolding sum_below count
sum_bits zero p = refl
sum_bits (suc k) p = omega (arith, sum_bits k p)

pub sum_at_lem : (k : ℕ) (f : ℕ → ℕ) (v : ℕ) → v < k → f v ≤ sum_below k f
unfolding sum_below
sum_at_lem zero f v l = absurd (omega arith)
sum_at_lem (suc k) f v l =
    below_more (λ u. f u ≤ sum_below k f + f k) k (λ u h. omega (arith, sum_at_lem k f u h)) (omega arith) v (omega arith)

pub count_some : (p : ℕ → Bool) (k v : ℕ) → v < k → p v ≡ true → 1 ≤ count p k
count_some p k v l e =
    omega (arith, sum_bits k p, sum_at_lem k (λ u. bit (p u)) v l, ap bit e)

pub count_lowest : (s : ℕ) (p : ℕ → Bool) (k : ℕ) → count (lowest s p) k ≡ min s (count p k)
unfolding count lowest
count_lowest s p zero = omega arith
count_lowest s p (suc k) = ap (λ n. n + bit (p k && ltb (count p k) s)) (count_lowest s p k) ∙ more (count p k) (p k)
  where
    taken : (n : ℕ) (t : Bool) → ltb n s ≡ t → min s n + bit t ≡ min s (n + 1)
    taken n true e = omega (arith, ltb-true n s e)
    taken n false e = omega (arith, ltb-false n s e)

    more : (n : ℕ) (t : Bool) → min s n + bit (t && ltb n s) ≡ min s (n + bit t)
    more n true = taken n (ltb n s) refl
    more n false = omega arith

pub lowest_all : (s : ℕ) (p : ℕ → Bool) (k : ℕ) → count p k < s → (v : ℕ) → v < k → lowest s p v ≡ p v
unfolding lowest
lowest_all s p k few v l = rw (lt-ltb (count p v) s (omega (arith, count_mono p v k (omega arith)))) (and-true (p v))

pub lowest_passes : (s : ℕ) (p : ℕ → Bool) (v : ℕ) → lowest s p v ≡ true → p v ≡ true
unfolding lowest
lowest_passes s p v e = (and_parts (p v) (ltb (count p v) s) e).0

pub lowest_same : (s v : ℕ) (p q : ℕ → Bool) → ((u : ℕ) → u ≤ v → p u ≡ q u) → lowest s p v ≡ lowest s q v
unfolding lowest
lowest_same s v p q h = ap₂ (λ t n. t && ltb n s) (h v (omega arith)) (count_ext p q v (λ u l. h u (omega arith)))

-- The least number below k that fails a test: all below it pass.
pub record LeastFailing (k : ℕ) (p : ℕ → Bool) : Type 0 where
  pub at : ℕ
  pub below : at < k
  pub fails : p at ≡ false
  pub others : (u : ℕ) → u < at → p u ≡ true

pub least_failing : (k : ℕ) (p : ℕ → Bool) → all_below k p ≡ false → LeastFailing k p
unfolding all_below
least_failing zero p e = absurd (true≢false e)
least_failing (suc k) p e = go (least_failing k p) (all_below k p) refl
  where
    go : (all_below k p ≡ false → LeastFailing k p) → (t : Bool) → all_below k p ≡ t → LeastFailing (suc k) p
    go earlier false some =
        let w = earlier some in
        record { at = w.at; below = omega arith; fails = w.fails; others = w.others }
    go earlier true all = record { at = k; below = omega arith; fails = rw all at e; others = all_at k p all }
