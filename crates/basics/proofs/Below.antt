-- A test of every number below a bound, and of every number of a range: what it says of each, and what it takes.
use Prim.Native.Nat.{ℕ, zero, suc, ◌+◌, ◌≤◌, ◌<◌}
use mathlib.Core.Path.{◌≡◌, refl, sym, ap, ap₂, ◌∙◌}
use mathlib.Core.Bool.{Bool, true, false, ◌&&◌, and_assoc, and-true, and-eq-true_iff}
use native.Mathlib.Nat.{le_refl}
use native.Mathlib.Omega.{arith}
use native.Mathlib.Numerals.{add-one}
use native.Mathlib.Decide.{ℕ_discrete}
use borrow.Author.Count.{below_more}
use Rattle.std.specs.List.{list_all, range_with_len}
use Rattle.std.proofs.lemmas.Bool.{and_parts, false_from_ne_true}
use Rattle.basics.specs.Lists.{range, all_below}

pub all_at : (k : ℕ) (p : ℕ → Bool) → all_below k p ≡ true → (v : ℕ) → v < k → p v ≡ true
unfolding all_below
all_at zero p e v l = absurd (omega arith)
all_at (suc k) p e v l =
    let parts = and_parts (all_below k p) (p k) e in
    below_more (λ u. p u ≡ true) k (all_at k p parts.0) parts.1 v (omega arith)

pub all_intro : (k : ℕ) (p : ℕ → Bool) → ((v : ℕ) → v < k → p v ≡ true) → all_below k p ≡ true
unfolding all_below
all_intro zero p h = refl
all_intro (suc k) p h = ap₂ ◌&&◌ (all_intro k p (λ v l. h v (omega arith))) (h k (omega arith))

pub all_same : (k : ℕ) (p q : ℕ → Bool) → ((v : ℕ) → v < k → p v ≡ q v) → all_below k p ≡ all_below k q
unfolding all_below
all_same zero p q h = refl
all_same (suc k) p q h = ap₂ ◌&&◌ (all_same k p q (λ v l. h v (omega arith))) (h k (omega arith))

-- It fails where one of them fails it.
pub all_fails : (k : ℕ) (p : ℕ → Bool) (v : ℕ) → v < k → p v ≡ false → all_below k p ≡ false
all_fails k p v l e = false_from_ne_true _ (λ all. cc (all_at k p all v l))

-- One more number.
pub all_more : (n : ℕ) (test : ℕ → Bool) → all_below n test ≡ true → test n ≡ true → all_below (suc n) test ≡ true
unfolding all_below
all_more n test h e = rw (h, e)

-- The numbers of a range that std lists, tested one by one.
all_below-range : (test : ℕ → Bool) (first n : ℕ) → all_below (first + n) test ≡ (all_below first test && list_all test (range_with_len first n))
unfolding all_below
all_below-range test first zero = let e : first + 0 ≡ first = omega arith in rw e (sym (and-true (all_below first test)))
all_below-range test first (suc n) =
    let e : first + suc n ≡ suc first + n = omega arith in
    rw (e, add-one first) (all_below-range test (suc first) n ∙ and_assoc (all_below first test) (test first) (list_all test (range_with_len (suc first) n)))

pub list_all-range : (test : ℕ → Bool) (n : ℕ) → list_all test (range_with_len 0 n) ≡ all_below n test
unfolding all_below
list_all-range test n = let e : 0 + n ≡ n = omega arith in sym (rw e at (all_below-range test 0 n))

-- The same of the numbers of a range.
pub range-all_at : (p : ℕ → Bool) (first n v : ℕ) → list_all p (range first n) ≡ true → first ≤ v → v < first + n → p v ≡ true
unfolding range
range-all_at p first zero v e low high = absurd (omega arith)
range-all_at p first (suc n) v e low high = go (ℕ_discrete v first) (range-all_at p (suc first) n v)
  where
    both : (p first ≡ true) × (list_all p (range (suc first) n) ≡ true)
    both = (and-eq-true_iff (p first) (list_all p (range (suc first) n))).0 e

    go : Dec (v ≡ first) → (list_all p (range (suc first) n) ≡ true → suc first ≤ v → v < suc first + n → p v ≡ true) → p v ≡ true
    go (yes same) rest = ap p same ∙ both.0
    go (no other) rest = rest both.1 (omega arith) (omega arith)

pub range_all : (p : ℕ → Bool) (first n : ℕ) → ((v : ℕ) → first ≤ v → v < first + n → p v ≡ true) →
    list_all p (range first n) ≡ true
unfolding range
range_all p first zero h = refl
range_all p first (suc n) h =
    (and-eq-true_iff (p first) (list_all p (range (suc first) n))).1
    (h first (le_refl first) (omega arith), range_all p (suc first) n (λ v low high. h v (omega arith) (omega arith)))
