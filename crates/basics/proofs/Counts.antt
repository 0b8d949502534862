-- Counts of the numbers that pass a test, and the s lowest of them: as a list they are the first s of `filter`, as
-- a test those with fewer than s passing below. By induction on the range, its start free.
use Prim.Native.Nat.{ℕ, zero, suc, ◌+◌, ◌-◌, ◌≤◌, ◌<◌}
use mathlib.Core.Path.{◌≡◌, refl, sym, ap, ap₂, ◌∙◌}
use mathlib.Core.Bool.{Bool, true, false, ◌&&◌}
use mathlib.Core.List.{List}
use native.Mathlib.Nat.{add-zero, zero-add, le_refl, sub-zero}
use native.Mathlib.Omega.{arith}
use borrow.Author.Tests.{ltb-true, ltb-false}
use lib.Dec.{ltb}
use lib.ListN.{length, take}
use lib.Seq.{take-nil}
use Rattle.std.specs.Prelude.{filter}
use Rattle.basics.specs.Lists.{range, kept_if, bit, count}

-- One number more.
pub count_next : (p : ℕ → Bool) (v : ℕ) → count p (suc v) ≡ count p v + bit (p v)
unfolding count
count_next p v = refl

-- Tests that agree below v have the same count.
pub count_ext : (p q : ℕ → Bool) (v : ℕ) → ((u : ℕ) → u < v → p u ≡ q u) → count p v ≡ count q v
unfolding count
count_ext p q zero same = refl
count_ext p q (suc v) same =
    ap₂ (λ (n : ℕ) (t : Bool). n + bit t) (count_ext p q v (λ u h. same u (omega arith))) (same v (le_refl (suc v)))

-- The count grows with its bound, and past every number that passes.
count_add : (p : ℕ → Bool) (u n : ℕ) → count p u ≤ count p (u + n)
count_add p u zero = rw add-zero (le_refl (count p u))
count_add p u (suc n) =
    let e : u + suc n ≡ suc (u + n) = omega arith in
    rw (e, count_next p (u + n)) (omega (arith, count_add p u n))

pub count_mono : (p : ℕ → Bool) (u v : ℕ) → u ≤ v → count p u ≤ count p v
count_mono p u v h =
    let e : u + (v - u) ≡ v = omega arith in
    rw e at (count_add p u (v - u))

-- The length of a filtered list, from any start.
pub length_kept_bit : (t : Bool) (x : ℕ) (xs : List ℕ) → length (kept_if t x xs) ≡ bit t + length xs
length_kept_bit true x xs = omega arith
length_kept_bit false x xs = sym (zero-add (length xs))

-- The s lowest that pass, from any start: so many are left to take as s exceeds the count so far.
pub take-filter_from : (p : ℕ → Bool) (s first n : ℕ) → filter (λ v. p v && ltb (count p v) s) (range first n) ≡ take (s - count p first) (filter p (range first n))
unfolding range
take-filter_from p s first zero = sym (take-nil (s - count p first))
take-filter_from p s first (suc n) =
    ap (kept_if (p first && ltb (count p first) s) first) (take-filter_from p s (suc first) n)
    ∙ rw (count_next p first) (step (p first) (ltb (count p first) s) refl)
  where
    rest : List ℕ
    rest = filter p (range (suc first) n)

    step : (t l : Bool) → ltb (count p first) s ≡ l
        → kept_if (t && l) first (take (s - (count p first + bit t)) rest) ≡ take (s - count p first) (kept_if t first rest)
    step true true e =
        let d : s - count p first ≡ suc (s - (count p first + 1)) = omega (arith, ltb-true (count p first) s e) in
        rw d
    step true false e =
        let d : s - count p first ≡ 0 = omega (arith, ltb-false (count p first) s e) in
        let d' : s - (count p first + 1) ≡ 0 = omega (arith, ltb-false (count p first) s e) in
        rw (d, d')
    step false l e = rw add-zero

-- "The s lowest" as a test and as a list.
pub filter_lowest : (p : ℕ → Bool) (s k : ℕ) → filter (λ v. p v && ltb (count p v) s) (range 0 k) ≡ take s (filter p (range 0 k))
unfolding count
filter_lowest p s k = let e = take-filter_from p s 0 k in rw sub-zero at e
