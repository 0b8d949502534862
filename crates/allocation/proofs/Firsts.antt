-- The first number at which a function is least: it is in the range, no number of the range has less, and those before
-- it have more.
use Prim.Native.Nat.{ℕ, zero, suc, ◌+◌, ◌-◌, ◌≤◌, ◌<◌}
use mathlib.Core.Path.{◌≡◌, refl, sym, ap, ◌∙◌}
use mathlib.Core.Bool.{Bool, true, false, cond}
use native.Mathlib.Omega.{arith}
use native.Mathlib.Decide.{dec_le}
use lib.Dec.{ltb}
use borrow.Author.Tests.{ltb-true, ltb-false, lt-ltb, le-ltb}
use Rattle.allocation.specs.means.Selection.{better, least_from}

module _ (f : ℕ → ℕ) (k : ℕ) where
  -- What is asked of the first number at which f is least among k to k + n.
  record First (n r : ℕ) : Type 0 where
    pub from : k ≤ r
    pub to : r ≤ k + n
    pub least : (x : ℕ) → k ≤ x → x ≤ k + n → f r ≤ f x
    pub earlier : (x : ℕ) → k ≤ x → x < r → f r < f x

  first_step : (n r : ℕ) → First n r → First (suc n) (better f r (k + suc n))
  first_step n r before = go (ltb (f (k + suc n)) (f r)) refl
    where
      go : (t : Bool) → ltb (f (k + suc n)) (f r) ≡ t → First (suc n) (cond t (k + suc n) r)
      go true e =
          let less : f (k + suc n) < f r = ltb-true _ _ e in
          record {
            from = omega arith;
            to = omega arith;
            least = λ x from to. last less x from to (dec_le x (k + n));
            earlier = λ x from below. let more = before.least x from (omega arith) in omega arith;
          }
        where
          last : f (k + suc n) < f r → (x : ℕ) → k ≤ x → x ≤ k + suc n → Dec (x ≤ k + n) → f (k + suc n) ≤ f x
          last less x from to (yes within) = let more = before.least x from within in omega arith
          last less x from to (no past) = let same : x ≡ k + suc n = omega arith in rw same (omega arith)
      go false e =
          let not_less : f r ≤ f (k + suc n) = ltb-false _ _ e in
          record {
            from = before.from;
            to = let b = before.to in omega arith;
            least = λ x from to. last not_less x from to (dec_le x (k + n));
            earlier = before.earlier;
          }
        where
          last : f r ≤ f (k + suc n) → (x : ℕ) → k ≤ x → x ≤ k + suc n → Dec (x ≤ k + n) → f r ≤ f x
          last not_less x from to (yes within) = before.least x from within
          last not_less x from to (no past) = let same : x ≡ k + suc n = omega arith in rw same not_less

  first_is : (n : ℕ) → First n (least_from f k n)
  unfolding least_from
  first_is zero =
      record {
        from = omega arith;
        to = omega arith;
        least = λ x from to. let same : x ≡ k = omega arith in rw same (omega arith);
        earlier = λ x from below. absurd (omega arith);
      }
  first_is (suc n) = first_step n (least_from f k n) (first_is n)

  pub least_from_lem : (n : ℕ) → k ≤ least_from f k n
  least_from_lem n = (first_is n).from

  pub least_to : (n : ℕ) → least_from f k n ≤ k + n
  least_to n = (first_is n).to

  pub least_at_most : (n x : ℕ) → k ≤ x → x ≤ k + n → f (least_from f k n) ≤ f x
  least_at_most n x = (first_is n).least x

  -- Any other at which f is least comes after it.
  pub least-first_at : (n x : ℕ) → k ≤ x → x ≤ k + n → f x ≤ f (least_from f k n) → least_from f k n ≤ x
  least-first_at n x from to less = go (dec_le (least_from f k n) x)
    where
      go : Dec (least_from f k n ≤ x) → least_from f k n ≤ x
      go (yes h) = h
      go (no h) = let more = (first_is n).earlier x from (omega arith) in absurd (omega arith)

-- Functions that agree on the range have one first least.
pub least_same : (f g : ℕ → ℕ) (k n : ℕ) → ((x : ℕ) → k ≤ x → x ≤ k + n → f x ≡ g x) → least_from f k n ≡ least_from g k n
unfolding least_from
least_same f g k zero same = refl
least_same f g k (suc n) same =
    rw (least_same f g k n (λ x from to. same x from (omega arith)))
    (rw (same (k + suc n) (omega arith) (omega arith), same (least_from g k n) (least_from_lem g k n) (omega (arith, least_to g k n))))

-- The search by steps: best is the first least of k to x, and x + 1 is tried.
module _ (f : ℕ → ℕ) (k x best : ℕ) (from : k ≤ x) (done : best ≡ least_from f k (x - k)) where
  step : least_from f k (x + 1 - k) ≡ better f best (x + 1)
  unfolding least_from
  step =
      let more : x + 1 - k ≡ suc (x - k) = omega arith in
      let place : k + suc (x - k) ≡ x + 1 = omega arith in
      rw (more, place, done)

  pub least_taken : f (x + 1) < f best → x + 1 ≡ least_from f k (x + 1 - k)
  least_taken less = sym (step ∙ ap (λ (t : Bool). cond t (x + 1) best) (lt-ltb (f (x + 1)) (f best) less))

  pub least_kept : f best ≤ f (x + 1) → best ≡ least_from f k (x + 1 - k)
  least_kept more = sym (step ∙ ap (λ (t : Bool). cond t (x + 1) best) (le-ltb (f (x + 1)) (f best) more))

pub least_start : (f : ℕ → ℕ) (k : ℕ) → k ≡ least_from f k (k - k)
unfolding least_from
least_start f k = let none : k - k ≡ 0 = omega arith in rw none
