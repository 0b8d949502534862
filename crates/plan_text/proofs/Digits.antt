-- A number's digits: the last one behind those of a tenth. By that step they say the number, and the first is not `0`.
use Prim.Native.Nat.{ℕ, zero, suc, ◌/◌, ◌%◌, ◌≤◌, ◌<◌}
use mathlib.Core.Bool.{Bool, true, false, cond}
use mathlib.Core.List.{List, [], ◌∷◌, ◌++◌}
use mathlib.Core.Path.{◌≡◌, refl, sym, ap, ◌∙◌}
use native.Mathlib.Nat.{div-lt_self}
use native.Mathlib.Omega.{arith}
use lib.Dec.{ltb}
use lib.ListN.{get_or}
use borrow.Author.Tests.{ltb-true, ltb-false, lt-ltb, le-ltb, le-leb}
use Rattle.std.specs.List.{list_all}
use Rattle.basics.specs.Digits.{digit, is_digit}
use Rattle.basics.proofs.Digits.{value_both, digits_both}
use Rattle.plan_text.specs.Decimal.{digits_within, decimal, IsDecimal}

-- A tenth of what is not 0 is smaller.
pub tenth : (n : ℕ) → 1 ≤ n → n / 10 < n
tenth n h = div-lt_self (omega arith) (omega arith)

-- Any allowance of n or more gives the same digits.
same_digits : (k j n : ℕ) → n ≤ k → n ≤ j → digits_within k n ≡ digits_within j n
unfolding digits_within
same_digits zero zero n h g = refl
same_digits zero (suc j) n h g =
    sym (ap (λ (t : Bool). cond t (digit n ∷ []) (digits_within j (n / 10) ++ digit (n % 10) ∷ [])) (lt-ltb n 10 (omega arith)))
same_digits (suc k) zero n h g = rw (lt-ltb n 10 (omega arith))
same_digits (suc k) (suc j) n h g =
    go (ltb n 10) refl (λ l. same_digits k j (n / 10) (omega arith) (omega arith))
  where
    go : (t : Bool) → ltb n 10 ≡ t → (n / 10 < n → digits_within k (n / 10) ≡ digits_within j (n / 10)) →
        cond t (digit n ∷ []) (digits_within k (n / 10) ++ digit (n % 10) ∷ [])
        ≡ cond t (digit n ∷ []) (digits_within j (n / 10) ++ digit (n % 10) ∷ [])
    go true e rest = refl
    go false e rest =
        let more = ltb-false n 10 e in
        ap (λ l. l ++ digit (n % 10) ∷ []) (rest (omega arith))

pub one_digit : (n : ℕ) → n < 10 → decimal n ≡ digit n ∷ []
unfolding decimal digits_within
one_digit zero h = refl
one_digit (suc n) h = rw (lt-ltb (suc n) 10 h)

pub more_digits : (n : ℕ) → 10 ≤ n → decimal n ≡ decimal (n / 10) ++ digit (n % 10) ∷ []
unfolding decimal digits_within
more_digits zero h = absurd (omega arith)
more_digits (suc n) h =
    rw (le-ltb (suc n) 10 h, same_digits n (suc n / 10) (suc n / 10) (omega arith) (omega arith))

digit_is : (d : ℕ) → d < 10 → list_all is_digit (digit d ∷ []) ≡ true
unfolding is_digit
digit_is d h = rw (le-leb (digit 0) (digit d) (omega arith), le-leb (digit d) (digit 9) (omega arith))

-- What stands in front of some bytes is their first.
front_kept : (xs ys : List ℕ) → 1 ≤ get_or xs 0 0 → get_or (xs ++ ys) 0 0 ≡ get_or xs 0 0
front_kept [] ys h = absurd (omega arith)
front_kept (x ∷ xs) ys h = refl

-- The three facts of a number below ten, and of one more digit behind those of a tenth.
one_reads : (n : ℕ) → n < 10 → IsDecimal n (digit n ∷ [])
one_reads n h =
    record { says = omega arith; digits = digit_is n h; front = λ some. omega arith }

more_reads : (n : ℕ) (bytes : List ℕ) → 10 ≤ n → IsDecimal (n / 10) bytes → IsDecimal n (bytes ++ digit (n % 10) ∷ [])
more_reads n bytes h rest =
    record {
      says = value_both 0 bytes (digit (n % 10) ∷ []) ∙ rw rest.says (omega arith);
      digits = digits_both bytes (digit (n % 10) ∷ []) rest.digits (digit_is (n % 10) (omega arith));
      front = λ some. let first = rest.front (omega arith) in rw (front_kept bytes (digit (n % 10) ∷ []) (omega arith)) first;
    }

reads-within : (k n : ℕ) → n ≤ k → IsDecimal n (digits_within k n)
unfolding digits_within
reads-within zero n h = one_reads n (omega arith)
reads-within (suc k) n h = go (ltb n 10) refl (reads-within k (n / 10))
  where
    go : (t : Bool) → ltb n 10 ≡ t → (n / 10 ≤ k → IsDecimal (n / 10) (digits_within k (n / 10))) →
        IsDecimal n (cond t (digit n ∷ []) (digits_within k (n / 10) ++ digit (n % 10) ∷ []))
    go true e rest = one_reads n (ltb-true n 10 e)
    go false e rest =
        let more = ltb-false n 10 e in
        more_reads n (digits_within k (n / 10)) more (rest (omega arith))

-- The printed decimal of a number reads back to it.
pub decimal-reads : (n : ℕ) → IsDecimal n (decimal n)
unfolding decimal
decimal-reads n = reads-within n n (omega arith)
