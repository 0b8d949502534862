-- S6.3: numbers in decimal, as ASCII bytes.
use Rattle.std.specs.Prelude.{ℕ, zero, suc, ◌/◌, ◌%◌, ◌≤◌, true, cond, List, [], ◌∷◌, ◌++◌, ◌≡◌, ltb, get_or}
use Rattle.std.specs.List.{list_all}
use Rattle.basics.specs.Digits.{digit, is_digit, value_of}

-- The digits of n, the last one last and no zero in front, for an n of at most k + 1 digits.
unfoldable pub digits_within : ℕ → ℕ → List ℕ
digits_within zero n = digit n ∷ []
digits_within (suc k) n = cond (ltb n 10) (digit n ∷ []) (digits_within k (n / 10) ++ digit (n % 10) ∷ [])

-- S6.3: the digits of any number, which has at most n + 1 of them.
unfoldable pub decimal : ℕ → List ℕ
decimal n = digits_within n n

-- S6.3, read the other way: bytes that are n in decimal. They say n, each is a digit, and the first is not `0` where
-- n is not 0. `Digits.decimal-reads` has this of `decimal n`, for all n.
pub record IsDecimal (n : ℕ) (bytes : List ℕ) : Type 0 where
  pub says : value_of bytes ≡ n
  pub digits : list_all is_digit bytes ≡ true
  pub front : 1 ≤ n → digit 1 ≤ get_or bytes 0 0

-- S6.3: the digits of any number are that number in decimal.
unfoldable pub DecimalReads : Type 0
DecimalReads = (n : ℕ) → IsDecimal n (decimal n)
