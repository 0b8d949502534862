-- Decimal digits as ASCII bytes, and the number that they say.
use Rattle.std.specs.Prelude.{ℕ, ◌+◌, ◌-◌, ◌*◌, Bool, ◌&&◌, List, [], ◌∷◌, leb}

-- The byte of a digit: `0` is 48.
abbrev pub digit : ℕ → ℕ
digit d = 48 + d

-- Whether a byte is one of the ten digits.
unfoldable pub is_digit : ℕ → Bool
is_digit b = leb (digit 0) b && leb b (digit 9)

-- The number that bytes say, highest digit first, behind digits that say v.
abbrev pub value_after : ℕ → List ℕ → ℕ
value_after v [] = v
value_after v (b ∷ bytes) = value_after (10 * v + (b - digit 0)) bytes

-- The number that bytes say.
abbrev pub value_of : List ℕ → ℕ
value_of bytes = value_after 0 bytes
