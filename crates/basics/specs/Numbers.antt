-- S1.1: numbers in bytes, the lowest byte first, read from a place on and written; and a number within bounds.
use Rattle.std.specs.Prelude.{ℕ, ◌+◌, ◌*◌, ◌/◌, ◌%◌, Bool, ◌&&◌, List, [], ◌∷◌, leb, get_or}

-- The byte at a place; 0 past the end.
unfoldable pub byte_at : List ℕ → ℕ → ℕ
byte_at s at = get_or s at 0

-- S1.1: the number in two bytes from a place on, the lower byte first.
unfoldable pub u16_at : List ℕ → ℕ → ℕ
u16_at s at = byte_at s at + 256 * byte_at s (at + 1)

-- S1.1: the number in four bytes from a place on.
unfoldable pub u32_at : List ℕ → ℕ → ℕ
u32_at s at = u16_at s at + 65536 * u16_at s (at + 2)

-- S1.1: a number in two bytes, the lowest first.
unfoldable pub u16_bytes : ℕ → List ℕ
u16_bytes x = x % 256 ∷ x / 256 % 256 ∷ []

-- S1.1: a number in four bytes, the lowest first.
unfoldable pub u32_bytes : ℕ → List ℕ
u32_bytes x = x % 256 ∷ x / 256 % 256 ∷ x / 65536 % 256 ∷ x / 16777216 % 256 ∷ []

-- Whether a number lies in low to high, both included.
abbrev pub within : ℕ → ℕ → ℕ → Bool
within low high x = leb low x && leb x high
