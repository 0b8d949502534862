-- A text that grows at its end, in an array of 480 bytes. It has room for sixteen lines (S2.2) of seven numbers, six
-- of at most two digits and one of at most seven, each with a byte behind it: 26 bytes.
use Rattle.std.specs.Prelude.{ℕ, cond, List, [], ◌∷◌, ◌++◌, ltb, length}

-- The room of a text, in bytes.
abbrev pub room : ℕ
room = 480

-- A text with one byte more; a full one stays.
unfoldable pub with_byte : List ℕ → ℕ → List ℕ
with_byte t b = cond (ltb (length t) room) (t ++ b ∷ []) t

-- A text with these bytes behind its own.
abbrev pub with_bytes : List ℕ → List ℕ → List ℕ
with_bytes t [] = t
with_bytes t (b ∷ bytes) = with_bytes (with_byte t b) bytes
