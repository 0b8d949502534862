-- S6.3: lines of numbers.
use Rattle.std.specs.Prelude.{ℕ, zero, suc, List, [], ◌∷◌, ◌++◌, length}
use Rattle.plan_text.specs.Decimal.{decimal}

-- The byte of a blank.
abbrev pub blank : ℕ
blank = 32

-- The byte that ends a line.
abbrev pub newline : ℕ
newline = 10

-- The byte behind a number of a line, by how many numbers follow it.
abbrev pub mark : ℕ → ℕ
mark zero = newline
mark (suc left) = blank

-- S6.3: the numbers of a line in decimal, a blank between two of them, and a newline behind the last.
abbrev pub line : List ℕ → List ℕ
line [] = []
line (n ∷ rest) = decimal n ++ mark (length rest) ∷ line rest
