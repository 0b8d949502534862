-- Lists by enumeration, and tests and counts over the numbers below a bound.
use Rattle.std.specs.Prelude.{ℕ, zero, suc, ◌+◌, max, Bool, true, false, cond, ◌&&◌, List, [], ◌∷◌, ltb, eqb}
use Rattle.std.specs.List.{list_any}

-- The count numbers from first on, in rising order.
unfoldable pub range : ℕ → ℕ → List ℕ
range first zero = []
range first (suc count) = first ∷ range (suc first) count

-- A member in front of a list where the test says so.
abbrev pub kept_if : {A : Type 0} → Bool → A → List A → List A
kept_if t x xs = cond t (x ∷ xs) xs

-- Whether a list has no member.
abbrev pub is_empty : {A : Type 0} → List A → Bool
is_empty [] = true
is_empty (x ∷ xs) = false

-- Whether a number is in a list.
abbrev pub is_in : ℕ → List ℕ → Bool
is_in i list = list_any (eqb i) list

-- The greatest of some numbers, 0 where there are none.
abbrev pub greatest : List ℕ → ℕ
greatest [] = 0
greatest (x ∷ xs) = max x (greatest xs)

-- size cells with the numbers from first on: those below count hold what f gives them, and the others are empty.
unfoldable pub cells_from : {A : Type 0} → ℕ → ℕ → (ℕ → A) → A → ℕ → List A
cells_from first zero f empty count = []
cells_from first (suc size) f empty count = cond (ltb first count) (f first) empty ∷ cells_from (suc first) size f empty count

-- The same from cell 0 on.
abbrev pub cells : {A : Type 0} → ℕ → (ℕ → A) → A → ℕ → List A
cells size f empty count = cells_from 0 size f empty count

-- Whether every number below a bound passes a test.
unfoldable pub all_below : ℕ → (ℕ → Bool) → Bool
all_below zero test = true
all_below (suc n) test = all_below n test && test n

-- A test as a number: 1 where it passes.
abbrev pub bit : Bool → ℕ
bit true = 1
bit false = 0

-- How many numbers below v pass a test.
unfoldable pub count : (ℕ → Bool) → ℕ → ℕ
count p zero = 0
count p (suc v) = count p v + bit (p v)
