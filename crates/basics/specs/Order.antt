-- An order by numbers, the first of a list in it, and the least of some numbers up to a cap.
use Rattle.std.specs.Prelude.{ℕ, min, Bool, true, false, ◌&&◌, ◌||◌, List, [], ◌∷◌, ltb, eqb, Option, None, Some, find}
use Rattle.std.specs.List.{list_all}

-- Of two lists of numbers the first number that differs decides, and the smaller comes first.
abbrev pub no_later : List ℕ → List ℕ → Bool
no_later [] ys = true
no_later (x ∷ xs) [] = false
no_later (x ∷ xs) (y ∷ ys) = ltb x y || eqb x y && no_later xs ys

-- The member of a list that comes no later than any other of it, by the numbers that the order goes by, or none.
unfoldable pub least_by : {A : Type 0} → (A → List ℕ) → List A → Option A
least_by numbers list = find (λ x. list_all (λ other. no_later (numbers x) (numbers other)) list) list

-- The least of some numbers, or none where there are none.
unfoldable pub least : List ℕ → Option ℕ
least numbers = least_by (λ x. x ∷ []) numbers

-- S5.7: the smaller of a number and a cap; the cap where there is no number.
abbrev pub capped_at : ℕ → Option ℕ → ℕ
capped_at cap None = cap
capped_at cap (Some x) = min x cap
