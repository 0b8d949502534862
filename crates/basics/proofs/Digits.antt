-- Digits read in two steps: those in front, and then the others.
use Prim.Native.Nat.{ℕ, ◌+◌, ◌-◌, ◌*◌}
use mathlib.Core.Bool.{true, and-eq-true_iff}
use mathlib.Core.List.{List, [], ◌∷◌, ◌++◌}
use mathlib.Core.Path.{◌≡◌, refl}
use Rattle.std.specs.List.{list_all}
use Rattle.basics.specs.Digits.{digit, is_digit, value_after}

pub value_both : (v : ℕ) (xs ys : List ℕ) → value_after v (xs ++ ys) ≡ value_after (value_after v xs) ys
value_both v [] ys = refl
value_both v (x ∷ xs) ys = value_both (10 * v + (x - digit 0)) xs ys

pub digits_both : (xs ys : List ℕ) → list_all is_digit xs ≡ true → list_all is_digit ys ≡ true → list_all is_digit (xs ++ ys) ≡ true
digits_both [] ys h g = g
digits_both (x ∷ xs) ys h g =
    let both = (and-eq-true_iff (is_digit x) (list_all is_digit xs)).0 h in
    (and-eq-true_iff (is_digit x) (list_all is_digit (xs ++ ys))).1 (both.0, digits_both xs ys both.1 g)
