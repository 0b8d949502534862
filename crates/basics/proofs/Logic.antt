-- Tests: joined by `&&`, and two comparisons that hold together.
use Prim.Native.Nat.{ℕ, ◌≤◌}
use mathlib.Core.Bool.{Bool, true, false, ◌&&◌}
use mathlib.Core.Path.{◌≡◌, refl}
use lib.Dec.{leb}
use borrow.Author.Tests.{leb-true, le-leb}
use Rattle.std.specs.Cmp.{both_ways}
use Rattle.std.proofs.lemmas.Bool.{and_parts}
use Rattle.basics.specs.Numbers.{within}

-- Under a guard, only what holds where the guard does has to agree.
pub under : (g : Bool) {x y : Bool} → (g ≡ true → x ≡ y) → (g && x) ≡ (g && y)
under true h = h refl
under false h = refl

-- The parts of four and of five tests that hold together.
pub all_four : (a b c d : Bool) → (a && b && c && d) ≡ true → (a ≡ true) × (b ≡ true) × (c ≡ true) × (d ≡ true)
all_four a b c d h =
    let three = and_parts (a && b && c) d h in
    let two = and_parts (a && b) c three.0 in
    let one = and_parts a b two.0 in
    (one.0, one.1, two.1, three.1)

pub all_five : (a b c d e : Bool) → (a && b && c && d && e) ≡ true → (a ≡ true) × (b ≡ true) × (c ≡ true) × (d ≡ true) × (e ≡ true)
all_five a b c d e h =
    let parts = and_parts (a && b && c && d) e h in
    let four = all_four a b c d parts.0 in
    (four.0, four.1, four.2, four.3, parts.1)

-- Two comparisons that hold together are one test.
pub leb_same : (a b c d : ℕ) → (a ≤ b → c ≤ d) → (c ≤ d → a ≤ b) → leb a b ≡ leb c d
leb_same a b c d to from =
    both_ways (leb a b) (leb c d) (λ e. le-leb c d (to (leb-true a b e))) (λ e. le-leb a b (from (leb-true c d e)))

-- A number within bounds, by the bounds.
pub within_bounds : (low high x : ℕ) → within low high x ≡ true → (low ≤ x) × (x ≤ high)
within_bounds low high x h =
    let parts = and_parts (leb low x) (leb x high) h in
    (leb-true low x parts.0, leb-true x high parts.1)
