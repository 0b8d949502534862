-- The parts of a list of bytes: what is written of a number of two or four bytes is the part that it is read from.
use Prim.Native.Nat.{ℕ, zero, suc, ◌≤◌, ◌<◌, ◌+◌, ◌*◌, ◌/◌, ◌%◌}
use mathlib.Core.Bool.{true}
use mathlib.Core.List.{List, [], ◌∷◌, ◌++◌}
use mathlib.Core.Path.{◌≡◌, refl, sym, ap, ap₂, ◌∙◌}
use native.Mathlib.Omega.{arith}
use native.Mathlib.Nat.{mod-eq_of_lt}
use lib.Arith.{digits_div, digits_mod}
use lib.Dec.{ltb}
use lib.ListN.{length, take, drop, length-drop}
use lib.Seq.{drop-cons, drop-drop, take-add, length-take-le}
use borrow.Author.Tests.{ltb-true}
use Rattle.std.proofs.lemmas.Bool.{and_parts}
use Rattle.std.specs.List.{list_all}
use Rattle.basics.specs.Numbers.{byte_at, u16_at, u32_at, u16_bytes, u32_bytes}

-- A number by its lowest digit and the others.
module _ (x m r q : ℕ) (small : r < m) (sum : x ≡ q * m + r) where
  lowest : x % m ≡ r
  lowest = rw sum (digits_mod q small)

  others : x / m ≡ q
  others = rw sum (digits_div q small)

-- Two and four bytes, from the number that they say.
u16_again : (a b : ℕ) → a < 256 → b < 256 → u16_bytes (a + 256 * b) ≡ a ∷ b ∷ []
unfolding u16_bytes
u16_again a b ha hb =
    let x = a + 256 * b in
    rw (lowest x 256 a b ha (omega arith), others x 256 a b ha (omega arith), mod-eq_of_lt hb)

u32_again : (a b c d : ℕ) → a < 256 → b < 256 → c < 256 → d < 256 →
    u32_bytes (a + 256 * b + 65536 * (c + 256 * d)) ≡ a ∷ b ∷ c ∷ d ∷ []
unfolding u32_bytes
u32_again a b c d ha hb hc hd =
    let x = a + 256 * b + 65536 * (c + 256 * d) in
    let behind = b + 256 * (c + 256 * d) in
    rw (
      lowest x 256 a behind ha (omega arith),
      others x 256 a behind ha (omega arith),
      lowest behind 256 b (c + 256 * d) hb (omega arith),
      others x 65536 (a + 256 * b) (c + 256 * d) (omega arith) (omega arith),
      lowest (c + 256 * d) 256 c d hc (omega arith),
      others x 16777216 (a + 256 * b + 65536 * c) d (omega arith) (omega arith),
      mod-eq_of_lt hd,
    )

-- A member of bytes is below 256, and so is the 0 that stands behind them.
byte_small : (s : List ℕ) (i : ℕ) → list_all (λ b. ltb b 256) s ≡ true → byte_at s i < 256
unfolding byte_at
byte_small [] i bytes = omega arith
byte_small (b ∷ s) zero bytes = ltb-true b 256 (and_parts (ltb b 256) _ bytes).0
byte_small (b ∷ s) (suc i) bytes = byte_small s i (and_parts (ltb b 256) _ bytes).1

-- The part of a list that begins at a place and has so many members.
abbrev pub part : List ℕ → ℕ → ℕ → List ℕ
part s at size = take size (drop at s)

module _ (s : List ℕ) where
  -- Two parts, one behind the other.
  pub join : (at x next y size : ℕ) → next ≡ at + x → size ≡ x + y → part s at x ++ part s next y ≡ part s at size
  join at x next y size behind whole =
      rw (behind, whole) (sym (take-add x y (drop at s) ∙ ap (λ (l : List ℕ). take x (drop at s) ++ take y l) (drop-drop x at s)))

  pub part_length : (at size : ℕ) → at + size ≤ length s → length (part s at size) ≡ size
  part_length at size inside = length-take-le size (drop at s) (omega (arith, length-drop at s))

  pub two_part : (at : ℕ) → at + 2 ≤ length s → byte_at s at ∷ byte_at s (at + 1) ∷ [] ≡ part s at 2
  unfolding byte_at
  two_part at inside =
      let next : at + 1 ≡ suc at = omega arith in
      rw (next, drop-cons s at 0 (omega arith), drop-cons s (suc at) 0 (omega arith))

  module _ (bytes : list_all (λ b. ltb b 256) s ≡ true) where
    pub u16_part : (at : ℕ) → at + 2 ≤ length s → u16_bytes (u16_at s at) ≡ part s at 2
    unfolding u16_at
    u16_part at inside =
        u16_again (byte_at s at) (byte_at s (at + 1)) (byte_small s at bytes) (byte_small s (at + 1) bytes) ∙ two_part at inside

    pub u32_part : (at : ℕ) → at + 4 ≤ length s → u32_bytes (u32_at s at) ≡ part s at 4
    unfolding u32_at u16_at
    u32_part at inside =
        u32_again _ _ _ _ (byte_small s at bytes) (byte_small s (at + 1) bytes) (byte_small s (at + 2) bytes) (byte_small s (at + 2 + 1) bytes)
        ∙ ap₂ ◌++◌ (two_part at (omega arith)) (two_part (at + 2) (omega arith))
        ∙ join at 2 (at + 2) 2 4 refl refl
