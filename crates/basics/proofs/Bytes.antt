-- Numbers in bytes: bytes in front move each place by their number, a number of two or four bytes is the sum of its
-- bytes, and runs of stores lie one behind the other.
use Prim.Native.Nat.{ℕ, suc, ◌≤◌, ◌<◌, ◌+◌, ◌*◌, ◌/◌, ◌%◌}
use mathlib.Core.List.{List, [], ◌∷◌, ◌++◌}
use mathlib.Core.Path.{◌≡◌, refl, sym, ap, ◌∙◌}
use native.Mathlib.Omega.{arith}
use native.Mathlib.Nat.{mod-add-div, mod-eq_of_lt, div-div-eq-div-mul}
use lib.ListN.{length, set}
use lib.Seq.{get_or-append-add, set_comm, sets}
use Rattle.basics.specs.Numbers.{byte_at, u16_at, u32_at, u32_bytes}

-- Bytes in front move each place.
module _ (front s : List ℕ) where
  pub byte_behind : (n place : ℕ) → place ≡ length front + n → byte_at (front ++ s) place ≡ byte_at s n
  unfolding byte_at
  byte_behind n place e = rw e (get_or-append-add front s n 0)

  pub u16_behind : (n place : ℕ) → place ≡ length front + n → u16_at (front ++ s) place ≡ u16_at s n
  unfolding u16_at
  u16_behind n place e = rw (byte_behind n place e, byte_behind (n + 1) (place + 1) (omega arith))

  pub u32_behind : (n place : ℕ) → place ≡ length front + n → u32_at (front ++ s) place ≡ u32_at s n
  unfolding u32_at
  u32_behind n place e = rw (u16_behind n place e, u16_behind (n + 2) (place + 2) (omega arith))

-- A number is the sum of its bytes.
pub u16_whole : (x : ℕ) → x < 65536 → x % 256 + 256 * (x / 256 % 256) ≡ x
u16_whole x h = omega arith

u32_sum : (x a b c r₀ r₁ r₂ : ℕ) → r₀ + 256 * a ≡ x → r₁ + 256 * b ≡ a → r₂ + 256 * c ≡ b → r₀ + 256 * r₁ + 65536 * (r₂ + 256 * c) ≡ x
u32_sum x a b c r₀ r₁ r₂ e₀ e₁ e₂ = omega arith

fourth_small : (x a b c r₀ r₁ r₂ : ℕ) → x < 4294967296 → r₀ + 256 * a ≡ x → r₁ + 256 * b ≡ a → r₂ + 256 * c ≡ b → c < 256
fourth_small x a b c r₀ r₁ r₂ h e₀ e₁ e₂ = omega arith

pub u32_whole : (x : ℕ) → x < 4294967296 → x % 256 + 256 * (x / 256 % 256) + 65536 * (x / 65536 % 256 + 256 * (x / 16777216 % 256)) ≡ x
u32_whole x h =
    let third : x / 65536 ≡ x / 256 / 256 = sym (div-div-eq-div-mul x 256 256) in
    let fourth : x / 16777216 ≡ x / 256 / 256 / 256 = sym (div-div-eq-div-mul x 65536 256) ∙ ap (λ (n : ℕ). n / 256) third in
    let low = mod-add-div x 256 in
    let second = mod-add-div (x / 256) 256 in
    let high = mod-add-div (x / 256 / 256) 256 in
    rw (third, fourth, mod-eq_of_lt (fourth_small x _ _ _ _ _ _ h low second high))
    (u32_sum x _ _ _ _ _ _ low second high)

-- Four stores are a u32's.
pub u32_stored : (out : List ℕ) (at x : ℕ) →
    set (set (set (set out at (x % 256)) (at + 1) (x / 256 % 256)) (at + 2) (x / 65536 % 256)) (at + 3) (x / 16777216 % 256)
    ≡ sets out at (u32_bytes x)
unfolding u32_bytes
u32_stored out at x =
    let one : at + 1 ≡ suc at = omega arith in
    let two : at + 2 ≡ suc (suc at) = omega arith in
    let three : at + 3 ≡ suc (suc (suc at)) = omega arith in
    rw (one, two, three)

-- A run of stores in two parts.
pub sets-append : {A : Type 0} (out : List A) (at : ℕ) (xs ys : List A) → sets out at (xs ++ ys) ≡ sets (sets out at xs) (at + length xs) ys
sets-append out at [] ys = let e : at + 0 ≡ at = omega arith in rw e
sets-append out at (x ∷ xs) ys =
    let e : at + suc (length xs) ≡ suc at + length xs = omega arith in
    rw e (sets-append (set out at x) (suc at) xs ys)

-- A run of stores, and one or more stores behind it, in either order.
sets_store : {A : Type 0} (out : List A) (at : ℕ) (xs : List A) (place : ℕ) (y : A) → at + length xs ≤ place →
    sets (set out place y) at xs ≡ set (sets out at xs) place y
sets_store out at [] place y h = refl
sets_store out at (x ∷ xs) place y h =
    ap (λ l. sets l (suc at) xs) (set_comm out place at y x (λ e. absurd (omega arith)))
    ∙ sets_store (set out at x) (suc at) xs place y (omega arith)

pub sets_apart : {A : Type 0} (out : List A) (at : ℕ) (xs : List A) (place : ℕ) (ys : List A) → at + length xs ≤ place →
    sets (sets out place ys) at xs ≡ sets (sets out at xs) place ys
sets_apart out at xs place [] h = refl
sets_apart out at xs place (y ∷ ys) h =
    sets_apart (set out place y) at xs (suc place) ys (omega arith) ∙ ap (λ l. sets l (suc place) ys) (sets_store out at xs place y h)
