-- How many ticks a job can stay alive, for any budget of work C and span L. Of its D or more ticks, f₁ are full at
-- share a, f₂ full at share b and p partial; while it is alive, p + 1 ≤ L and a·f₁ + b·f₂ + p + 1 ≤ C. Each law is
-- linear once the products are at hand.
use Prim.Native.Nat.{ℕ, ◌+◌, ◌-◌, ◌*◌, ◌≤◌}
use mathlib.Core.Path.{◌≡◌, ap}
use native.Mathlib.Nat.{mul-le-mul_left, mul-le-mul_right}
use native.Mathlib.Omega.{arith}

-- With c + 1 for b and a + d for b.
critical_core : (C L D a b c d f₁ f₂ p : ℕ) → c + 1 ≡ b → a + d ≡ b → D ≤ f₁ + f₂ + p → p + 1 ≤ L →
    a * f₁ + b * f₂ + p + 1 ≤ C → b * D + b ≤ (C - L) + b * L + d * f₁
critical_core C L D a b c d f₁ f₂ p ec ed ticks span work =
    omega
    (arith, mul-le-mul_left c span, mul-le-mul_left b ticks, ap (λ z. z * p) ec, ap (λ z. z * L) ec, ap (λ z. z * f₁) ed)

-- With c + 1 for a.
typical_core : (C L D a b c f₁ f₂ p : ℕ) → c + 1 ≡ a → a ≤ b → D ≤ f₁ + f₂ + p → p + 1 ≤ L →
    a * f₁ + b * f₂ + p + 1 ≤ C → a * D + a ≤ (C - L) + a * L
typical_core C L D a b c f₁ f₂ p ec le ticks span work =
    omega
    (arith, mul-le-mul_left c span, mul-le-mul_right f₂ le, mul-le-mul_left a ticks, ap (λ z. z * p) ec, ap (λ z. z * L) ec)

module _ (C L D a b f₁ f₂ p : ℕ) (one : 1 ≤ a) (le : a ≤ b) (ticks : D ≤ f₁ + f₂ + p) (span : p + 1 ≤ L)
    (work : a * f₁ + b * f₂ + p + 1 ≤ C) where
  -- (i) The ticks at the critical share, but for what the full typical ticks fall short of it.
  pub ticks_critical : b * D + b ≤ (C - L) + b * L + (b - a) * f₁
  ticks_critical = critical_core C L D a b (b - 1) (b - a) f₁ f₂ p (omega arith) (omega arith) ticks span work

  -- (ii) The ticks at the typical share alone.
  pub ticks_typical : a * D + a ≤ (C - L) + a * L
  ticks_typical = typical_core C L D a b (a - 1) f₁ f₂ p (omega arith) le ticks span work
