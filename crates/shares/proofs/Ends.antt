-- What the pair test and the low share promise of an alive job, from the laws on its ticks. A job that lives on to D is
-- against the test: where min(LN·a, w) is LN·a, by (i) times a, and where it is w, by (ii) times b.
use Prim.Native.Nat.{ℕ, zero, suc, ◌+◌, ◌-◌, ◌*◌, ◌/◌, ◌≤◌, ◌<◌}
use mathlib.Core.Path.{◌≡◌, ap}
use native.Mathlib.Nat.{mul-le-mul_left, mul-le-mul, le_of_mul-le-mul_left, mul-div-le, lt-mul-div-succ, lt_of_mul-lt-mul_left, le_trans, min-eq_left, min-eq_right}
use native.Mathlib.Decide.{dec_le}
use native.Mathlib.Omega.{arith}
use lib.Dec.{T, leb→le}
use Rattle.sheet.specs.declared.task.Figures.{Figures}
use Rattle.shares.specs.Test.{excess, demand, passes, division_of, virtual_deadline}
use Rattle.shares.specs.Low.{ceil_div, low_share}
use Rattle.shares.proofs.Ticks.{ticks_critical, ticks_typical}

-- The two cases of the minimum. X is CO − LO, n is CN − LN, d is b − a.
module _ (D LO X n w a b : ℕ) (one : 1 ≤ a) (le : a ≤ b) (over : X ≤ n + w) where
  by_critical : (LN d f₁ : ℕ) → a + d ≡ b → a * f₁ ≤ a * LN + n → b * D + b ≤ X + b * LO + d * f₁ →
      n * b + w * a + LO * a * b + LN * a * d ≤ D * a * b → ⊥
  by_critical LN d f₁ e full late test =
      omega (arith, mul-le-mul_left a late, mul-le-mul_left a over, mul-le-mul_left d full, ap (λ z. n * z) e, mul-le-mul one le)

  by_typical : (d : ℕ) → a + d ≡ b → a * D + a ≤ X + a * LO → n * b + w * a + LO * a * b + w * d ≤ D * a * b → ⊥
  by_typical d e late test =
      omega (arith, mul-le-mul_left b late, mul-le-mul_left b over, ap (λ z. w * z) e, mul-le-mul one le)

-- The virtual deadline, times the typical share.
pub virtual_product : (f : Figures) (a : ℕ) →
    a * virtual_deadline f a ≤ a * f.nominal.span + (f.nominal.work - f.nominal.span)
unfolding division_of virtual_deadline
virtual_product f a = omega (arith, mul-div-le (f.nominal.work - f.nominal.span) a)

-- t ticks with a·t + a ≤ n + a·s.
quotient : (n s a t : ℕ) → 1 ≤ a → a * t + a ≤ n + a * s → t + 1 ≤ s + n / a
quotient n s a t one h =
    let strict : a * (t + 1) < a * (s + n / a + 1) = omega (arith, lt-mul-div-succ n one) in
    omega (arith, lt_of_mul-lt-mul_left a strict)

-- A job of a high task that keeps its overload budget, with at most V full ticks at the typical share, is alive only
-- below D.
pub overload_ends : (f : Figures) (a b f₁ f₂ p : ℕ) → 1 ≤ a → a ≤ b → f.nominal.span ≤ f.overload.span →
    T (passes f a b) → f₁ ≤ virtual_deadline f a → p + 1 ≤ f.overload.span →
    a * f₁ + b * f₂ + p + 1 ≤ f.overload.work → f₁ + f₂ + p + 1 ≤ f.deadline
unfolding excess demand passes
overload_ends f a b f₁ f₂ p one le spans test full span work =
    by_ticks (dec_le (f₁ + f₂ + p + 1) f.deadline)
  where
    pairs : demand f a b ≤ f.deadline * a * b
    pairs = leb→le (demand f a b) _ test

    over : f.overload.work - f.overload.span ≤ (f.nominal.work - f.nominal.span) + excess f
    over = omega arith

    by_min : f.deadline ≤ f₁ + f₂ + p → Dec (f.nominal.span * a ≤ excess f) → ⊥
    by_min late (yes h) =
        by_critical f.deadline f.overload.span _ (f.nominal.work - f.nominal.span) (excess f) a b one le over
        f.nominal.span (b - a) f₁ (omega arith)
        (le_trans (mul-le-mul_left a full) (virtual_product f a))
        (ticks_critical f.overload.work _ _ a b f₁ f₂ p one le late span work)
        (rw (min-eq_left h) at pairs)
    by_min late (no h) =
        let least : excess f ≤ f.nominal.span * a = omega arith in
        by_typical f.deadline f.overload.span _ (f.nominal.work - f.nominal.span) (excess f) a b one le over
        (b - a) (omega arith)
        (ticks_typical f.overload.work _ _ a b f₁ f₂ p one le late span work)
        (rw (min-eq_right least) at pairs)

    by_ticks : Dec (f₁ + f₂ + p + 1 ≤ f.deadline) → f₁ + f₂ + p + 1 ≤ f.deadline
    by_ticks (yes h) = h
    by_ticks (no h) = absurd (by_min (omega arith) (dec_le (f.nominal.span * a) (excess f)))

-- A job that keeps its nominal budget in typical mode is alive only below V.
pub nominal_ends : (f : Figures) (a f₁ p : ℕ) → 1 ≤ a → p + 1 ≤ f.nominal.span → a * f₁ + p + 1 ≤ f.nominal.work →
    f₁ + p + 1 ≤ virtual_deadline f a
unfolding division_of virtual_deadline
nominal_ends f a f₁ p one span work =
    quotient (f.nominal.work - f.nominal.span) f.nominal.span a (f₁ + p) one
    (ticks_typical f.nominal.work _ (f₁ + p) a a f₁ 0 p one (omega arith) (omega arith) span (omega arith))

-- Rounded up: n is at most the quotient times the divisor.
pub ceil_product : (n d : ℕ) → 1 ≤ d → n ≤ d * ceil_div n d
unfolding ceil_div
ceil_product n d one = omega (arith, lt-mul-div-succ (n + (d - 1)) one)

-- A share s of at least 1 with C − L ≤ (D − L)·s ends every job of that budget by D.
pub share_ends : (C L D s f p : ℕ) → 1 ≤ s → L < D → C - L ≤ (D - L) * s → p + 1 ≤ L → s * f + p + 1 ≤ C → f + p + 1 ≤ D
share_ends C L D s f p one below enough span work =
    le_of_mul-le-mul_left (total (D - L) (omega arith) enough) one
  where
    total : (r : ℕ) → r + L ≡ D → C - L ≤ r * s → s * (f + p + 1) ≤ s * D
    total r e h =
        omega
        (arith, ap (λ z. s * z) e, ticks_typical C L (f + p) s s f 0 p one (omega arith) (omega arith) span (omega arith))

-- A job of a low task with its share is alive only below D.
pub low_ends : (f : Figures) (full p : ℕ) → f.nominal.span < f.deadline → 1 ≤ low_share f → p + 1 ≤ f.nominal.span →
    low_share f * full + p + 1 ≤ f.nominal.work → full + p + 1 ≤ f.deadline
unfolding low_share
low_ends f full p below one span work =
    share_ends _ f.nominal.span _ (low_share f) full p one below
    (ceil_product (f.nominal.work - f.nominal.span) (f.deadline - f.nominal.span) (omega arith)) span work

-- A low task whose work exceeds its span has a share of at least 1.
pub low_positive : (f : Figures) → f.nominal.span < f.nominal.work → f.nominal.span < f.deadline → 1 ≤ low_share f
unfolding low_share
low_positive f more below =
    positive _ _ (ceil_product (f.nominal.work - f.nominal.span) (f.deadline - f.nominal.span) (omega arith))
    (omega arith)
  where
    positive : {n : ℕ} (d s : ℕ) → n ≤ d * s → 1 ≤ n → 1 ≤ s
    positive d zero h one = omega arith
    positive d (suc s) h one = omega arith

-- Divided by b, and then by a. v stands for the virtual deadline, x and y for what the test asks besides.
within_core : (D LN LO n v a b x y : ℕ) → 1 ≤ a → 1 ≤ b → LN ≤ LO → n * b + x + LO * a * b + y ≤ D * a * b →
    a * v ≤ a * LN + n → v ≤ D
within_core D LN LO n v a b x y one-a one_b spans test product =
    let scaled : b * (n + LO * a) ≤ b * (D * a) = omega arith in
    let divided : n + LO * a ≤ D * a = le_of_mul-le-mul_left scaled one_b in
    let last : a * v ≤ a * D = omega (arith, mul-le-mul_left a spans) in
    le_of_mul-le-mul_left last one-a

-- The virtual deadline of a passing pair is at most the deadline.
pub virtual_within : (f : Figures) (a b : ℕ) → 1 ≤ a → a ≤ b → f.nominal.span ≤ f.overload.span → T (passes f a b) →
    virtual_deadline f a ≤ f.deadline
unfolding demand passes
virtual_within f a b one le spans test =
    within_core f.deadline _ _ (f.nominal.work - f.nominal.span) _ a b (excess f * a) _ one (le_trans one le) spans
    (leb→le (demand f a b) _ test) (virtual_product f a)

-- The virtual deadline is at least LN.
pub virtual_from_span : (f : Figures) (a : ℕ) → f.nominal.span ≤ virtual_deadline f a
unfolding division_of virtual_deadline
virtual_from_span f a = omega arith

-- The virtual deadline is at least 1 where LN is.
pub virtual_positive : (f : Figures) (a : ℕ) → 1 ≤ f.nominal.span → 1 ≤ virtual_deadline f a
virtual_positive f a one = le_trans one (virtual_from_span f a)
