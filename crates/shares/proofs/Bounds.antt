-- S4.2: what a pair has to supply is at most CO·a·b: the minimum is at most w, so that CN − LN and w are taken b times
-- at most, and LO with these two is CO.
use Prim.Native.Nat.{ℕ, ◌+◌, ◌-◌, ◌*◌, ◌≤◌, min}
use mathlib.Core.Bool.{true}
use mathlib.Core.Path.{◌≡◌, ap}
use native.Mathlib.Nat.{mul-le-mul, mul-le-mul_left, le_trans, min-le_right}
use native.Mathlib.Omega.{arith}
use borrow.Author.Tests.{leb-true}
use Rattle.basics.proofs.Logic.{all_five}
use Rattle.sheet.specs.declared.task.Figures.{Figures}
use Rattle.sheet.specs.Rules.{in_order}
use Rattle.shares.specs.Test.{excess, demand}
use Rattle.shares.specs.Bound.{DemandBound, SidesBound}

-- n is CN − LN, m the minimum and d is b − a.
sum_bound : (n w m LO CO a b d : ℕ) → n + w + LO ≡ CO → m ≤ w → a + d ≡ b → 1 ≤ a →
    n * b + w * a + LO * a * b + m * d ≤ CO * a * b
sum_bound n w m LO CO a b d whole least e one =
    omega (
      arith,
      mul-le-mul_left d least,
      ap (λ z. w * z) e,
      mul-le-mul_left ((n + w) * b) one,
      ap (λ z. z * (a * b)) whole,
    )

-- CN − LN, w and LO come to CO.
figures-sum : (f : Figures) → in_order f ≡ true → (f.nominal.work - f.nominal.span) + excess f + f.overload.span ≡ f.overload.work
unfolding in_order excess
figures-sum f order =
    let rules = all_five _ _ _ _ _ order in
    omega (
      arith,
      leb-true f.nominal.span f.nominal.work rules.0,
      leb-true f.nominal.work f.overload.work rules.2,
      leb-true f.nominal.span f.overload.span rules.3,
      leb-true (f.overload.span - f.nominal.span) (f.overload.work - f.nominal.work) rules.4,
    )

pub demand_bound : DemandBound
unfolding DemandBound demand
demand_bound f a b order one le =
    omega (
      arith,
      sum_bound (f.nominal.work - f.nominal.span) (excess f) (min (f.nominal.span * a) (excess f)) f.overload.span f.overload.work
          a b (b - a) (figures-sum f order) (min-le_right (f.nominal.span * a) (excess f)) (omega arith) one,
    )

-- A figure within a limit, times two shares.
product_within : (x limit a b : ℕ) → x ≤ limit → a ≤ 64 → b ≤ 64 → x * a * b ≤ limit * 64 * 64
product_within x limit a b small fa fb = mul-le-mul (mul-le-mul small fa) fb

pub sides_bound : SidesBound
unfolding SidesBound DemandBound
sides_bound limit f a b order deadline work one le few =
    record {
      asked = le_trans (demand_bound f a b order one le) (product_within f.overload.work limit a b work (le_trans le few) few);
      supplied = product_within f.deadline limit a b deadline (le_trans le few) few;
    }
