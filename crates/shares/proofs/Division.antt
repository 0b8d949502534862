-- The division behind V: nothing is lost in it, so that V, the typical share and the remainder give the nominal work
-- again.
use Prim.Native.Nat.{ℕ, ◌-◌, ◌≤◌, ◌<◌}
use mathlib.Core.Bool.{Bool, true, false, cond}
use mathlib.Core.Path.{◌≡◌}
use native.Mathlib.Nat.{div-add-mod, div-le_self, mod-lt}
use native.Mathlib.Omega.{arith}
use Rattle.sheet.specs.declared.task.Figures.{Figures}
use Rattle.sheet.specs.declared.task.Task.{Task}
use Rattle.sheet.specs.Level.{is_low}
use Rattle.shares.specs.Test.{division_of, virtual_deadline}
use Rattle.shares.specs.Deadline.{remainder_of, Exact}

module _ (f : Figures) (a : ℕ) (one : 1 ≤ a) where
  -- S4.6 of every figure and every share.
  pub division_exact : Exact f a (division_of f a)
  unfolding division_of
  division_exact =
      record { again = div-add-mod (f.nominal.work - f.nominal.span) a; less = mod-lt (f.nominal.work - f.nominal.span) one }

  -- The quotient is V less LN.
  pub virtual_exact : Exact f a (record { quotient = virtual_deadline f a - f.nominal.span; remainder = (division_of f a).remainder })
  unfolding virtual_deadline
  virtual_exact =
      let same : virtual_deadline f a - f.nominal.span ≡ (division_of f a).quotient = omega arith in
      rw same division_exact

-- The quotient is at most what is divided.
pub quotient_within : (f : Figures) (a : ℕ) → (division_of f a).quotient ≤ f.nominal.work - f.nominal.span
unfolding division_of
quotient_within f a = div-le_self (f.nominal.work - f.nominal.span) a

-- A task of either level has less than a left.
pub remainder_less : (t : Task) (a : ℕ) → 1 ≤ a → remainder_of t a < a
unfolding remainder_of
remainder_less t a one = go (is_low t.level)
  where
    go : (low : Bool) → cond low 0 (division_of t.figures a).remainder < a
    go true = one
    go false = (division_exact t.figures a one).less
