-- S4.2, S4.5 and S4.6: the test on a high task's pair (a, b), the virtual deadline at its typical share and the
-- division behind it.
use Rattle.std.specs.Prelude.{ℕ, ◌+◌, ◌-◌, ◌*◌, ◌/◌, ◌%◌, min, Bool, leb}
use Rattle.sheet.specs.declared.task.Figures.{Figures}
use Rattle.shares.specs.declared.deadline.Division.{Division}

-- S4.2: w, by how much more the work grows than the span from the nominal to the overload figures.
unfoldable pub excess : Figures → ℕ
excess f = (f.overload.work - f.nominal.work) - (f.overload.span - f.nominal.span)

-- S4.2: what the pair (a, b) has to supply: equation 5's right side, times a·b.
unfoldable pub demand : Figures → ℕ → ℕ → ℕ
demand f a b =
    (f.nominal.work - f.nominal.span) * b
    + excess f * a
    + f.overload.span * a * b
    + min (f.nominal.span * a) (excess f) * (b - a)

-- S4.2: a pair passes where the deadline's supply D·a·b covers the demand; equal is enough.
unfoldable pub passes : Figures → ℕ → ℕ → Bool
passes f a b = leb (demand f a b) (f.deadline * a * b)

-- S4.6: the division behind V: the nominal work beside the span, over a processors, with quotient and remainder.
unfoldable pub division_of : Figures → ℕ → Division
division_of f a =
    record {
      quotient = (f.nominal.work - f.nominal.span) / a;
      remainder = (f.nominal.work - f.nominal.span) % a;
    }

-- S4.5: V of a high task: LN and the quotient, which is rounded down.
unfoldable pub virtual_deadline : Figures → ℕ → ℕ
virtual_deadline f a = f.nominal.span + (division_of f a).quotient
