-- S4.5 and S4.6: the virtual deadline and the remainder of a task of either level, and that nothing is lost in the
-- division.
use Rattle.std.specs.Prelude.{ℕ, ◌+◌, ◌-◌, ◌*◌, ◌<◌, cond, ◌≡◌}
use Rattle.sheet.specs.declared.task.Figures.{Figures}
use Rattle.sheet.specs.declared.task.Task.{Task}
use Rattle.shares.specs.declared.deadline.Division.{Division}
use Rattle.shares.specs.Test.{division_of, virtual_deadline}
use Rattle.sheet.specs.Level.{is_low}

-- S4.5: V of a task with typical share a; a low task has 0.
unfoldable pub virtual_deadline_of : Task → ℕ → ℕ
virtual_deadline_of t a = cond (is_low t.level) 0 (virtual_deadline t.figures a)

-- S4.6: what is left where V is rounded down; a low task has 0.
unfoldable pub remainder_of : Task → ℕ → ℕ
remainder_of t a = cond (is_low t.level) 0 (division_of t.figures a).remainder

-- S4.6: a, the quotient and the remainder give CN − LN again, and what is left is less than a.
pub record Exact (f : Figures) (a : ℕ) (d : Division) : Type 0 where
  pub again : a * d.quotient + d.remainder ≡ f.nominal.work - f.nominal.span
  pub less : d.remainder < a
