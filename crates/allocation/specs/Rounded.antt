-- S4.5 and S4.6 of what is fixed for a task, without a division.
use Rattle.std.specs.Prelude.{◌-◌, ◌≤◌, true, false, ◌≡◌}
use Rattle.sheet.specs.declared.task.Task.{Task}
use Rattle.sheet.specs.Level.{is_low}
use Rattle.shares.specs.Deadline.{Exact}
use Rattle.allocation.specs.declared.allocate.Allocation.{Allocation}

-- A high task's V is LN and a quotient: with its typical share and its remainder the quotient gives CN − LN again. A
-- low task has the V 0 and the remainder 0.
pub record Rounded (t : Task) (x : Allocation) : Type 0 where
  pub from_span : is_low t.level ≡ false → t.figures.nominal.span ≤ x.virtual_deadline
  pub exact : is_low t.level ≡ false →
      Exact t.figures x.share.typical
      (record { quotient = x.virtual_deadline - t.figures.nominal.span; remainder = x.remainder })
  pub low_virtual : is_low t.level ≡ true → x.virtual_deadline ≡ 0
  pub low_remainder : is_low t.level ≡ true → x.remainder ≡ 0
