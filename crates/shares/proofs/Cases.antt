-- S11.1 to S11.10 together: each is computed from the definitions.
use Prim.Native.Nat.{ℕ, ◌*◌, ◌≤◌, ◌<◌}
use mathlib.Core.Path.{refl}
use lib.Dec.{lit<, lit≤}
use borrow.Author.Tests.{le-leb, lt-leb, lt-ltb}
use native.Mathlib.Omega.{arith}
use Rattle.sheet.specs.declared.task.Figures.{Figures}
use Rattle.shares.specs.Test.{excess, demand, passes, division_of, virtual_deadline}
use Rattle.shares.specs.Low.{ceil_div, low_share, has_low_share, low_answer}
use Rattle.shares.specs.Cases.{low_task, Passes, Fails, Gets, Cases}

module _ (f : Figures) (a b : ℕ) where
  passing : demand f a b ≤ f.deadline * a * b → Passes f a b (f.deadline * a * b) (demand f a b)
  unfolding passes
  passing h = record { verdict = le-leb (demand f a b) _ h; is_left = refl; is_right = refl; compared = h }

  failing : f.deadline * a * b < demand f a b → Fails f a b (f.deadline * a * b) (demand f a b)
  unfolding passes
  failing h = record { verdict = lt-leb (demand f a b) _ h; is_left = refl; is_right = refl; compared = h }

-- A low task with slack gets its share, and no M below that has it.
gets : (f : Figures) → f.nominal.span < f.deadline → Gets f (low_share f)
unfolding has_low_share low_answer
gets f slack =
    record {
      some = λ M within. let h = le-leb (low_share f) M within in (rw (lt-ltb _ _ slack, h), rw (lt-ltb _ _ slack, h));
      none = λ M past. let h = lt-leb (low_share f) M past in (rw (lt-ltb _ _ slack, h), rw (lt-ltb _ _ slack, h));
    }

pub cases : Cases
unfolding excess demand division_of virtual_deadline ceil_div low_share
cases =
    record {
      case1 = failing _ 1 1 (lit< tt);
      case2 = (passing _ 1 2 (lit≤ tt), refl);
      case3 = (passing _ 2 2 (lit≤ tt), refl, λ e. omega arith);
      case4 = failing _ 2 5 (lit< tt);
      case5 = passing _ 2 6 (lit≤ tt);
      case6 = failing _ 3 3 (lit< tt);
      case7 = (passing _ 3 4 (lit≤ tt), refl);
      case8 = failing _ 1 26 (lit< tt);
      case9 = passing _ 1 27 (lit≤ tt);
      case10 = (gets (low_task 30) (lit< tt), gets (low_task 31) (lit< tt));
    }
