-- Worked facts by computation: searches, offers and low shares of the tasks of the cases, and what stands for none.
use Prim.Native.Nat.{ℕ}
use mathlib.Core.Path.{◌≡◌, refl}
use mathlib.Core.Bool.{true, false}
use mathlib.Core.List.{[], ◌∷◌}
use Rattle.sheet.specs.declared.task.Task.{Task}
use Rattle.sheet.specs.declared.task.Figures.{Figures}
use Rattle.shares.specs.Test.{excess, demand, passes, division_of, virtual_deadline}
use native.Mathlib.Omega.{arith}
use Rattle.sheet.specs.Level.{is_low, is_high}
use Rattle.sheet.specs.Rules.{in_order}
use Rattle.shares.specs.Low.{ceil_div, low_share, has_low_share}
use Rattle.shares.specs.Search.{first, least_critical}
use Rattle.shares.specs.Offer.{low_critical, critical_at, tabulate}
use Rattle.shares.specs.Deadline.{virtual_deadline_of, remainder_of}
use Rattle.shares.specs.Bound.{SidesWithin, SidesBound}
use Rattle.shares.specs.Cases.{figures, task_a, task_b, low_task}
use Rattle.shares.proofs.Bounds.{sides_bound}

-- A task of a level, with these figures and one node.
abbrev of_level : ℕ → Figures → Task
of_level level f = record { level = level; nodes = 1; figures = f; predecessors = 0 ∷ [] }

-- A dye line: D 400,000, CN 300,000, LN 70,000, CO 800,000, LO 200,000; and every figure at 1,000,000.
abbrev dye_line : Figures
dye_line = figures 400000 300000 70000 800000 200000

abbrev most : Figures
most = figures 1000000 1000000 1000000 1000000 1000000

pub record Worked : Type 0 where
  -- S4.3: the search begins at the typical share itself: A (2, 2) passes.
  pub itself : least_critical 8 task_a 2 ≡ 2
  -- It goes on to the first that passes: A (1, 1) fails and (1, 2) passes; B (2, 5) fails and (2, 6) passes.
  pub next : least_critical 8 task_a 1 ≡ 2
  pub further : least_critical 8 task_b 2 ≡ 6
  -- It tries M itself, and where that fails M + 1 stands for none.
  pub last : least_critical 6 task_b 2 ≡ 6
  pub none : least_critical 5 task_b 2 ≡ 6
  pub none_at_all : least_critical 1 task_a 1 ≡ 2
  -- S4.4: the offer of A on 3 processors, and of a low task with the share 2; the first four numbers.
  pub high_offer : tabulate (critical_at 3 (of_level 1 task_a)) 1 4 ≡ 2 ∷ 2 ∷ 3 ∷ 4 ∷ []
  pub low_offer : tabulate (critical_at 3 (of_level 0 (low_task 30))) 1 4 ≡ 4 ∷ 0 ∷ 4 ∷ 4 ∷ []
  -- S4.1: a share above M is none, and so is that of a task whose span is its deadline.
  pub low_offer_none : tabulate (critical_at 1 (of_level 0 (low_task 30))) 1 4 ≡ 2 ∷ 2 ∷ 2 ∷ 2 ∷ []
  pub no_slack : has_low_share 64 (figures 6 30 6 30 6) ≡ false
  -- S4.5: V of a high task and of a low one.
  pub high_virtual : virtual_deadline_of (of_level 1 task_b) 3 ≡ 6
  pub low_virtual : virtual_deadline_of (of_level 0 (low_task 30)) 2 ≡ 0
  -- S4.6: 5 over 2, of A, and 7 over 2 and over 7, of B. A low task's 25 over 3 is not asked.
  pub some_left : division_of task_a 2 ≡ record { quotient = 2; remainder = 1 }
  pub one_left : division_of task_b 2 ≡ record { quotient = 3; remainder = 1 }
  pub none_left : division_of task_b 7 ≡ record { quotient = 1; remainder = 0 }
  pub high_remainder : remainder_of (of_level 1 task_b) 4 ≡ 3
  pub low_remainder : remainder_of (of_level 0 (low_task 31)) 3 ≡ 0
  -- The same rules for figures that need four bytes: the least critical shares, V, and 230,000 over 3.
  pub wide_two : least_critical 16 dye_line 2 ≡ 16
  pub wide_three : least_critical 16 dye_line 3 ≡ 3
  pub wide_virtual : virtual_deadline_of (of_level 17 dye_line) 3 ≡ 146666
  pub wide_remainder : remainder_of (of_level 17 dye_line) 3 ≡ 2
  pub wide_low_virtual : virtual_deadline_of (of_level 16 dye_line) 3 ≡ 0
  -- S4.2: the greatest sides of all, 1,000,000·64·64 on both, below 2 ^ 32.
  pub most_asked : demand most 64 64 ≡ 4096000000
  pub most_passes : passes most 64 64 ≡ true

pub worked : Worked
unfolding excess demand passes division_of virtual_deadline is_low ceil_div low_share has_low_share first least_critical low_critical critical_at tabulate virtual_deadline_of remainder_of is_high
worked =
    record {
      itself = refl;
      next = refl;
      further = refl;
      last = refl;
      none = refl;
      none_at_all = refl;
      high_offer = refl;
      low_offer = refl;
      low_offer_none = refl;
      no_slack = refl;
      high_virtual = refl;
      low_virtual = refl;
      some_left = refl;
      one_left = refl;
      none_left = refl;
      high_remainder = refl;
      low_remainder = refl;
      wide_two = refl;
      wide_three = refl;
      wide_virtual = refl;
      wide_remainder = refl;
      wide_low_virtual = refl;
      most_asked = refl;
      most_passes = refl;
    }

-- There are figures, shares and a limit for which `sides_bound` holds: those of the greatest sides.
pub some_sides : SidesWithin 1000000 most 64 64
unfolding SidesBound in_order
some_sides = sides_bound 1000000 most 64 64 refl (omega arith) (omega arith) (omega arith) (omega arith) (omega arith)
