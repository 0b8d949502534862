-- S11.1 to S11.10: the worked cases of single tasks, with their numbers.
use Rattle.std.specs.Prelude.{ℕ, ◌*◌, ◌≤◌, ◌<◌, ◌≡◌, ◌≢◌, true, false, Some, None}
use Rattle.sheet.specs.declared.task.Figures.{Figures}
use Rattle.shares.specs.Test.{demand, passes, virtual_deadline}
use Rattle.shares.specs.Low.{has_low_share, low_answer}

-- Figures in the order of S11: D, CN, LN, CO, LO.
abbrev pub figures : ℕ → ℕ → ℕ → ℕ → ℕ → Figures
figures D CN LN CO LO =
    record {
      deadline = D;
      nominal = record { work = CN; span = LN };
      overload = record { work = CO; span = LO };
    }

-- A: D 45, CN 9, LN 4, CO 52, LO 20.
abbrev pub task_a : Figures
task_a = figures 45 9 4 52 20

-- B: 54, 11, 4, 80, 42.
abbrev pub task_b : Figures
task_b = figures 54 11 4 80 42

-- A low task: D 18, work C, L 6.
abbrev pub low_task : ℕ → Figures
low_task C = figures 18 C 6 C 6

-- A pair (a, b) that passes, with the two sides of the test.
pub record Passes (f : Figures) (a b left right : ℕ) : Type 0 where
  pub verdict : passes f a b ≡ true
  pub is_left : f.deadline * a * b ≡ left
  pub is_right : demand f a b ≡ right
  pub compared : right ≤ left

-- A pair (a, b) that fails, with the two sides of the test.
pub record Fails (f : Figures) (a b left right : ℕ) : Type 0 where
  pub verdict : passes f a b ≡ false
  pub is_left : f.deadline * a * b ≡ left
  pub is_right : demand f a b ≡ right
  pub compared : left < right

-- A low task gets just s processors: where M is s or more it has the share s, and where M is less it has none.
pub record Gets (f : Figures) (s : ℕ) : Type 0 where
  pub some : (M : ℕ) → s ≤ M → (has_low_share M f ≡ true) × (low_answer M f ≡ Some s)
  pub none : (M : ℕ) → M < s → (has_low_share M f ≡ false) × (low_answer M f ≡ None)

-- S11.1 to S11.10, proved together.
pub record Cases : Type 0 where
  pub case1 : Fails task_a 1 1 45 52
  pub case2 : Passes task_a 1 2 90 81 × (virtual_deadline task_a 1 ≡ 9)
  pub case3 : Passes task_a 2 2 180 144 × (virtual_deadline task_a 2 ≡ 6) × (virtual_deadline task_a 2 ≢ 7)
  pub case4 : Fails task_b 2 5 540 541
  pub case5 : Passes task_b 2 6 648 640
  pub case6 : Fails task_b 3 3 486 492
  pub case7 : Passes task_b 3 4 648 637 × (virtual_deadline task_b 3 ≡ 6)
  pub case8 : Fails task_b 1 26 1404 1405
  pub case9 : Passes task_b 1 27 1458 1458
  pub case10 : Gets (low_task 30) 2 × Gets (low_task 31) 3
