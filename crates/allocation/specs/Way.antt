-- S5.1 to S5.3 in plain words, with no enumeration: what a task may take, what a choice is, and which one is chosen.
use Rattle.std.specs.Prelude.{ℕ, ◌≤◌, ◌<◌, ◌≡◌, Bool, true, false, List, length, get_or, Option, None, Some}
use Rattle.sheet.specs.declared.task.Figures.{Figures}
use Rattle.sheet.specs.declared.task.Task.{Task}
use Rattle.sheet.specs.Format.{missing_task}
use Rattle.shares.specs.declared.share.Share.{Share}
use Rattle.shares.specs.Test.{passes}
use Rattle.sheet.specs.Level.{is_low}
use Rattle.shares.specs.Low.{low_share, has_low_share}
use Rattle.shares.specs.Totals.{share_at, typical_total, critical_total}
use Rattle.basics.specs.Order.{no_later}
use Rattle.allocation.specs.Choice.{rank}

-- S4.2: what a high task may take is a pair within M that passes.
pub record HighPair (M : ℕ) (f : Figures) (s : Share) : Type 0 where
  pub positive : 1 ≤ s.typical
  pub ordered : s.typical ≤ s.critical
  pub within : s.critical ≤ M
  pub passing : passes f s.typical s.critical ≡ true

-- S4.1: what a low task may take is its share, where it has one within M, with the critical share 0.
pub record LowPair (M : ℕ) (f : Figures) (s : Share) : Type 0 where
  pub has : has_low_share M f ≡ true
  pub typical : s.typical ≡ low_share f
  pub critical : s.critical ≡ 0

-- The same for a task of either level.
pub record MayTake (M : ℕ) (t : Task) (s : Share) : Type 0 where
  pub high : is_low t.level ≡ false → HighPair M t.figures s
  pub low : is_low t.level ≡ true → LowPair M t.figures s

-- S9.7: what a test on a task says if it is true just where the task may take nothing.
pub record TakesNothing (M : ℕ) (t : Task) (verdict : Bool) : Type 0 where
  pub nothing : verdict ≡ true → (s : Share) → MayTake M t s → ⊥
  pub something : verdict ≡ false → (s : Share) × MayTake M t s

-- S5.1: a way to give shares to tasks: one share for each, which the task may take.
pub record Way (M : ℕ) (tasks : List Task) (shares : List Share) : Type 0 where
  pub each : length shares ≡ length tasks
  pub takes : (i : ℕ) → i < length tasks → MayTake M (get_or tasks i missing_task) (share_at shares i)

-- S5.2: a way that fits.
pub record FittingWay (M : ℕ) (tasks : List Task) (shares : List Share) : Type 0 where
  pub way : Way M tasks shares
  pub typical : typical_total shares ≤ M
  pub critical : critical_total shares ≤ M

-- S5.3: the best of all ways that fit, or none. What is chosen fits; it comes no later than any way that fits, and any
-- other comes later than it; and none is chosen just where no way fits.
pub record BestWay (M : ℕ) (tasks : List Task) (choice : Option (List Share)) : Type 0 where
  pub fits : (best : List Share) → choice ≡ Some best → FittingWay M tasks best
  pub first : (way : List Share) → FittingWay M tasks way →
      (best : List Share) × ((choice ≡ Some best) × (no_later (rank best) (rank way) ≡ true))
  pub only : (best way : List Share) → choice ≡ Some best → FittingWay M tasks way → (way ≡ best → ⊥) →
      no_later (rank way) (rank best) ≡ false
  pub none_fits : choice ≡ None → (way : List Share) → FittingWay M tasks way → ⊥
  pub none_chosen : ((way : List Share) → FittingWay M tasks way → ⊥) → choice ≡ None
