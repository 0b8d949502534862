-- S5.1 to S5.3 by enumeration: what a task may take, what a choice is, when it fits, and which one is chosen.
use Rattle.std.specs.Prelude.{ℕ, ◌+◌, ◌-◌, Bool, cond, ◌&&◌, List, [], ◌∷◌, map, leb, Option, filter, flat_map}
use Rattle.sheet.specs.declared.task.Figures.{Figures}
use Rattle.sheet.specs.declared.task.Task.{Task}
use Rattle.shares.specs.declared.share.Share.{Share}
use Rattle.shares.specs.Test.{passes}
use Rattle.sheet.specs.Level.{is_low}
use Rattle.shares.specs.Low.{low_share, has_low_share}
use Rattle.shares.specs.Totals.{typical_total, critical_total}
use Rattle.basics.specs.Lists.{range}
use Rattle.basics.specs.Order.{least_by}

-- S4.1: a low task may take its share, where it has one, with the critical share 0.
unfoldable pub low_options : ℕ → Figures → List Share
low_options M f = cond (has_low_share M f) (record { typical = low_share f; critical = 0 } ∷ []) []

-- S4.2: all pairs with 1 ≤ a ≤ b ≤ M.
unfoldable pub pairs_within : ℕ → List Share
pairs_within M = flat_map (λ a. map (λ b. record { typical = a; critical = b }) (range a (M + 1 - a))) (range 1 M)

-- S4.2: a high task may take those that pass.
unfoldable pub high_options : ℕ → Figures → List Share
high_options M f = filter (λ s. passes f s.typical s.critical) (pairs_within M)

-- S5.1: what a task of either level may take.
unfoldable pub options_of : ℕ → Task → List Share
options_of M t = cond (is_low t.level) (low_options M t.figures) (high_options M t.figures)

-- S5.1: every way to take one option of each task.
abbrev pub choices : List (List Share) → List (List Share)
choices [] = [] ∷ []
choices (options ∷ rest) = flat_map (λ s. map (λ choice. s ∷ choice) (choices rest)) options

-- S5.2: a choice fits where in each mode the shares of all tasks come to M or less.
unfoldable pub fits : ℕ → List Share → Bool
fits M choice = leb (typical_total choice) M && leb (critical_total choice) M

-- S5.3: the numbers a and b of each task in turn.
abbrev pub pair_numbers : List Share → List ℕ
pair_numbers choice = flat_map (λ s. s.typical ∷ s.critical ∷ []) choice

-- S5.3: the numbers that the order goes by, the weightiest first: both totals, and then the tasks' pairs.
abbrev pub rank : List Share → List ℕ
rank choice = critical_total choice ∷ typical_total choice ∷ pair_numbers choice

-- S5.2: the choices for a list of tasks that fit M.
unfoldable pub fitting : ℕ → List Task → List (List Share)
fitting M tasks = filter (fits M) (choices (map (options_of M) tasks))

-- S5.3: the first of the choices that fit is chosen, by these numbers; none is, where none fits.
unfoldable pub chosen : ℕ → List Task → Option (List Share)
chosen M tasks = least_by rank (fitting M tasks)
