-- S2.9: the limit of a level's figures: within a million, within the bytes of a figure, and no smaller in the wide
-- form.
use Prim.Native.Nat.{ℕ, ◌≤◌, ◌<◌}
use mathlib.Core.Bool.{Bool, true, false, cond}
use mathlib.Core.Path.{◌≡◌}
use native.Mathlib.Omega.{arith}
use Rattle.basics.specs.Numbers.{within}
use Rattle.basics.proofs.Logic.{all_five, within_bounds}
use Rattle.sheet.specs.declared.task.Figures.{Figures}
use Rattle.sheet.specs.Level.{is_wide, figure_limit}
use Rattle.sheet.specs.Rules.{in_range}
use Rattle.sheet.specs.Laws.{figure_room}
use Rattle.sheet.specs.Wide.{wide_level, WideLevels}
use Rattle.sheet.proofs.Wide.{wide_levels}

-- No figure of any level is above 1,000,000.
either_most : (wide : Bool) → cond wide 1000000 10000 ≤ 1000000
either_most true = omega arith
either_most false = omega arith

pub limit_most : (level : ℕ) → figure_limit level ≤ 1000000
unfolding figure_limit
limit_most level = either_most (is_wide level)

-- A figure's bytes can hold the limit of its level.
pub limit_room : (level : ℕ) → figure_limit level < figure_room (is_wide level)
unfolding figure_limit
limit_room level = go (is_wide level)
  where
    go : (wide : Bool) → cond wide 1000000 10000 < figure_room wide
    go true = omega arith
    go false = omega arith

-- The wide form has no smaller limit.
pub limit_grows : (level : ℕ) → figure_limit level ≤ figure_limit (wide_level level)
unfolding figure_limit WideLevels
limit_grows level = rw (wide_levels level).wide (either_most (is_wide level))

-- Figures within a limit.
pub record Ranged (limit : ℕ) (f : Figures) : Type 0 where
  pub deadline : f.deadline ≤ limit
  pub nominal_work : f.nominal.work ≤ limit
  pub overload_work : f.overload.work ≤ limit
  pub nominal_span : f.nominal.span ≤ limit
  pub overload_span : f.overload.span ≤ limit

pub in_range_lem : (level : ℕ) (f : Figures) → in_range level f ≡ true → Ranged (figure_limit level) f
unfolding in_range
in_range_lem level f h =
    let limit = figure_limit level in
    let all = all_five (within 1 limit f.deadline) (within 1 limit f.nominal.work) (within 1 limit f.overload.work)
    (within 1 limit f.nominal.span) (within 1 limit f.overload.span) h in
    record {
      deadline = (within_bounds 1 limit f.deadline all.0).1;
      nominal_work = (within_bounds 1 limit f.nominal.work all.1).1;
      overload_work = (within_bounds 1 limit f.overload.work all.2).1;
      nominal_span = (within_bounds 1 limit f.nominal.span all.3).1;
      overload_span = (within_bounds 1 limit f.overload.span all.4).1;
    }
