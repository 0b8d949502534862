-- The rules of a record, taken apart: the figures' ranges and order, and what a low and a heavy task have.
use Prim.Native.Nat.{ℕ, ◌≤◌, ◌<◌}
use mathlib.Core.Path.{◌≡◌}
use mathlib.Core.Bool.{Bool, true, false, ◌&&◌, ◌||◌, not, false≢true}
use lib.Dec.{leb, eqb}
use borrow.Author.Tests.{leb-true, ltb-true, eqb-true}
use Rattle.std.proofs.lemmas.Bool.{and_parts}
use Rattle.sheet.specs.declared.task.Figures.{Figures}
use Rattle.basics.specs.Numbers.{within}
use Rattle.sheet.specs.Level.{is_high, is_low, figure_limit}
use Rattle.sheet.specs.Rules.{in_range, in_order, low_lawful, figures_lawful, is_heavy}
use Rattle.basics.proofs.Logic.{all_five, within_bounds}

-- What the figures of a lawful task keep.
pub record Kept (level : ℕ) (f : Figures) : Type 0 where
  pub deadline_from : 1 ≤ f.deadline
  pub deadline_to : f.deadline ≤ figure_limit level
  pub span_from : 1 ≤ f.nominal.span
  pub span_work : f.nominal.span ≤ f.nominal.work
  pub works : f.nominal.work ≤ f.overload.work
  pub spans : f.nominal.span ≤ f.overload.span

module _ (level : ℕ) (f : Figures) (lawful : figures_lawful level f ≡ true) where
  in_range_lem : in_range level f ≡ true
  unfolding figures_lawful
  in_range_lem = (and_parts _ _ (and_parts (in_range level f && in_order f) _ lawful).0).0

  ordered : in_order f ≡ true
  unfolding figures_lawful
  ordered = (and_parts (in_range level f) _ (and_parts (in_range level f && in_order f) _ lawful).0).1

  low_kept : low_lawful level f ≡ true
  unfolding figures_lawful
  low_kept = (and_parts (in_range level f && in_order f) _ lawful).1

  pub figures_kept : Kept level f
  unfolding in_range in_order
  figures_kept =
      let limit = figure_limit level in
      let ranges = all_five (within 1 limit f.deadline) (within 1 limit f.nominal.work) (within 1 limit f.overload.work)
      (within 1 limit f.nominal.span) (within 1 limit f.overload.span) in_range_lem in
      let orders = all_five (leb f.nominal.span f.nominal.work) (leb f.overload.span f.overload.work)
      (leb f.nominal.work f.overload.work) (leb f.nominal.span f.overload.span) _ ordered in
      record {
        deadline_from = (within_bounds 1 limit f.deadline ranges.0).0;
        deadline_to = (within_bounds 1 limit f.deadline ranges.0).1;
        span_from = (within_bounds 1 limit f.nominal.span ranges.3).0;
        span_work = leb-true _ _ orders.0;
        works = leb-true _ _ orders.2;
        spans = leb-true _ _ orders.3;
      }

  -- A low task has CN = CO and LN = LO.
  pub low_equal : is_low level ≡ true → (f.nominal.work ≡ f.overload.work) × (f.nominal.span ≡ f.overload.span)
  unfolding low_lawful is_low
  low_equal low =
      let both = and_parts (eqb f.nominal.work f.overload.work) _ (go (is_high level) low low_kept) in
      (eqb-true _ _ both.0, eqb-true _ _ both.1)
    where
      go : {rest : Bool} (high : Bool) → not high ≡ true → high || rest ≡ true → rest ≡ true
      go true e h = absurd (false≢true e)
      go false e h = h

pub heavy_work : (f : Figures) → is_heavy f ≡ true → f.deadline < f.overload.work
unfolding is_heavy
heavy_work f heavy = ltb-true _ _ heavy
