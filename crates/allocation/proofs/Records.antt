-- S2.6 and S2.14: a record can hold a lawful task, since its figures are within their limit and its masks below 2 ^ 32;
-- and the wide form of a lawful task is lawful, since the limit only grows.
use Prim.Native.Nat.{ℕ, zero, suc, ◌-◌, ◌≤◌, ◌<◌, ◌^◌}
use mathlib.Core.Bool.{Bool, true, false, ◌&&◌, ◌||◌}
use mathlib.Core.List.{List, [], ◌∷◌}
use mathlib.Core.Path.{◌≡◌, refl, ap, ◌∙◌}
use native.Mathlib.Nat.{lt_of_lt_of_le}
use native.Mathlib.Omega.{arith}
use lib.Dec.{leb, ltb}
use lib.ListN.{length, get_or, drop, replicate}
use lib.Pow.{pow_mono}
use borrow.Author.Tests.{leb-true, le-leb, lt-ltb}
use Rattle.std.proofs.lemmas.Bool.{and_parts}
use Rattle.std.specs.List.{list_all}
use Rattle.basics.specs.Numbers.{within}
use Rattle.basics.proofs.Below.{all_at}
use Rattle.basics.proofs.Logic.{all_five, within_bounds}
use Rattle.sheet.specs.declared.task.Figures.{Figures}
use Rattle.sheet.specs.declared.task.Task.{Task}
use Rattle.sheet.specs.Level.{level_lawful, figure_limit}
use Rattle.sheet.specs.Rules.{in_range, in_order, low_lawful, figures_lawful, mask_lawful, masks_lawful}
use Rattle.sheet.specs.Laws.{Encodable}
use Rattle.sheet.specs.Wide.{wide_level, wide_task, WideLevels}
use Rattle.sheet.proofs.Limits.{in_range_lem, limit_room, limit_grows}
use Rattle.sheet.proofs.Masks.{mask_below}
use Rattle.sheet.proofs.Wide.{wide_levels}
use Rattle.allocation.specs.Lawful.{LawfulTask}

-- S2.7: a lawful level is a byte.
level_small : (level : ℕ) → level_lawful level ≡ true → level < 256
unfolding level_lawful
level_small level h = go (leb level 1) refl h
  where
    go : (t : Bool) → leb level 1 ≡ t → (t || within 16 17 level) ≡ true → level < 256
    go true e rest = omega (arith, leb-true level 1 e)
    go false e rest = let bounds = within_bounds 16 17 level rest in omega (arith, bounds.1)

-- S2.12: masks of which the first k pass a test, and zeros that pass it behind them.
zeros_pass : (test : ℕ → Bool) (n : ℕ) → test 0 ≡ true → list_all test (replicate n 0) ≡ true
zeros_pass test zero none = refl
zeros_pass test (suc n) none = rw (none, zeros_pass test n none)

masks_pass : (test : ℕ → Bool) (masks : List ℕ) (k left : ℕ) → ((v : ℕ) → v < k → test (get_or masks v 0) ≡ true) → test 0 ≡ true →
    drop k masks ≡ replicate left 0 → list_all test masks ≡ true
masks_pass test masks zero left h none e = ap (list_all test) e ∙ zeros_pass test left none
masks_pass test [] (suc k) left h none e = refl
masks_pass test (mask ∷ masks) (suc k) left h none e =
    rw (h 0 (omega arith), masks_pass test masks k left (λ v l. h (suc v) (omega arith)) none e)

mask_fits : (masks : List ℕ) (k v : ℕ) → masks_lawful masks k ≡ true → k ≤ 32 → v < k → get_or masks v 0 < 2 ^ 32
unfolding masks_lawful
mask_fits masks k v lawful few l =
    lt_of_lt_of_le (mask_below masks v (all_at k (mask_lawful masks) lawful v l)) (pow_mono {i = v} {j = 32} (omega arith))

-- S2.6: a record can hold a lawful task with 32 masks, those from k on 0.
pub encodable : (t : Task) → LawfulTask t → length t.predecessors ≡ 32 →
    drop t.nodes t.predecessors ≡ replicate (32 - t.nodes) 0 → Encodable t
unfolding figures_lawful
encodable t lawful long none =
    let ranged = in_range_lem t.level t.figures (and_parts _ _ (and_parts _ _ lawful.figures).0).0 in
    let room = limit_room t.level in
    let few = (within_bounds 1 32 t.nodes lawful.nodes).1 in
    record {
      level = level_small t.level lawful.level;
      nodes = few;
      deadline = omega (arith, ranged.deadline);
      nominal_work = omega (arith, ranged.nominal_work);
      overload_work = omega (arith, ranged.overload_work);
      nominal_span = omega (arith, ranged.nominal_span);
      overload_span = omega (arith, ranged.overload_span);
      masks = long;
      masks_fit = masks_pass (λ mask. ltb mask (2 ^ 32)) t.predecessors t.nodes (32 - t.nodes)
          (λ v l. lt-ltb (get_or t.predecessors v 0) (2 ^ 32) (mask_fits t.predecessors t.nodes v lawful.masks few l)) refl none;
      masks_none = none;
    }

-- S2.14: the wide form of a lawful task is lawful, since the limit only grows.
within_more : (low high more x : ℕ) → high ≤ more → within low high x ≡ true → within low more x ≡ true
within_more low high more x grows h =
    let bounds = within_bounds low high x h in
    rw (le-leb low x bounds.0, le-leb x more (omega (arith, bounds.1)))

module _ (level : ℕ) (f : Figures) where
  range_grows : in_range level f ≡ true → in_range (wide_level level) f ≡ true
  unfolding in_range
  range_grows h =
      let limit = figure_limit level in
      let more : (x : ℕ) → within 1 limit x ≡ true → within 1 (figure_limit (wide_level level)) x ≡ true =
      λ x e. within_more 1 limit (figure_limit (wide_level level)) x (limit_grows level) e in
      let all = all_five (within 1 limit f.deadline) (within 1 limit f.nominal.work) (within 1 limit f.overload.work)
      (within 1 limit f.nominal.span) (within 1 limit f.overload.span) h in
      rw (
        more f.deadline all.0,
        more f.nominal.work all.1,
        more f.overload.work all.2,
        more f.nominal.span all.3,
        more f.overload.span all.4,
      )

  low_same : low_lawful (wide_level level) f ≡ low_lawful level f
  unfolding low_lawful WideLevels
  low_same = rw (wide_levels level).high

  figures_wide : figures_lawful level f ≡ true → figures_lawful (wide_level level) f ≡ true
  unfolding figures_lawful
  figures_wide h =
      let rules = and_parts (in_range level f && in_order f) (low_lawful level f) h in
      let both = and_parts (in_range level f) (in_order f) rules.0 in
      rw (range_grows both.0, both.1, low_same, rules.1)

pub wide_lawful : (t : Task) → LawfulTask t → LawfulTask (wide_task t)
unfolding wide_task WideLevels
wide_lawful t lawful =
    record {
      level = (wide_levels t.level).lawful ∙ lawful.level;
      nodes = lawful.nodes;
      figures = figures_wide t.level t.figures lawful.figures;
      masks = lawful.masks;
      heavy = lawful.heavy;
    }
