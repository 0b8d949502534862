-- What the reader (S2) and the planner (S5) say of an accepted sheet is what the model's theorem assumes.
use Prim.Native.Nat.{ℕ, ◌<◌}
use mathlib.Core.Bool.{true, not}
use mathlib.Core.List.{List}
use mathlib.Core.Path.{◌≡◌, ap}
use native.Mathlib.Omega.{arith}
use borrow.Author.Tests.{ltb-true}
use Rattle.sheet.specs.declared.task.Task.{Task}
use Rattle.sheet.specs.declared.task.TaskSet.{TaskSet}
use Rattle.sheet.specs.Format.{task_in}
use Rattle.sheet.specs.Rules.{mask_lawful, masks_lawful}
use Rattle.shares.specs.declared.share.Share.{Share}
use Rattle.sheet.specs.Level.{is_low, is_high}
use Rattle.shares.specs.Totals.{share_at}
use Rattle.shares.proofs.Levels.{has_below}
use Rattle.allocation.specs.Lawful.{LawfulSet, LawfulTask, LawfulShares}
use Rattle.allocation.proofs.Lawfulness.{figures_kept, low_equal, heavy_work}
use Rattle.model.specs.Row.{predecessors_of}
use Rattle.model.specs.Plan.{LawfulTask as ModelTask, PassingPair, LowPair, Planned}
use Rattle.basics.proofs.Below.{all_at}
use Rattle.basics.proofs.Logic.{within_bounds}

-- One task.
task_lawful : (t : Task) → LawfulTask t → ModelTask t
unfolding masks_lawful mask_lawful predecessors_of
task_lawful t lawful =
    let kept = figures_kept t.level t.figures lawful.figures in
    record {
      nodes = (within_bounds 1 32 t.nodes lawful.nodes).0;
      figures = record { span = kept.span_from; spans = kept.spans };
      low = λ low. (low_equal t.level t.figures lawful.figures low).0;
      heavy = heavy_work t.figures lawful.heavy;
      masks = λ v below. ltb-true _ _ (all_at t.nodes (mask_lawful t.predecessors) lawful.masks v below);
    }

-- The sheet's task set with the shares that its tasks get.
module _ (tasks : TaskSet) (lawful : LawfulSet tasks) (shares : List Share) (shared : LawfulShares tasks shares) where
  high_pair : (i : ℕ) → i < tasks.count → is_high (task_in tasks i).level ≡ true → PassingPair (task_in tasks i).figures (share_at shares i)
  unfolding is_low
  high_pair i inside high =
      let pair = shared.high i inside (ap not high) in
      record { positive = pair.positive; ordered = pair.ordered; passing = pair.passing }

  low_pair : (i : ℕ) → i < tasks.count → is_low (task_in tasks i).level ≡ true → LowPair (task_in tasks i).figures (share_at shares i)
  low_pair i inside low =
      let pair = shared.low i inside low in
      record { room = has_below _ _ pair.has; typical = pair.typical; critical = pair.critical }

  pub planned : Planned tasks shares
  planned =
      let long = lawful.all_there in
      let few = lawful.few_tasks in
      record {
        tasks = omega arith;
        each = shared.each;
        lawful = λ i inside. task_lawful (task_in tasks i) (lawful.lawful i inside);
        high = high_pair;
        low = low_pair;
        fits = shared.fits;
      }
