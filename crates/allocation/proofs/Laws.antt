-- What is chosen, for a reader: it is a choice and fits, every other choice that fits comes after it, and nothing is
-- chosen just where nothing fits; and of a lawful task set, each task's pair passes and its virtual deadline is within
-- its deadline.
use Prim.Native.Nat.{ℕ, ◌≤◌, ◌<◌}
use mathlib.Core.Path.{◌≡◌, refl, sym, ap, ◌∙◌, subst}
use mathlib.Core.Bool.{Bool, true, false, cond}
use mathlib.Core.List.Memᴰ
use mathlib.Core.List.{List, map, Memᴰ}
use Rattle.std.specs.Prelude.{None, Some}
use native.Mathlib.Omega.{arith}
use lib.Dec.{T, leb}
use lib.ListN.{length, get_or}
use lib.Seq.{length-take-le}
use borrow.Author.Tests.{leb-true}
use Rattle.std.proofs.lemmas.Bool.{and_parts, false_from_ne_true}
use Rattle.sheet.specs.declared.task.Task.{Task}
use Rattle.sheet.specs.declared.task.TaskSet.{TaskSet}
use Rattle.sheet.specs.Format.{task_in}
use Rattle.shares.specs.declared.share.Share.{Share}
use Rattle.shares.specs.Deadline.{virtual_deadline_of}
use Rattle.sheet.specs.Level.{is_low}
use Rattle.shares.specs.Test.{virtual_deadline}
use Rattle.shares.specs.Totals.{typical_total, critical_total, no_processors}
use Rattle.shares.proofs.Ends.{virtual_within}
use Rattle.basics.specs.Order.{no_later, least_by}
use Rattle.allocation.specs.Choice.{options_of, choices, fits, rank, fitting, chosen}
use Rattle.allocation.specs.Way.{LowPair, HighPair}
use Rattle.allocation.specs.Blocks.{length_in}
use Rattle.allocation.specs.Allocation.{tasks_of, chosen_for}
use Rattle.allocation.specs.Lawful.{LawfulSet}
use Rattle.basics.proofs.Members.{filter-has, filter_from, none_empty}
use Rattle.basics.proofs.Order.{no_later_both, least_member, least_first, least_none, least_of_none}
use Rattle.allocation.proofs.Ranks.{rank_same}
use Rattle.allocation.proofs.Lawfulness.{figures_kept}
use Rattle.allocation.proofs.Options.{low_from, high_from_lem, options_low, options_high, offer_of_lem}
use Rattle.allocation.proofs.Sets.{fitting_takes, fitting_option, takes_length}

module _ (M : ℕ) (tasks : List Task) where
  chosen_member : (choice : List Share) → chosen M tasks ≡ Some choice → Memᴰ choice (fitting M tasks)
  unfolding chosen
  chosen_member choice e = least_member rank (fitting M tasks) choice e

  fitting_choice : (choice : List Share) → Memᴰ choice (fitting M tasks) →
      Memᴰ choice (choices (map (options_of M) tasks)) × (fits M choice ≡ true)
  unfolding fitting
  fitting_choice choice m = filter_from (fits M) (choices (map (options_of M) tasks)) choice m

  choice_fitting : (choice : List Share) → Memᴰ choice (choices (map (options_of M) tasks)) → fits M choice ≡ true →
      Memᴰ choice (fitting M tasks)
  unfolding fitting
  choice_fitting choice m e = filter-has (fits M) (choices (map (options_of M) tasks)) choice m e

  -- The chosen one is a choice.
  pub chosen_choice : (choice : List Share) → chosen M tasks ≡ Some choice → Memᴰ choice (choices (map (options_of M) tasks))
  chosen_choice choice e = (fitting_choice choice (chosen_member choice e)).0

  -- It fits.
  pub chosen-fits : (choice : List Share) → chosen M tasks ≡ Some choice → fits M choice ≡ true
  chosen-fits choice e = (fitting_choice choice (chosen_member choice e)).1

  -- It comes no later than any choice that fits.
  pub chosen-first : (choice other : List Share) → chosen M tasks ≡ Some choice →
      Memᴰ other (choices (map (options_of M) tasks)) → fits M other ≡ true → no_later (rank choice) (rank other) ≡ true
  unfolding chosen
  chosen-first choice other e m fit = least_first rank (fitting M tasks) choice other e (choice_fitting other m fit)

  -- Every other choice that fits comes after it.
  pub chosen_before : (choice other : List Share) → chosen M tasks ≡ Some choice →
      Memᴰ other (choices (map (options_of M) tasks)) → fits M other ≡ true → (other ≡ choice → ⊥) →
      no_later (rank other) (rank choice) ≡ false
  chosen_before choice other e m fit differs =
      false_from_ne_true _
      (λ q. differs (rank_same other choice (no_later_both (rank other) (rank choice) q (chosen-first choice other e m fit))))

  -- Nothing is chosen only where nothing fits.
  pub chosen_none : chosen M tasks ≡ None → (choice : List Share) → Memᴰ choice (choices (map (options_of M) tasks)) →
      fits M choice ≡ true → ⊥
  unfolding chosen
  chosen_none e choice m fit =
      Memᴰ.not-nil (subst (λ (l : List (List Share)). Memᴰ choice l) (least_none rank (fitting M tasks) e) (choice_fitting choice m fit))

  -- Where nothing fits, nothing is chosen.
  pub none_chosen : ((choice : List Share) → Memᴰ choice (choices (map (options_of M) tasks)) → fits M choice ≡ true → ⊥) →
      chosen M tasks ≡ None
  unfolding chosen
  none_chosen nothing =
      ap (least_by rank)
      (none_empty (fitting M tasks) (λ choice m. let found = fitting_choice choice m in nothing choice found.0 found.1))
      ∙ least_of_none rank

-- The choice that is chosen for a lawful task set.
module _ (set : TaskSet) (lawful : LawfulSet set) (choice : List Share) (chosen_it : chosen_for set ≡ Some choice) where
  member : Memᴰ choice (fitting set.processors (tasks_of set))
  unfolding chosen_for
  member = chosen_member set.processors (tasks_of set) choice chosen_it

  -- It has a share for each task.
  pub chosen-length : length choice ≡ set.count
  chosen-length =
      let long = lawful.all_there in
      let few = lawful.few_tasks in
      takes_length (options_of set.processors) (tasks_of set) choice (fitting_takes set lawful choice member)
      ∙ length-take-le set.count set.tasks (omega arith)

  totals_fit : fits set.processors choice ≡ true
  unfolding chosen_for
  totals_fit = chosen-fits set.processors (tasks_of set) choice chosen_it

  -- The typical shares total at most M, and so do the critical ones.
  pub chosen_typical : typical_total choice ≤ set.processors
  unfolding fits
  chosen_typical = leb-true _ _ (and_parts (leb (typical_total choice) set.processors) _ totals_fit).0

  pub chosen_critical : critical_total choice ≤ set.processors
  unfolding fits
  chosen_critical = leb-true _ _ (and_parts (leb (typical_total choice) set.processors) _ totals_fit).1

  module _ (i : ℕ) (inside : i < set.count) where
    pub chosen_option : Memᴰ (get_or choice i no_processors) (options_of set.processors (task_in set i))
    chosen_option = fitting_option set lawful choice member i inside

    -- A high task has a pair that passes.
    pub chosen_high : is_low (task_in set i).level ≡ false → HighPair set.processors (task_in set i).figures (get_or choice i no_processors)
    chosen_high high =
        high_from_lem set.processors (task_in set i).figures (get_or choice i no_processors)
        (subst (λ (o : List Share). Memᴰ (get_or choice i no_processors) o) (options_high set.processors (task_in set i) high) chosen_option)

    -- A low task has its share.
    pub chosen_low : is_low (task_in set i).level ≡ true → LowPair set.processors (task_in set i).figures (get_or choice i no_processors)
    chosen_low low =
        low_from set.processors (task_in set i).figures (get_or choice i no_processors)
        (subst (λ (o : List Share). Memᴰ (get_or choice i no_processors) o) (options_low set.processors (task_in set i) low) chosen_option)

    pub chosen_positive : 1 ≤ length_in false choice i
    unfolding length_in
    chosen_positive = (offer_of_lem set.processors (task_in set i) (lawful.lawful i inside)).positive (get_or choice i no_processors) chosen_option

    -- The virtual deadline is at most the deadline.
    pub chosen_virtual : virtual_deadline_of (task_in set i) (length_in false choice i) ≤ (task_in set i).figures.deadline
    unfolding virtual_deadline_of length_in
    chosen_virtual = go (is_low (task_in set i).level) refl
      where
        go : (l : Bool) → is_low (task_in set i).level ≡ l →
            cond l 0 (virtual_deadline (task_in set i).figures (get_or choice i no_processors).typical) ≤ (task_in set i).figures.deadline
        go true low = omega arith
        go false high =
            let pair = chosen_high high in
            let kept = figures_kept (task_in set i).level (task_in set i).figures (lawful.lawful i inside).figures in
            virtual_within (task_in set i).figures (get_or choice i no_processors).typical (get_or choice i no_processors).critical
            pair.positive pair.ordered kept.spans (subst T (sym pair.passing) tt)
