-- The choice in plain words: an enumerated choice is a way and a way is one, task by task, so that the least choice
-- that fits is the best way that fits; and the answer on a task set follows.
use Prim.Native.Nat.{ℕ, suc, ◌<◌}
use mathlib.Core.Path.{◌≡◌, refl, sym}
use mathlib.Core.Bool.{Bool, true, false, false≢true}
use mathlib.Core.List.{List, [], ◌∷◌, map, Memᴰ}
use native.Mathlib.Omega.{arith}
use lib.Dec.{leb}
use lib.ListN.{length, get_or}
use borrow.Author.Tests.{leb-true, le-leb}
use Rattle.sheet.specs.declared.task.Task.{Task}
use Rattle.sheet.specs.declared.task.TaskSet.{TaskSet}
use Rattle.std.specs.Prelude.{Ok, Err, Option, None, Some, is_none}
use Rattle.std.proofs.lemmas.Bool.{and_parts}
use Rattle.sheet.specs.declared.refusal.Refusal.{Refusal}
use Rattle.sheet.specs.declared.refusal.Refusal.TheVariants.{NoShare, NoFit}
use Rattle.sheet.specs.Refusal.{Answer, refused_if, ◌or_else◌, first_over}
use Rattle.sheet.specs.Format.{task_in, missing_task}
use Rattle.shares.specs.declared.share.Share.{Share}
use Rattle.shares.specs.Totals.{no_processors, share_at, typical_total}
use Rattle.basics.specs.Lists.{is_empty}
use Rattle.basics.specs.Order.{no_later}
use Rattle.allocation.specs.Choice.{options_of, choices, fits, rank, chosen}
use Rattle.allocation.specs.Way.{MayTake, TakesNothing, FittingWay, BestWay}
use Rattle.allocation.specs.Allocation.{tasks_of, chosen_for, share_answer, choice_answer}
use Rattle.allocation.specs.Verdict.{CanTake, Verdict, nothing_to_take, nothing_fits, accepted}
use Rattle.sheet.proofs.Faults.{over_accepted}
use Rattle.basics.proofs.Members.{empty_none}
use Rattle.allocation.proofs.Optimal.{Takes, takes_choice, choice_takes}
use Rattle.allocation.proofs.Options.{option_may, may_option}
use Rattle.allocation.proofs.Sets.{takes_at, takes_length, over_first, share_refused}
use Rattle.allocation.proofs.Laws.{chosen_choice, chosen-fits, chosen-first, chosen_before, chosen_none, none_chosen}

-- Refusal 7 in plain words: a task has no option just where it may take nothing.
pub no_option_plain : (M : ℕ) (t : Task) → TakesNothing M t (is_empty (options_of M t))
no_option_plain M t =
    record {
      nothing = λ empty s may. empty_none (options_of M t) s empty (may_option M t s may);
      something = λ filled. go (options_of M t) filled (option_may M t);
    }
  where
    go : (options : List Share) → is_empty options ≡ false → ((s : Share) → Memᴰ s options → MayTake M t s) →
        (s : Share) × MayTake M t s
    go [] filled may = absurd (false≢true (sym filled))
    go (s ∷ rest) filled may = (s, may s (Memᴰ.head refl))

module _ (M : ℕ) where
  -- A way takes an option of each task.
  way_takes : (tasks : List Task) (shares : List Share) → length shares ≡ length tasks →
      ((i : ℕ) → i < length tasks → MayTake M (get_or tasks i missing_task) (get_or shares i no_processors)) →
      Takes (map (options_of M) tasks) shares
  way_takes [] [] each takes = tt
  way_takes [] (s ∷ shares) each takes = absurd (omega arith)
  way_takes (t ∷ tasks) [] each takes = absurd (omega arith)
  way_takes (t ∷ tasks) (s ∷ shares) each takes = (
    may_option M t s (takes 0 (omega arith)),
    way_takes tasks shares (omega arith) (λ i inside. takes (suc i) (omega arith)),
  )

  module _ (tasks : List Task) (shares : List Share) where
    -- A way that fits is a choice that fits.
    way_choice : FittingWay M tasks shares → Memᴰ shares (choices (map (options_of M) tasks))
    unfolding share_at
    way_choice fit = takes_choice (map (options_of M) tasks) shares (way_takes tasks shares fit.way.each fit.way.takes)

    way_fits : FittingWay M tasks shares → fits M shares ≡ true
    unfolding fits
    way_fits fit = rw (le-leb _ M fit.typical, le-leb _ M fit.critical)

    -- A choice that fits is a way that fits.
    choice_way : Memᴰ shares (choices (map (options_of M) tasks)) → fits M shares ≡ true → FittingWay M tasks shares
    unfolding fits share_at
    choice_way m fit =
        let takes = choice_takes (map (options_of M) tasks) shares m in
        record {
          way =
              record {
                each = takes_length (options_of M) tasks shares takes;
                takes = λ i inside. option_may M _ _ (takes_at (options_of M) tasks shares takes i missing_task inside);
              };
          typical = leb-true _ _ (and_parts (leb (typical_total shares) M) _ fit).0;
          critical = leb-true _ _ (and_parts (leb (typical_total shares) M) _ fit).1;
        }

  -- S5.1 to S5.3: what is chosen is the best way that fits.
  pub chosen_best : (tasks : List Task) → BestWay M tasks (chosen M tasks)
  chosen_best tasks =
      record {
        fits = λ best e. choice_way tasks best (chosen_choice M tasks best e) (chosen-fits M tasks best e);
        first = λ way fit. go (chosen M tasks) refl way fit;
        only = λ best way e fit other. chosen_before M tasks best way e (way_choice tasks way fit) (way_fits tasks way fit) other;
        none_fits = λ e way fit. chosen_none M tasks e way (way_choice tasks way fit) (way_fits tasks way fit);
        none_chosen = λ no_way. none_chosen M tasks (λ choice m fit. no_way choice (choice_way tasks choice m fit));
      }
    where
      go : (o : Option (List Share)) → chosen M tasks ≡ o → (way : List Share) → FittingWay M tasks way →
          (best : List Share) × ((o ≡ Some best) × (no_later (rank best) (rank way) ≡ true))
      go None e way fit = absurd (chosen_none M tasks e way (way_choice tasks way fit) (way_fits tasks way fit))
      go (Some best) e way fit =
          (best, (refl, chosen-first M tasks best way e (way_choice tasks way fit) (way_fits tasks way fit)))

-- The same of a task set.
pub set_best : (set : TaskSet) → BestWay set.processors (tasks_of set) (chosen_for set)
unfolding chosen_for
set_best set = chosen_best set.processors (tasks_of set)

-- The answer on a task set in plain words: the first task that may take nothing, or else whether a way fits.
module _ (set : TaskSet) where
  share_accepted : (i : ℕ) → share_answer set i ≡ Ok tt → CanTake set i
  unfolding share_answer
  share_accepted i e =
      (no_option_plain set.processors (task_in set i)).something (go (is_empty (options_of set.processors (task_in set i))) e)
    where
      go : (t : Bool) → refused_if t (NoShare i) ≡ Ok tt → t ≡ false
      go true h = absurd (cc)
      go false h = refl

  pub choice_verdict : Verdict set (choice_answer set)
  unfolding choice_answer
  choice_verdict = by_share (first_over (share_answer set) 0 set.count) refl
    where
      by_way : ((i : ℕ) → i < set.count → CanTake set i) → (o : Option (List Share)) → chosen_for set ≡ o →
          Verdict set (refused_if (is_none o) NoFit)
      by_way can None e = nothing_fits can ((set_best set).none_fits e)
      by_way can (Some best) e = accepted can best ((set_best set).fits best e)

      named : (i : ℕ) {r : Refusal} → r ≡ NoShare i → Verdict set (Err (NoShare i)) → Verdict set (Err r)
      named i same v = rw same v

      by_share : (a : Answer) → first_over (share_answer set) 0 set.count ≡ a →
          Verdict set (a or_else refused_if (is_none (chosen_for set)) NoFit)
      by_share (Ok u) e =
          by_way (λ i inside. share_accepted i (over_accepted (share_answer set) 0 set.count i e (omega arith) (omega arith)))
          (chosen_for set) refl
      by_share (Err r) e =
          let found = over_first (share_answer set) 0 set.count r e in
          let inside = found.1.0 in
          let none_left = share_refused set found.0 r found.1.1 in
          named found.0 none_left.1
          (nothing_to_take (omega arith)
          (λ can. (no_option_plain set.processors (task_in set found.0)).nothing none_left.0 can.0 can.1)
          (λ j before. share_accepted j (found.1.2 j (omega arith) before)))
