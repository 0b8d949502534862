-- Worked facts by computation: choices and refusals of small task sets, and what is fixed for their tasks.
use Prim.Native.Nat.{ℕ, zero, suc, ◌≤◌, ◌<◌}
use mathlib.Core.Path.{◌≡◌, refl, sym, ap}
use mathlib.Core.Bool.{true, false≢true}
use mathlib.Core.List.Memᴰ
use mathlib.Core.List.{List, [], ◌∷◌}
use native.Mathlib.Omega.{arith}
use lib.Dec.{lit≤}
use lib.ListN.{length, get_or}
use Rattle.sheet.specs.declared.task.Figures.{Figures}
use Rattle.sheet.specs.declared.task.Task.{Task}
use Rattle.sheet.specs.declared.task.TaskSet.{TaskSet}
use Rattle.sheet.specs.Refusal.{first_over}
use Rattle.sheet.specs.Format.{task_in, missing_task}
use Rattle.shares.specs.declared.share.Share.{Share}
use Rattle.shares.specs.Cases.{figures, task_a, task_b, low_task}
use Rattle.sheet.specs.Level.{is_low, is_high}
use Rattle.shares.specs.Low.{ceil_div, low_share, has_low_share}
use Rattle.shares.specs.Test.{excess, demand, passes, division_of}
use Rattle.shares.specs.Deadline.{remainder_of}
use Rattle.shares.specs.Search.{first, least_critical}
use Rattle.shares.specs.Offer.{tabulate, critical_at, offer_of}
use Rattle.shares.specs.Totals.{no_processors, share_at}
use Rattle.basics.specs.Lists.{range, cells_from}
use Rattle.basics.specs.Order.{least_by, least}
use Rattle.allocation.specs.Choice.{low_options, pairs_within, high_options, options_of, fits, rank, fitting, chosen}
use Rattle.allocation.specs.Way.{MayTake, FittingWay}
use Rattle.keeping.specs.Kept.{low_numbers, holdable, first_held, typical_share_at, left_over, kept_tasks, kept_share, with_kept}
use Rattle.keeping.specs.KeptSet.{HeldSet}
use Rattle.allocation.specs.Held.{options_up_to, critical_shares, critical_totals, uncapped_share, uncapped_total, share_held, total_held}
use Rattle.allocation.specs.means.Selection.{cell_at, least_from, sum_at, best_share, total_with, least_total, totals_of, offers_of, offers_up_to, last_totals, totals_for}
use Rattle.allocation.specs.Allocation.{chosen_for, share_answer, choice_answer, shares_with, shares_of, allocation_of}
use Rattle.std.specs.Prelude.{Err, None, Some}
use Rattle.sheet.specs.declared.refusal.Refusal.TheVariants.{NoShare, NoFit}

-- A typical and a critical share.
abbrev pub pair : ℕ → ℕ → Share
pair a b = record { typical = a; critical = b }

-- A task of one node, high or low.
abbrev pub high : Figures → Task
high f = record { figures = f; predecessors = 0 ∷ []; level = 1; nodes = 1 }

abbrev pub low : Figures → Task
low f = record { figures = f; predecessors = 0 ∷ []; level = 0; nodes = 1 }

-- Tasks on M processors.
abbrev pub on : ℕ → List Task → TaskSet
on M tasks = record { processors = M; count = length tasks; tasks = tasks }

-- A high task whose least critical share is 3 at typical share 1 and 2 at 2.
abbrev pub steep : Figures
steep = figures 6 2 1 10 1

-- A and B of S11.
abbrev pub ab : List Task
ab = high task_a ∷ high task_b ∷ []

-- E of S11, and A, B and E.
abbrev pub task_e : Figures
task_e = figures 18 66 6 66 6

abbrev pub abe : List Task
abe = high task_a ∷ high task_b ∷ low task_e ∷ []

pub record Worked : Type 0 where
  -- S5.3: the critical total comes before the typical one.
  pub by_critical : least_by rank ((pair 1 3 ∷ []) ∷ (pair 2 2 ∷ []) ∷ []) ≡ Some (pair 2 2 ∷ [])
  -- With the same critical total the smaller typical total decides.
  pub by_typical : least_by rank ((pair 2 2 ∷ pair 1 2 ∷ []) ∷ (pair 1 2 ∷ pair 1 2 ∷ []) ∷ []) ≡ Some (pair 1 2 ∷ pair 1 2 ∷ [])
  -- With the same totals the first task whose pairs differ decides, by the smaller a.
  pub by_a : least_by rank ((pair 2 2 ∷ pair 1 3 ∷ []) ∷ (pair 1 3 ∷ pair 2 2 ∷ []) ∷ []) ≡ Some (pair 1 3 ∷ pair 2 2 ∷ [])
  -- With the same a, by the smaller b.
  pub by_b : least_by rank ((pair 1 3 ∷ pair 1 2 ∷ []) ∷ (pair 1 2 ∷ pair 1 3 ∷ []) ∷ []) ≡ Some (pair 1 2 ∷ pair 1 3 ∷ [])
  -- A twice on 4 processors: (2, 2) twice has the same critical total, and a larger typical one.
  pub twice : chosen_for (on 4 (high task_a ∷ high task_a ∷ [])) ≡ Some (pair 1 2 ∷ pair 1 2 ∷ [])
  -- The low task leaves 3 of 5 processors, so that one of two steep tasks takes 1 and the other 2: the first takes 1.
  pub smaller_first : chosen_for (on 5 (high steep ∷ high steep ∷ low (low_task 30) ∷ [])) ≡ Some (pair 1 3 ∷ pair 2 2 ∷ pair 2 0 ∷ [])
  -- Refusal 7: on 1 processor the low task's share is too large; what comes after it is not asked.
  pub nothing_to_take : choice_answer (on 1 (low (low_task 30) ∷ high task_a ∷ [])) ≡ Err (NoShare 0)
  -- Refusal 8: on 3 processors A twice needs 4 in critical mode.
  pub nothing_fits : choice_answer (on 3 (high task_a ∷ high task_a ∷ [])) ≡ Err NoFit
  pub nothing : chosen_for (on 3 (high task_a ∷ high task_a ∷ [])) ≡ None
  -- S11.11: A and B on 5 and on 3 processors.
  pub on_five : choice_answer (on 5 ab) ≡ Err NoFit
  pub on_three : choice_answer (on 3 ab) ≡ Err (NoShare 1)
  -- S11.12: A, B and E on 7 processors.
  pub with_low : choice_answer (on 7 abe) ≡ Err NoFit

pub record WorkedKept : Type 0 where
  -- S5.6: A and two low tasks of 2 on 6 processors: A's pair stays as it is chosen, and both are kept.
  pub both : shares_of (on 6 (high task_a ∷ low (low_task 30) ∷ low (low_task 30) ∷ [])) ≡ pair 1 2 ∷ pair 2 2 ∷ pair 2 2 ∷ []
  -- On 5 there are three left over: one is kept, the first.
  pub one : shares_of (on 5 (low (low_task 30) ∷ high task_a ∷ low (low_task 30) ∷ [])) ≡ pair 2 2 ∷ pair 1 2 ∷ pair 2 0 ∷ []
  -- A, B and E on 8 processors: A and B leave none over.
  pub full : shares_of (on 8 abe) ≡ pair 1 2 ∷ pair 2 6 ∷ pair 5 0 ∷ []

pub worked_kept : WorkedKept
unfolding task_in is_low ceil_div low_share has_low_share excess demand passes range low_options pairs_within high_options options_of fits least_by fitting chosen chosen_for is_high low_numbers holdable first_held typical_share_at left_over kept_tasks kept_share with_kept shares_with shares_of share_at
worked_kept =
    record {
      both = refl;
      one = refl;
      full = refl;
    }

pub record WorkedRounded : Type 0 where
  -- S4.6: A with the shares (1, 2) and B with (3, 4): 5 over 1 leaves nothing and 7 over 3 leaves 1.
  pub none_left : (allocation_of (on 8 ab) (pair 1 2 ∷ pair 3 4 ∷ []) 0).remainder ≡ 0
  pub one_left : (allocation_of (on 8 ab) (pair 1 2 ∷ pair 3 4 ∷ []) 1).remainder ≡ 1
  -- E, a low task, has 0; its 60 over 7 would leave 4.
  pub low_left : (allocation_of (on 8 (low task_e ∷ [])) (pair 7 0 ∷ []) 0).remainder ≡ 0

pub worked_rounded : WorkedRounded
unfolding task_in is_low is_high share_at division_of remainder_of allocation_of
worked_rounded = record { none_left = refl; one_left = refl; low_left = refl }

pub record WorkedHeld : Type 0 where
  -- S5.7: at typical share 1 B needs 27 processors in the critical mode; on 5 processors 6 is held for it.
  pub true_share : uncapped_share 5 27 (high task_b) 1 ≡ Some 27
  pub held_share : share_held (offers_of (on 5 ab)) 1 1 ≡ 6
  -- A twice with typical total 2 needs 4; on 2 processors 3 is held for it.
  pub true_total : uncapped_total 2 2 (high task_a ∷ high task_a ∷ []) 2 ≡ Some 4
  pub held_total : total_held (totals_for (on 2 (high task_a ∷ high task_a ∷ []))) 2 2 ≡ 3

worked_true : (uncapped_share 5 27 (high task_b) 1 ≡ Some 27) × (uncapped_total 2 2 (high task_a ∷ high task_a ∷ []) 2 ≡ Some 4)
unfolding is_low is_high excess demand passes range pairs_within high_options least_by least options_up_to critical_shares critical_totals uncapped_share uncapped_total
worked_true = (refl, refl)

worked_offers : share_held (offers_of (on 5 ab)) 1 1 ≡ 6
unfolding task_in is_low is_high excess demand passes share_held cells_from tabulate first least_critical critical_at offer_of offers_of
worked_offers = refl

worked_totals : total_held (totals_for (on 2 (high task_a ∷ high task_a ∷ []))) 2 2 ≡ 3
unfolding task_in is_low is_high excess demand passes total_held cells_from cell_at tabulate first least_critical critical_at offer_of offers_of offers_up_to totals_for last_totals totals_of least_total total_with best_share sum_at least_from
worked_totals = refl

pub worked_held : WorkedHeld
worked_held =
    record {
      true_share = worked_true.0;
      held_share = worked_offers;
      true_total = worked_true.1;
      held_total = worked_totals;
    }

pub worked : Worked
unfolding task_in first_over is_low ceil_div low_share has_low_share excess demand passes range low_options pairs_within high_options options_of fits least_by fitting chosen chosen_for share_answer choice_answer is_high
worked =
    record {
      by_critical = refl;
      by_typical = refl;
      by_a = refl;
      by_b = refl;
      twice = refl;
      smaller_first = refl;
      nothing_to_take = refl;
      nothing_fits = refl;
      nothing = refl;
      on_five = refl;
      on_three = refl;
      with_low = refl;
    }

-- A high and a low task may take a share that is given by its numbers.
high_may : (M : ℕ) (f : Figures) (a b : ℕ) → 1 ≤ a → a ≤ b → b ≤ M → passes f a b ≡ true → MayTake M (high f) (pair a b)
unfolding is_low is_high
high_may M f a b one ordered within passing =
    record {
      high = λ _. record { positive = one; ordered = ordered; within = within; passing = passing };
      low = λ e. absurd (false≢true e);
    }

low_may : (M : ℕ) (f : Figures) (a : ℕ) → has_low_share M f ≡ true → a ≡ low_share f → MayTake M (low f) (pair a 0)
unfolding is_low is_high
low_may M f a has own =
    record {
      high = λ e. absurd (false≢true (sym e));
      low = λ _. record { has = has; typical = own; critical = refl };
    }

-- There are task sets with ways that fit: A, B and E on 8 processors, as they are planned.
pub some_way : FittingWay 8 abe (pair 1 2 ∷ pair 2 6 ∷ pair 5 0 ∷ [])
unfolding share_at excess demand passes ceil_div low_share has_low_share
some_way =
    record { way = record { each = refl; takes = takes }; typical = lit≤ tt; critical = lit≤ tt }
  where
    takes : (i : ℕ) → i < 3 → MayTake 8 (get_or abe i missing_task) (get_or (pair 1 2 ∷ pair 2 6 ∷ pair 5 0 ∷ []) i no_processors)
    takes zero inside = high_may 8 task_a 1 2 (lit≤ tt) (lit≤ tt) (lit≤ tt) refl
    takes (suc zero) inside = high_may 8 task_b 2 6 (lit≤ tt) (lit≤ tt) (lit≤ tt) refl
    takes (suc (suc zero)) inside = low_may 8 task_e 5 refl refl
    takes (suc (suc (suc i))) inside = absurd (omega arith)

-- There are sets that can be held: E beside A and B on 13 processors.
pub some_held : HeldSet 13 abe (pair 1 2 ∷ pair 2 6 ∷ pair 5 0 ∷ []) (2 ∷ [])
unfolding typical_share_at share_at is_low is_high
some_held =
    record {
      lows =
          record {
            rising = λ j inside. absurd (omega arith);
            known = λ i m. known i (Memᴰ.eq_of_singleton m);
            low = λ i m. level i (Memᴰ.eq_of_singleton m);
          };
      fits = lit≤ tt;
    }
  where
    known : (i : ℕ) → i ≡ 2 → i < 3
    known i same = omega arith

    level : (i : ℕ) → i ≡ 2 → is_low (get_or abe i missing_task).level ≡ true
    level i same = ap (λ (j : ℕ). is_low (get_or abe j missing_task).level) same
