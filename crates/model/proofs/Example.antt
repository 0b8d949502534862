-- What the theorems assume can be met: by task A alone, at (1, 2), with the lengths 4, 3, 2 of S11.13.
use Prim.Native.Nat.{ℕ, zero, suc, ◌≤◌, ◌<◌, ◌^◌}
use mathlib.Core.Path.{◌≡◌, refl, sym, ap, ◌∙◌}
use mathlib.Core.Bool.{Bool, true, false, true≢false, false≢true}
use mathlib.Core.List.{List, [], ◌∷◌}
use native.Mathlib.Omega.{arith}
use lib.Dec.{lit<, lit≤}
use lib.ListN.{get_or, replicate}
use Rattle.basics.proofs.Lists.{get_or-padded}
use Rattle.sheet.specs.declared.task.TaskSet.{TaskSet}
use Rattle.shares.specs.declared.share.Share.{Share}
use Rattle.shares.specs.Test.{excess, demand, passes, division_of, virtual_deadline}
use Rattle.sheet.specs.Level.{is_low, is_high}
use Rattle.shares.specs.Deadline.{virtual_deadline_of}
use Rattle.nodes.proofs.Bits.{has_zero}
use Rattle.model.specs.Budget.{sum_below, Chain, alone as single, link, along}
use Rattle.sheet.specs.Format.{task_in}
use Rattle.shares.specs.Totals.{share_at, share_total}
use Rattle.model.specs.Plan.{fresh_row, fresh, LawfulTask, PassingPair, LowPair, Planned}
use Rattle.model.specs.Claim.{KeepsBudget, DeadlinePassed}
use Rattle.basics.specs.Lists.{range}
use Rattle.nodes.specs.Sets.{has}
use Rattle.model.specs.Row.{is_subset, all_ended, precedes, predecessors_of, is_ready, ready, running, running_set, released_row, joined, ticked_row, has_high_job, is_late, survives, switched_row}
use Rattle.model.specs.Step.{release, tick, step, row_at, granted, release_refusal, tick_refusal, released, ticked}
use Rattle.model.specs.Run.{after, is_accepted}
use Rattle.model.proofs.Worked.{alone}

-- S11.13: the task set of A alone, on two processors, and its shares.
abbrev sheet_a : TaskSet
sheet_a =
    record {
      processors = 2;
      count = 1;
      tasks =
          record {
            level = 1;
            nodes = 3;
            figures =
                record {
                  deadline = 45;
                  nominal = record { work = 9; span = 4 };
                  overload = record { work = 52; span = 20 };
                };
            predecessors = 0 ∷ 0 ∷ 0 ∷ [];
          }
          ∷ [];
    }

abbrev shares_a : List Share
shares_a = record { typical = 1; critical = 2 } ∷ []

-- S11.2: V is 9, and its fresh model is the one of the worked facts.
fresh_alone : fresh sheet_a shares_a ≡ alone
unfolding fresh fresh_row virtual_deadline_of is_low is_high division_of virtual_deadline
fresh_alone = refl

-- The task set and the shares are planned.
planned_alone : Planned sheet_a shares_a
unfolding task_in share_at is_high is_low predecessors_of passes demand excess
planned_alone =
    record {
      tasks = lit≤ tt;
      each = refl;
      lawful = lawful;
      high = high;
      low = low;
      fits = fits;
    }
  where
    masks : (v : ℕ) → v < 3 → predecessors_of (0 ∷ 0 ∷ 0 ∷ []) v < 2 ^ v
    masks zero h = lit< tt
    masks (suc zero) h = lit< tt
    masks (suc (suc zero)) h = lit< tt
    masks (suc (suc (suc v))) h = absurd (omega arith)

    lawful : (i : ℕ) → i < 1 → LawfulTask (task_in sheet_a i)
    lawful zero h =
        record {
          nodes = lit≤ tt;
          figures = record { span = lit≤ tt; spans = lit≤ tt };
          low = λ e. absurd (false≢true e);
          heavy = lit< tt;
          masks = masks;
        }
    lawful (suc i) h = absurd (omega arith)

    high : (i : ℕ) → i < 1 → is_high (task_in sheet_a i).level ≡ true → PassingPair (task_in sheet_a i).figures (share_at shares_a i)
    high zero h e = record { positive = lit≤ tt; ordered = lit≤ tt; passing = refl }
    high (suc i) h e = absurd (omega arith)

    low : (i : ℕ) → i < 1 → is_low (task_in sheet_a i).level ≡ true → LowPair (task_in sheet_a i).figures (share_at shares_a i)
    low zero h e = absurd (false≢true e)
    low (suc i) h e = absurd (omega arith)

    fits : (critical : Bool) → share_total critical shares_a ≤ 2
    fits true = lit≤ tt
    fits false = lit≤ tt

-- S11.13: the lengths of a job of it.
abbrev lengths_a : ℕ → ℕ
lengths_a v = get_or (4 ∷ 3 ∷ 2 ∷ []) v 1

-- They keep the nominal budget.
nominal_alone : KeepsBudget (task_in sheet_a 0) (task_in sheet_a 0).figures.nominal lengths_a
unfolding KeepsBudget task_in sum_below precedes predecessors_of
nominal_alone = record { positive = positive; work = lit≤ tt; span = span }
  where
    at_most : (v : ℕ) → v < 3 → (1 ≤ lengths_a v) × (lengths_a v ≤ 4)
    at_most zero h = (lit≤ tt, lit≤ tt)
    at_most (suc zero) h = (lit≤ tt, lit≤ tt)
    at_most (suc (suc zero)) h = (lit≤ tt, lit≤ tt)
    at_most (suc (suc (suc v))) h = absurd (omega arith)

    positive : (v : ℕ) → v < 3 → 1 ≤ lengths_a v
    positive v h = (at_most v h).0

    span : (u : ℕ) (rest : List ℕ) → Chain 3 (precedes (0 ∷ 0 ∷ 0 ∷ [])) u rest → along lengths_a u rest ≤ 4
    span u rest (single l) = (at_most u l).1
    span u rest (link {v = v} l e c) = absurd (true≢false (sym e ∙ ap (λ (n : ℕ). has n u) (get_or-padded [] 3 v) ∙ has_zero u))

-- S10.7: the deadline of a job of it passes with the 45th tick after the release.
passed_alone : DeadlinePassed (task_in sheet_a 0) 0 (after alone (release 0 ∷ [])) (replicate 45 (tick (0 ∷ [])))
unfolding task_in has range is_high is_subset all_ended predecessors_of is_ready ready running running_set released_row joined ticked_row has_high_job is_late survives switched_row step row_at granted release_refusal tick_refusal released ticked is_accepted
passed_alone =
    record {
      before = replicate 44 (tick (0 ∷ []));
      reports = 0 ∷ [];
      later = [];
      list = refl;
      accepted = refl;
      ticks = refl;
      unreleased = refl;
    }
