-- S5.6 of a task set: which of its low tasks are kept beside the choice, and what holds of the shares that its tasks
-- get.
use Prim.Native.Nat.{ℕ, ◌≤◌, ◌<◌}
use mathlib.Core.Path.{◌≡◌, refl, sym, ap, ◌∙◌, subst}
use mathlib.Core.Bool.{Bool, true, false, ◌&&◌, false≢true}
use mathlib.Core.List.{List, Memᴰ}
use Rattle.std.specs.Prelude.{Some}
use native.Mathlib.Omega.{arith}
use lib.ListN.{length, get_or}
use lib.Dec.{ltb}
use borrow.Author.Tests.{lt-ltb}
use Rattle.basics.proofs.Members.{is_in_lem}
use Rattle.allocation.proofs.Directory.{tasks_length, task_at_lem}
use Rattle.sheet.specs.declared.task.Task.{Task}
use Rattle.sheet.specs.declared.task.TaskSet.{TaskSet}
use Rattle.sheet.specs.Format.{task_in, missing_task}
use Rattle.sheet.specs.Level.{is_low}
use Rattle.shares.specs.declared.share.Share.{Share}
use Rattle.shares.specs.Deadline.{virtual_deadline_of, remainder_of}
use Rattle.shares.specs.Low.{is_kept}
use Rattle.shares.specs.Totals.{no_processors, share_at, share_total}
use Rattle.allocation.specs.Way.{HighPair}
use Rattle.allocation.specs.Blocks.{offset_in, length_in}
use Rattle.basics.specs.Lists.{is_in}
use Rattle.keeping.specs.Kept.{kept_tasks, kept_share, with_kept}
use Rattle.keeping.specs.KeptSet.{BestKept, KeptShares}
use Rattle.allocation.specs.Lawful.{LawfulSet, KeptPair, LawfulShares}
use Rattle.allocation.specs.Allocation.{tasks_of, chosen_for, shares_with, allocation_of}
use Rattle.allocation.specs.SetShares.{TypicalStays, KeptMarked}
use Rattle.shares.proofs.Totals.{total_same}
use Rattle.keeping.proofs.Laws.{share_if, kept_best, with_length, with_share_lem, with_typical, with_typical_total, kept_low, kept_shares}
use Rattle.allocation.proofs.Laws.{chosen-length, chosen_typical, chosen_critical, chosen_high, chosen_low, chosen_positive, chosen_virtual}

-- S5.6: nothing but critical shares and blocks moves.
pub typical_stays : (set : TaskSet) (choice : List Share) → TypicalStays set choice
unfolding allocation_of shares_with offset_in
typical_stays set choice =
    record {
      share = same;
      offset = total_same false (with_kept kept choice) choice (with_length kept choice) same;
      virtual = λ i. ap (virtual_deadline_of (task_in set i)) (same i);
      remainder = λ i. ap (remainder_of (task_in set i)) (same i);
    }
  where
    kept : List ℕ
    kept = kept_tasks set.processors (tasks_of set) choice

    same : (i : ℕ) → (share_at (with_kept kept choice) i).typical ≡ (share_at choice i).typical
    same i = with_typical kept choice i

-- The shares that the tasks of a lawful set get.
module _ (set : TaskSet) (lawful : LawfulSet set) (choice : List Share) (chosen_it : chosen_for set ≡ Some choice) where
  choice_length : length choice ≡ length (tasks_of set)
  choice_length = chosen-length set lawful choice chosen_it ∙ sym (tasks_length set lawful)

  pub low_zero : (i : ℕ) → i < length (tasks_of set) → is_low (get_or (tasks_of set) i missing_task).level ≡ true → (share_at choice i).critical ≡ 0
  unfolding share_at
  low_zero i inside low =
      let known : i < set.count = omega (arith, tasks_length set lawful) in
      (chosen_low set lawful choice chosen_it i known (sym (ap (λ (t : Task). is_low t.level) (task_at_lem set i known)) ∙ low)).critical

  -- S5.6 of a task set: the kept set, and the shares.
  pub set_kept : BestKept set.processors (tasks_of set) choice (kept_tasks set.processors (tasks_of set) choice)
  set_kept = kept_best set.processors (tasks_of set) choice (chosen_critical set lawful choice chosen_it)

  pub set_shares : KeptShares choice (kept_tasks set.processors (tasks_of set) choice) (shares_with set choice)
  unfolding shares_with
  set_shares = kept_shares set.processors (tasks_of set) choice choice_length low_zero

  same_typical : (i : ℕ) → (share_at (shares_with set choice) i).typical ≡ (share_at choice i).typical
  unfolding shares_with
  same_typical i = with_typical (kept_tasks set.processors (tasks_of set) choice) choice i

  module _ (i : ℕ) (inside : i < set.count) where
    high_pair : is_low (task_in set i).level ≡ false → HighPair set.processors (task_in set i).figures (share_at (shares_with set choice) i)
    unfolding share_at
    high_pair high =
        subst (HighPair set.processors (task_in set i).figures) (sym (set_shares.others i out)) (chosen_high set lawful choice chosen_it i inside high)
      where
        out : Memᴰ i (kept_tasks set.processors (tasks_of set) choice) → ⊥
        out m =
            false≢true
            (sym high
            ∙ sym (ap (λ (t : Task). is_low t.level) (task_at_lem set i inside))
            ∙ (kept_low set.processors (tasks_of set) choice choice_length low_zero i m).1)

    low_pair : is_low (task_in set i).level ≡ true → KeptPair set.processors (task_in set i).figures (share_at (shares_with set choice) i)
    unfolding shares_with kept_share share_at
    low_pair low =
        let pair = chosen_low set lawful choice chosen_it i inside low in
        record {
          has = pair.has;
          typical = same_typical i ∙ pair.typical;
          critical =
              subst (λ (s : Share). 0 < s.critical → s.critical ≡ s.typical)
              (sym (with_share_lem (kept_tasks set.processors (tasks_of set) choice) choice i))
              (go (is_in i (kept_tasks set.processors (tasks_of set) choice)) pair.critical);
        }
      where
        go : (t : Bool) → (get_or choice i no_processors).critical ≡ 0 → 0 < (share_if t (share_at choice i)).critical →
            (share_if t (share_at choice i)).critical ≡ (share_if t (share_at choice i)).typical
        go true e some_left = refl
        go false e some_left = absurd (omega arith)

  pub shares_lawful : LawfulShares set (shares_with set choice)
  unfolding length_in shares_with share_at
  shares_lawful =
      record {
        each = set_shares.each ∙ chosen-length set lawful choice chosen_it;
        fits = fits;
        high = high_pair;
        low = low_pair;
        some_share = λ i inside. rw (same_typical i) (chosen_positive set lawful choice chosen_it i inside);
        virtual = λ i inside. rw (same_typical i) (chosen_virtual set lawful choice chosen_it i inside);
      }
    where
      fits : (mode : Bool) → share_total mode (shares_with set choice) ≤ set.processors
      fits false = rw (with_typical_total (kept_tasks set.processors (tasks_of set) choice) choice) (chosen_typical set lawful choice chosen_it)
      fits true = let total = set_shares.total in let held = set_kept.held.fits in omega arith

  -- S7.4: the kept tasks, and no others, are low with a critical share.
  pub kept_marked : KeptMarked set choice
  unfolding KeptMarked is_kept kept_share share_at shares_with length_in
  kept_marked i inside =
      ap (λ (s : Share). is_low (task_in set i).level && ltb 0 s.critical)
      (with_share_lem (kept_tasks set.processors (tasks_of set) choice) choice i)
      ∙ go (is_in i (kept_tasks set.processors (tasks_of set) choice)) refl (is_low (task_in set i).level) refl
    where
      level_is : is_low (get_or (tasks_of set) i missing_task).level ≡ is_low (task_in set i).level
      level_is = ap (λ (t : Task). is_low t.level) (task_at_lem set i inside)

      go : (t : Bool) → is_in i (kept_tasks set.processors (tasks_of set) choice) ≡ t → (low : Bool) → is_low (task_in set i).level ≡ low →
          (low && ltb 0 (share_if t (share_at choice i)).critical) ≡ t
      go true e true level = lt-ltb 0 (share_at choice i).typical (chosen_positive set lawful choice chosen_it i inside)
      go true e false level =
          absurd (false≢true
          (sym level
          ∙ sym level_is
          ∙ (kept_low set.processors (tasks_of set) choice choice_length low_zero i (is_in_lem i _ e)).1))
      go false e true level =
          ap (ltb 0) (low_zero i (omega (arith, tasks_length set lawful)) (level_is ∙ level))
      go false e false level = refl
