-- S5.6 on the line of sixteen shares of a choice: its low tasks are those without a critical share, so that what is
-- kept there is what is to be kept beside the choice.
use Prim.Native.Nat.{ℕ, ◌+◌, ◌≤◌, ◌<◌}
use mathlib.Core.Path.{◌≡◌, refl, sym, ap, ◌∙◌, subst, fun_ext}
use mathlib.Core.Bool.{Bool, true, false, cond}
use mathlib.Core.List.{List, []}
use native.Mathlib.Omega.{arith}
use lib.Dec.{eqb}
use lib.ListN.{length, get_or, take}
use lib.Seq.{ext_get_or, take-length}
use borrow.Author.Tests.{eq-eqb, ne_eqb}
use Rattle.basics.specs.Lists.{range, is_in}
use Rattle.basics.proofs.Lists.{filter_ext_below}
use Rattle.sheet.specs.declared.task.Task.{Task}
use Rattle.sheet.specs.declared.task.TaskSet.{TaskSet}
use Rattle.sheet.specs.Format.{missing_task}
use Rattle.sheet.specs.Level.{is_low}
use Rattle.shares.specs.declared.share.Share.{Share}
use Rattle.shares.specs.Totals.{no_processors, share_at}
use Rattle.shares.proofs.Totals.{total_next, total_part}
use Rattle.allocation.specs.Blocks.{length_in}
use Rattle.keeping.specs.Kept.{low_numbers, typical_share_at, kept_tasks, kept_share, with_kept}
use Rattle.allocation.specs.Lawful.{LawfulSet, LawfulShares}
use Rattle.allocation.specs.Allocation.{tasks_of, chosen_for, choice_answer, shares_with, shares_of, sixteen, choice_of}
use Rattle.keeping.specs.Running.{critical_share_at, without}
use Rattle.keeping.specs.means.Keeping.{kept_line, Keepable}
use Rattle.allocation.proofs.Laws.{chosen-length, chosen_typical, chosen_critical, chosen_positive, chosen_high}
use Rattle.allocation.proofs.Accepted.{accepted_choice}
use Rattle.std.specs.Prelude.{Result, Ok, Err, MatchResult, Some, filter, unwrap_or}
use Rattle.sheet.specs.declared.refusal.Refusal.{Refusal}
use Rattle.sheet.proofs.Faults.{after_refused, or_else_ok, or_else_err}
use Rattle.allocation.proofs.Sets.{chosen_line}
use Rattle.allocation.proofs.Sixteen.{sixteen-length, share_same, sixteen-take}
use Rattle.keeping.proofs.Laws.{with_length, with_share_lem}
use Rattle.allocation.specs.Verdict.{Verdict}
use Rattle.allocation.proofs.Ways.{choice_verdict}
use Rattle.allocation.proofs.Directory.{tasks_length, task_at_lem}
use Rattle.allocation.proofs.SetShares.{low_zero, shares_lawful}

-- The line of shares with kept ones.
line_with : (kept : List ℕ) (choice : List Share) → length choice ≤ 16 → with_kept kept (sixteen choice) ≡ sixteen (with_kept kept choice)
unfolding share_at
line_with kept choice few =
    ext_get_or no_processors (with_kept kept (sixteen choice)) (sixteen (with_kept kept choice))
    (with_length kept (sixteen choice) ∙ sixteen-length choice ∙ sym (sixteen-length (with_kept kept choice)))
    (λ i inside.
    with_share_lem kept (sixteen choice) i
    ∙ ap (λ (s : Share). cond (is_in i kept) (kept_share s) s) (share_same choice few i)
    ∙ sym (with_share_lem kept choice i)
    ∙ sym (share_same (with_kept kept choice) (omega (arith, with_length kept choice)) i))

-- The choice that is chosen for a lawful task set, on its line.
module _ (set : TaskSet) (lawful : LawfulSet set) (choice : List Share) (chosen_it : chosen_for set ≡ Some choice) where
  all_shares : length choice ≡ set.count
  all_shares = chosen-length set lawful choice chosen_it

  few : length choice ≤ 16
  few = let least = lawful.few_tasks in omega (arith, all_shares)

  whole : take set.count (sixteen choice) ≡ choice
  whole =
      sixteen-take choice few set.count (omega (arith, all_shares))
      ∙ ap (λ (n : ℕ). take n choice) (sym all_shares)
      ∙ take-length choice

  typical_same : typical_share_at (sixteen choice) ≡ typical_share_at choice
  unfolding typical_share_at
  typical_same = fun_ext (λ i. ap (λ (s : Share). s.typical) (share_same choice few i))

  -- The low tasks are those without a critical share.
  lows_same : without set.count (sixteen choice) ≡ low_numbers (tasks_of set)
  unfolding without low_numbers critical_share_at share_at
  lows_same =
      filter_ext_below (λ i. eqb (share_at (sixteen choice) i).critical 0) (λ i. is_low (get_or (tasks_of set) i missing_task).level) set.count
      (λ i inside.
      ap (λ (s : Share). eqb s.critical 0) (share_same choice few i)
      ∙ by_level i inside (is_low (get_or (tasks_of set) i missing_task).level) refl)
      ∙ ap (λ (n : ℕ). filter (λ i. is_low (get_or (tasks_of set) i missing_task).level) (range 0 n)) (sym (tasks_length set lawful))
    where
      by_level : (i : ℕ) → i < set.count → (t : Bool) → is_low (get_or (tasks_of set) i missing_task).level ≡ t → eqb (share_at choice i).critical 0 ≡ t
      by_level i inside true low =
          eq-eqb _ 0 (low_zero set lawful choice chosen_it i (omega (arith, tasks_length set lawful)) low)
      by_level i inside false high =
          let pair =
          chosen_high set lawful choice chosen_it i inside
          (sym (ap (λ (t : Task). is_low t.level) (task_at_lem set i inside)) ∙ high) in
          ne_eqb _ 0 (some_critical i pair.positive pair.ordered)
        where
          some_critical : (i : ℕ) → 1 ≤ (get_or choice i no_processors).typical →
              (get_or choice i no_processors).typical ≤ (get_or choice i no_processors).critical → (share_at choice i).critical ≡ 0 → ⊥
          some_critical i one more zero-share = omega arith

  -- So the line keeps what is to be kept.
  pub line_kept : kept_line set.processors set.count (sixteen choice) ≡ sixteen (shares_with set choice)
  unfolding kept_line shares_with kept_tasks
  line_kept = rw (typical_same, whole, lows_same) (line_with (kept_tasks set.processors (tasks_of set) choice) choice few)

  -- One share is no more than all of them.
  share_within : (i : ℕ) → i < set.count → (share_at choice i).typical ≤ set.processors
  share_within i inside =
      omega (
        arith,
        total_next false choice i (omega (arith, all_shares)),
        total_part false choice (i + 1),
        chosen_typical set lawful choice chosen_it,
      )

  pub line_able : Keepable set.processors set.count (sixteen choice)
  unfolding typical_share_at length_in share_at
  line_able =
      record {
        few = lawful.few_tasks;
        small = lawful.few_processors;
        some_share = λ i inside. subst (λ (s : Share). 1 ≤ s.typical) (sym (share_same choice few i)) (chosen_positive set lawful choice chosen_it i inside);
        within = λ i inside. subst (λ (s : Share). s.typical ≤ set.processors) (sym (share_same choice few i)) (share_within i inside);
        fits = rw whole (chosen_critical set lawful choice chosen_it);
      }

-- The shares that the tasks of an accepted set get.
pub accepted_shares : (set : TaskSet) → LawfulSet set → choice_answer set ≡ Ok tt → LawfulShares set (shares_of set)
unfolding shares_of
accepted_shares set lawful accepted = shares_lawful set lawful (unwrap_or (chosen_for set) []) (accepted_choice set accepted)

-- The answers of `choose`, by what was selected.
module _ (set : TaskSet) (lawful : LawfulSet set) where
  pub choice_passed : {r : Refusal} → chosen_line set ≡ Err r → Err r ≡ choice_of set
  unfolding choice_of
  choice_passed refused = sym (after_refused _ _ (or_else_err (choice_answer set) _ refused))

  -- One that is accepted gets the kept tasks' shares.
  module _ (selected : List Share) (same : chosen_line set ≡ Ok selected) where
    accepted : (choice_answer set ≡ Ok tt) × (selected ≡ sixteen (unwrap_or (chosen_for set) []))
    accepted = or_else_ok (choice_answer set) same

    chosen_it : chosen_for set ≡ Some (unwrap_or (chosen_for set) [])
    chosen_it = accepted_choice set accepted.0

    pub choice_able : Keepable set.processors set.count selected
    choice_able = rw accepted.1 (line_able set lawful (unwrap_or (chosen_for set) []) chosen_it)

    pub choice_kept : (shares : List Share) → shares ≡ kept_line set.processors set.count selected → Ok shares ≡ choice_of set
    unfolding choice_of shares_of
    choice_kept shares line =
        rw (line, accepted.0, accepted.1, line_kept set lawful (unwrap_or (chosen_for set) []) chosen_it)

-- What the choice says of the answer.
pub choice_ok : (set : TaskSet) {shares : List Share} → choice_of set ≡ Ok shares →
    (choice_answer set ≡ Ok tt) × (shares ≡ sixteen (shares_of set))
unfolding choice_of
choice_ok set e = or_else_ok (choice_answer set) e

pub choice_err : (set : TaskSet) {r : Refusal} → choice_of set ≡ Err r → choice_answer set ≡ Err r
unfolding choice_of
choice_err set e = or_else_err (choice_answer set) _ e

-- S9.7 and S9.8: what the answer of `choose` says in plain words.
pub choice_says : (set : TaskSet) {shares : Result (List Share) Refusal} → shares ≡ choice_of set →
    MatchResult shares (λ _. Verdict set (Ok tt)) (λ r. Verdict set (Err r))
choice_says set {shares = Ok line} e = subst (Verdict set) (choice_ok set (sym e)).0 (choice_verdict set)
choice_says set {shares = Err r} e = subst (Verdict set) (choice_err set (sym e)) (choice_verdict set)
