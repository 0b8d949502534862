-- S2.14: the planner fixes the same for a sheet and for its wide form: a task keeps its level's meaning and its
-- figures, so that it has the same options, V and remainder, and from these all else is made.
use Prim.Native.Nat.{ℕ, zero, suc, ◌<◌}
use mathlib.Core.Bool.{not}
use mathlib.Core.List.{List, [], ◌∷◌, map}
use mathlib.Core.Path.{◌≡◌, refl, sym, ap, ap₂, ◌∙◌}
use native.Mathlib.Omega.{arith}
use lib.ListN.{length, get_or, length-map, get_or-map}
use lib.Seq.{ext_get_or, get_or-take, length-take-le}
use Rattle.sheet.specs.declared.task.Task.{Task}
use Rattle.sheet.specs.declared.task.TaskSet.{TaskSet}
use Rattle.sheet.specs.Refusal.{◌or_else◌}
use Rattle.sheet.specs.Format.{task_set_of, task_in, missing_task, zero_task}
use Rattle.sheet.specs.Level.{is_low}
use Rattle.sheet.specs.Wide.{wide_level, wide_task, wide_set, WideLevels}
use Rattle.sheet.proofs.Wide.{wide_levels}
use Rattle.sheet.proofs.Faults.{over_same}
use Rattle.basics.proofs.Cells.{cells-length, cells_same}
use Rattle.basics.proofs.Lists.{filter_ext_below}
use Rattle.reader.specs.Reading.{read_of, read_answer}
use Rattle.keeping.specs.Kept.{low_numbers, kept_tasks}
use Rattle.shares.specs.declared.share.Share.{Share}
use Rattle.shares.specs.Deadline.{virtual_deadline_of, remainder_of}
use Rattle.allocation.specs.Choice.{options_of, fitting, chosen}
use Rattle.allocation.specs.Allocation.{tasks_of, chosen_for, share_answer, choice_answer, shares_with, shares_of, allocation_of, no_allocation, allocations_of, allocation_answer, allocations_for, allocated_of}
use Rattle.allocation.specs.Lawful.{LawfulSet}
use Rattle.allocation.specs.Wide.{wide_form, WideRead, WideAllocated}
use Rattle.allocation.proofs.Accepted.{sheet_lawful}
use Rattle.allocation.proofs.Directory.{tasks_length}
use Rattle.allocation.proofs.Sheets.{wide_at, wide_task_lem, wide_read}
use Rattle.std.specs.Prelude.{Ok, unwrap_or}
use Rattle.reader.proofs.Readings.{read_ok, read_accepted}

-- The wide form of a level is low where the level is.
low_wide : (level : ℕ) → is_low (wide_level level) ≡ is_low level
unfolding is_low WideLevels
low_wide level = ap not (wide_levels level).high

-- What is fixed for a task goes by this and by its figures.
module _ (t : Task) where
  options_wide : (M : ℕ) → options_of M (wide_task t) ≡ options_of M t
  unfolding options_of wide_task
  options_wide M = rw (low_wide t.level)

  virtual_wide : (a : ℕ) → virtual_deadline_of (wide_task t) a ≡ virtual_deadline_of t a
  unfolding virtual_deadline_of wide_task
  virtual_wide a = rw (low_wide t.level)

  remainder_wide : (a : ℕ) → remainder_of (wide_task t) a ≡ remainder_of t a
  unfolding remainder_of wide_task
  remainder_wide a = rw (low_wide t.level)

-- The same of a list of tasks: the options, the choice, the low tasks.
all_options_wide : (M : ℕ) (tasks : List Task) → map (options_of M) (map wide_task tasks) ≡ map (options_of M) tasks
all_options_wide M [] = refl
all_options_wide M (t ∷ tasks) = ap₂ ◌∷◌ (options_wide t M) (all_options_wide M tasks)

chosen_wide : (M : ℕ) (tasks : List Task) → chosen M (map wide_task tasks) ≡ chosen M tasks
unfolding chosen fitting
chosen_wide M tasks = rw (all_options_wide M tasks)

low_at_wide : (tasks : List Task) (i : ℕ) → is_low (get_or (map wide_task tasks) i missing_task).level ≡ is_low (get_or tasks i missing_task).level
unfolding wide_task
low_at_wide [] i = refl
low_at_wide (t ∷ tasks) zero = low_wide t.level
low_at_wide (t ∷ tasks) (suc i) = low_at_wide tasks i

low_numbers_wide : (tasks : List Task) → low_numbers (map wide_task tasks) ≡ low_numbers tasks
unfolding low_numbers
low_numbers_wide tasks =
    rw (length-map tasks wide_task)
    (filter_ext_below (λ i. is_low (get_or (map wide_task tasks) i missing_task).level) (λ i. is_low (get_or tasks i missing_task).level) (length tasks)
    (λ i inside. low_at_wide tasks i))

kept_wide : (M : ℕ) (tasks : List Task) (choice : List Share) → kept_tasks M (map wide_task tasks) choice ≡ kept_tasks M tasks choice
unfolding kept_tasks
kept_wide M tasks choice = rw (low_numbers_wide tasks)

module _ (set : TaskSet) (lawful : LawfulSet set) where
  -- The tasks of the wide form, as a list.
  all_wide : length (tasks_of (wide_set set)) ≡ set.count
  unfolding wide_set
  all_wide =
      let few = lawful.few_tasks in
      length-take-le set.count _ (omega (arith, cells-length (λ j. wide_task (task_in set j)) zero_task 0 16 set.count))

  tasks_wide : tasks_of (wide_set set) ≡ map wide_task (tasks_of set)
  unfolding task_in wide_set
  tasks_wide =
      ext_get_or (wide_task missing_task) (tasks_of (wide_set set)) (map wide_task (tasks_of set))
      (all_wide ∙ sym (length-map (tasks_of set) wide_task ∙ tasks_length set lawful))
      (λ i inside.
      let below : i < set.count = omega (arith, all_wide) in
      get_or-take set.count (wide_set set).tasks i (wide_task missing_task) below
      ∙ wide_at set lawful i (wide_task missing_task) below
      ∙ ap wide_task (sym (get_or-take set.count set.tasks i missing_task below))
      ∙ sym (get_or-map wide_task (tasks_of set) i missing_task))

  chosen_for_wide : chosen_for (wide_set set) ≡ chosen_for set
  unfolding chosen_for wide_set
  chosen_for_wide = ap (chosen set.processors) tasks_wide ∙ chosen_wide set.processors (tasks_of set)

  shares_with_wide : (choice : List Share) → shares_with (wide_set set) choice ≡ shares_with set choice
  unfolding shares_with wide_set
  shares_with_wide choice = rw (tasks_wide, kept_wide set.processors (tasks_of set) choice)

  shares_wide : shares_of (wide_set set) ≡ shares_of set
  unfolding shares_of
  shares_wide = rw chosen_for_wide (shares_with_wide (unwrap_or (chosen_for set) []))

  -- Refusals 7 and 8.
  share_answer_wide : (i : ℕ) → i < set.count → share_answer (wide_set set) i ≡ share_answer set i
  unfolding share_answer wide_set
  share_answer_wide i inside = rw (wide_task_lem set lawful i inside, options_wide (task_in set i) set.processors)

  choice_answer_wide : choice_answer (wide_set set) ≡ choice_answer set
  unfolding choice_answer wide_set
  choice_answer_wide =
      rw (chosen_for_wide, over_same (share_answer (wide_set set)) (share_answer set) 0 set.count (λ i from to. share_answer_wide i (omega arith)))

  allocation_wide : (shares : List Share) (i : ℕ) → i < set.count → allocation_of (wide_set set) shares i ≡ allocation_of set shares i
  unfolding allocation_of
  allocation_wide shares i inside = rw (wide_task_lem set lawful i inside, virtual_wide (task_in set i), remainder_wide (task_in set i))

  allocations_wide : (shares : List Share) → allocations_of (wide_set set) shares ≡ allocations_of set shares
  unfolding allocations_of wide_set
  allocations_wide shares =
      cells_same (allocation_of (wide_set set) shares) (allocation_of set shares) no_allocation 0 16 set.count (allocation_wide shares)

-- What is fixed for a sheet, by its reading.
allocated_by : (s : List ℕ) (set : TaskSet) → read_of s ≡ Ok set →
    allocated_of s ≡ (choice_answer set or_else Ok (record { count = set.count; allocations = allocations_of set (shares_of set) }))
unfolding allocated_of allocation_answer allocations_for
allocated_by s set e = let told = read_ok s e in rw (told.0, told.1)

pub wide_allocated : WideAllocated
unfolding WideAllocated WideRead wide_set
wide_allocated s accepted =
    let set = task_set_of s in
    let lawful = sheet_lawful s accepted in
    allocated_by (wide_form s) (wide_set set) (wide_read s accepted)
    ∙ rw (choice_answer_wide set lawful, shares_wide set lawful, allocations_wide set lawful (shares_of set))
    (sym (allocated_by s set (read_accepted s accepted)))

-- The number of tasks and what is fixed for them.
module _ (s : List ℕ) (accepted : read_answer s ≡ Ok tt) where
  pub wide_told : wide_set (task_set_of s) ≡ task_set_of (wide_form s)
  unfolding WideRead
  wide_told = (read_ok (wide_form s) (wide_read s accepted)).1

  pub wide_count : (task_set_of (wide_form s)).count ≡ (task_set_of s).count
  unfolding wide_set
  wide_count = ap (λ (t : TaskSet). t.count) (sym wide_told)

  pub wide_line : allocations_for (wide_form s) ≡ allocations_for s
  unfolding allocations_for
  wide_line =
      let set = task_set_of s in
      let lawful = sheet_lawful s accepted in
      rw (← wide_told, shares_wide set lawful, allocations_wide set lawful (shares_of set))
