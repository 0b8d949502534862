-- S2.14: the fresh state of the tasks in the wide form is the fresh state with its entries in the wide form.
use Prim.Native.Nat.{ℕ, ◌<◌}
use mathlib.Core.List.{List}
use mathlib.Core.Path.{◌≡◌, refl, sym, ap, ◌∙◌}
use native.Mathlib.Omega.{arith}
use lib.ListN.{get_or, replicate}
use Rattle.basics.proofs.Cells.{cells_none, cells_at, cells_same}
use Rattle.std.specs.Prelude.{Ok, Err}
use Rattle.sheet.specs.Refusal.{Answer, ◌or_else◌}
use Rattle.allocation.specs.declared.allocate.Allocated.{Allocated}
use Rattle.sheet.specs.declared.task.Task.{Task}
use Rattle.sheet.specs.declared.task.TaskSet.{TaskSet}
use Rattle.sheet.specs.Format.{task_in, task_set_of}
use Rattle.sheet.specs.Wide.{wide_task, wide_set}
use Rattle.reader.specs.Reading.{read_answer}
use Rattle.reader.proofs.Worked.{dye_sheet, worked}
use Rattle.allocation.specs.declared.allocate.Allocation.{Allocation}
use Rattle.allocation.specs.Allocation.{allocation_at, allocation_answer, allocated_of, allocations_for}
use Rattle.allocation.specs.Lawful.{LawfulSet}
use Rattle.allocation.specs.Wide.{wide_form, WideAllocated}
use Rattle.allocation.proofs.Accepted.{sheet_lawful}
use Rattle.allocation.proofs.Allocations.{answer_same}
use Rattle.allocation.proofs.Sheets.{wide_task_lem}
use Rattle.allocation.proofs.Wide.{wide_allocated, wide_told}
use Rattle.entries.specs.declared.state.TaskState.{TaskState}
use Rattle.dispatcher.specs.declared.state.State.{State}
use Rattle.start.specs.Fresh.{fresh_entry, zero_entry}
use Rattle.start.specs.Start.{entries_below, fresh_state, zero_state, prepared_of, start_of}
use Rattle.start.specs.Wide.{wide_entry, wide_state, WideStarted}

entry_wide : (t : Task) (a : Allocation) → fresh_entry (wide_task t) a ≡ wide_entry (fresh_entry t a)
unfolding fresh_entry wide_task wide_entry
entry_wide t a = refl

-- The fresh state of a lawful task set.
module _ (set : TaskSet) (lawful : LawfulSet set) (allocations : List Allocation) where
  entries_wide : (i : ℕ) → i < set.count →
      fresh_entry (task_in (wide_set set) i) (allocation_at allocations i)
      ≡ wide_entry (get_or (entries_below set allocations set.count) i zero_entry)
  unfolding entries_below
  entries_wide i inside =
      let here : ℕ → TaskState = λ j. fresh_entry (task_in set j) (allocation_at allocations j) in
      ap (λ (t : Task). fresh_entry t (allocation_at allocations i)) (wide_task_lem set lawful i inside)
      ∙ entry_wide (task_in set i) (allocation_at allocations i)
      ∙ ap wide_entry (sym (cells_at here zero_entry 16 set.count i zero_entry (omega (arith, lawful.few_tasks)) inside))

  fresh_wide : fresh_state (wide_set set) allocations ≡ wide_state (fresh_state set allocations)
  unfolding fresh_state wide_state wide_set entries_below
  fresh_wide = rw (cells_same _ _ zero_entry 0 16 set.count entries_wide)

-- The state of zeros has no entry.
zero_wide : zero_state ≡ wide_state zero_state
unfolding zero_state wide_state
zero_wide = rw (cells_none (λ i. wide_entry (get_or (replicate 16 zero_entry) i zero_entry)) zero_entry 0 16 0 (omega arith))

-- Sheets with the same answer have the same fixed for their tasks.
allocations_same : (s t : List ℕ) → allocated_of s ≡ allocated_of t → allocation_answer s ≡ Ok tt → allocation_answer t ≡ Ok tt → allocations_for s ≡ allocations_for t
unfolding allocated_of
allocations_same s t same a b = ap (λ (p : Allocated). p.allocations) (go (allocation_answer s) (allocation_answer t) _ _ a b same)
  where
    go : (x y : Answer) (p q : Allocated) → x ≡ Ok tt → y ≡ Ok tt → (x or_else Ok p) ≡ (y or_else Ok q) → p ≡ q
    go (Ok u) (Ok v) p q a b e = cc
    go (Ok u) (Err r) p q a b e = absurd (cc)
    go (Err r) y p q a b e = absurd (cc)

-- A sheet and its wide form, by what they are answered.
module _ (s : List ℕ) (accepted : read_answer s ≡ Ok tt) where
  same : allocation_answer (wide_form s) ≡ allocation_answer s
  unfolding WideAllocated
  same = answer_same (wide_form s) s (wide_allocated s accepted)

  fixed : allocation_answer s ≡ Ok tt → allocations_for (wide_form s) ≡ allocations_for s
  unfolding WideAllocated
  fixed e = allocations_same (wide_form s) s (wide_allocated s accepted) (same ∙ e) e

  by_answer : (a : Answer) → allocation_answer s ≡ a → start_of (wide_form s) ≡ record { state = wide_state (start_of s).state; answer = (start_of s).answer }
  unfolding start_of prepared_of
  by_answer (Err r) e = rw (same, e) (ap (λ (st : State). record { state = st; answer = Err r }) zero_wide)
  by_answer (Ok u) e = rw (same, e, fixed e, ← (wide_told s accepted), fresh_wide (task_set_of s) (sheet_lawful s accepted) (allocations_for s))

pub wide_started : WideStarted
unfolding WideStarted
wide_started s accepted = by_answer s accepted (allocation_answer s) refl

-- There is such a sheet: a dye line with records of both forms.
pub some_wide : start_of (wide_form dye_sheet) ≡ record { state = wide_state (start_of dye_sheet).state; answer = (start_of dye_sheet).answer }
unfolding WideStarted
some_wide = wide_started dye_sheet worked.mixed_accepted
