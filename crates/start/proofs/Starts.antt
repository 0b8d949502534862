-- A fresh state, entry by entry, and what Start returns where it was refused and where it was accepted.
use Prim.Native.Nat.{ℕ, ◌<◌, ◌+◌}
use mathlib.Core.Bool.{Bool, false}
use mathlib.Core.List.{List}
use mathlib.Core.Path.{◌≡◌, sym, ap}
use native.Mathlib.Omega.{arith}
use lib.ListN.{set, replicate}
use Rattle.std.specs.Prelude.{Result, Ok, Err}
use Rattle.sheet.specs.declared.refusal.Refusal.{Refusal}
use Rattle.sheet.specs.declared.task.TaskSet.{TaskSet}
use Rattle.sheet.specs.Format.{task_in, task_set_of}
use Rattle.basics.proofs.Cells.{cells_none, cells_store}
use Rattle.allocation.specs.declared.allocate.Allocation.{Allocation}
use Rattle.allocation.specs.Allocation.{allocation_at, allocation_answer, allocations_for}
use Rattle.entries.specs.declared.state.TaskState.{TaskState}
use Rattle.dispatcher.specs.declared.state.State.{State}
use Rattle.start.specs.Fresh.{fresh_entry, zero_entry}
use Rattle.start.specs.Start.{Started}
use Rattle.start.specs.Start.{entries_below, fresh_state, zero_state, prepared_of, started_with, start_of}

module _ (tasks : TaskSet) (allocations : List Allocation) where
  pub entries_none : replicate 16 zero_entry ≡ entries_below tasks allocations 0
  unfolding entries_below
  entries_none = sym (cells_none (λ i. fresh_entry (task_in tasks i) (allocation_at allocations i)) zero_entry 0 16 0 (omega arith))

  pub entries_store : (i : ℕ) → i < 16 →
      set (entries_below tasks allocations i) i (fresh_entry (task_in tasks i) (allocation_at allocations i)) ≡ entries_below tasks allocations (i + 1)
  unfolding entries_below
  entries_store i h = cells_store (λ i. fresh_entry (task_in tasks i) (allocation_at allocations i)) zero_entry 16 i h

  -- The fresh state, by its fields.
  pub state_whole : (processors count : ℕ) (critical : Bool) (entries : List TaskState) →
      processors ≡ tasks.processors → count ≡ tasks.count → critical ≡ false → entries ≡ entries_below tasks allocations tasks.count →
      ◌≡◌ {A = State} (record { processors = processors; count = count; critical = critical; entries = entries }) (fresh_state tasks allocations)
  unfolding fresh_state
  state_whole processors count critical entries p c m e = rw (p, c, m, e)

-- The refusals of a sheet, and what is made of an accepted one.
prepared_refused : (s : List ℕ) {r : Refusal} → allocation_answer s ≡ Err r → ◌≡◌ {A = Result State Refusal} (Err r) (prepared_of s)
unfolding prepared_of
prepared_refused s e = rw e

pub prepared_accepted : (s : List ℕ) → allocation_answer s ≡ Ok tt → ◌≡◌ {A = Result State Refusal} (Ok (fresh_state (task_set_of s) (allocations_for s))) (prepared_of s)
unfolding prepared_of
prepared_accepted s e = rw e

-- What Start returns of either.
pub start_refused : (s : List ℕ) {r : Refusal} → allocation_answer s ≡ Err r → ◌≡◌ {A = Started} (record { state = zero_state; answer = Err r }) (start_of s)
unfolding start_of
start_refused s e = ap started_with (prepared_refused s e)

pub start_accepted : (s : List ℕ) → allocation_answer s ≡ Ok tt →
    ◌≡◌ {A = Started} (record { state = fresh_state (task_set_of s) (allocations_for s); answer = Ok tt }) (start_of s)
unfolding start_of
start_accepted s e = ap started_with (prepared_accepted s e)
