-- S8.1: Start. What it answers to a sheet, and the state that it returns.
use Rattle.std.specs.Prelude.{ℕ, false, List, replicate, Result, Ok, Err}
use Rattle.sheet.specs.declared.refusal.Refusal.{Refusal}
use Rattle.sheet.specs.Refusal.{Answer, ◌or_else◌}
use Rattle.sheet.specs.declared.task.TaskSet.{TaskSet}
use Rattle.basics.specs.Lists.{cells}
use Rattle.sheet.specs.Format.{task_in, task_set_of}
use Rattle.allocation.specs.declared.allocate.Allocation.{Allocation}
use Rattle.allocation.specs.Allocation.{allocation_at, allocation_answer, allocations_for}
use Rattle.entries.specs.declared.state.TaskState.{TaskState}
use Rattle.dispatcher.specs.declared.state.Answered.{Answered}
use Rattle.dispatcher.specs.declared.state.State.{State}
use Rattle.start.specs.Fresh.{fresh_entry, zero_entry}

-- S8.1: the fresh entries of the first count tasks. S7.3: zeros in the place of the others.
unfoldable pub entries_below : TaskSet → List Allocation → ℕ → List TaskState
entries_below set allocations count = cells 16 (λ i. fresh_entry (task_in set i) (allocation_at allocations i)) zero_entry count

-- S8.1: the fresh state of a task set, with what is fixed for its tasks.
unfoldable pub fresh_state : TaskSet → List Allocation → State
fresh_state set allocations =
    record {
      processors = set.processors;
      count = set.count;
      critical = false;
      entries = entries_below set allocations set.count;
    }

-- S8.1: the state that a refused Start returns.
unfoldable pub zero_state : State
zero_state = record { processors = 0; count = 0; critical = false; entries = replicate 16 zero_entry }

-- S8.1, S3.3: the fresh state of a list of bytes as a sheet, or the first of the refusals 1 to 8.
unfoldable pub prepared_of : List ℕ → Result State Refusal
prepared_of sheet = allocation_answer sheet or_else Ok (fresh_state (task_set_of sheet) (allocations_for sheet))

-- S8.1: what Start returns: an answer beside the state.
abbrev pub Started : Type 0
Started = Answered Answer

-- S8.1: an answer with the state that goes with it: the fresh one if accepted, zeros if refused.
abbrev pub started_with : Result State Refusal → Started
started_with (Ok fresh) = record { state = fresh; answer = Ok tt }
started_with (Err r) = record { state = zero_state; answer = Err r }

-- S8.1, S3.3: what Start makes of a list of bytes; it answers what the allocation does.
unfoldable pub start_of : List ℕ → Started
start_of sheet = started_with (prepared_of sheet)
