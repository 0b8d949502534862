-- S8.1: a fresh entry, and one of zeros.
use Rattle.std.specs.Prelude.{false, replicate}
use Rattle.sheet.specs.declared.task.Task.{Task}
use Rattle.shares.specs.Totals.{no_processors}
use Rattle.allocation.specs.declared.allocate.Allocation.{Allocation}
use Rattle.entries.specs.declared.state.TaskState.{TaskState}

-- S8.1: the task's part of the sheet and what is fixed for it, without a job, and as old as D.
unfoldable pub fresh_entry : Task → Allocation → TaskState
fresh_entry t a =
    record {
      level = t.level;
      nodes = t.nodes;
      predecessors = t.predecessors;
      deadline = t.figures.deadline;
      virtual_deadline = a.virtual_deadline;
      share = a.share;
      age = t.figures.deadline;
      job = record { ended = 0; alive = false };
    }

-- S7.3: what Start puts where no task stands.
unfoldable pub zero_entry : TaskState
zero_entry =
    record {
      level = 0;
      nodes = 0;
      predecessors = replicate 32 0;
      deadline = 0;
      virtual_deadline = 0;
      share = no_processors;
      age = 0;
      job = record { ended = 0; alive = false };
    }
