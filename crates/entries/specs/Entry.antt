-- What an entry holds of the model: its row, and how a row is written back.
use Rattle.model.specs.Row.{Fixed, Job, Row}
use Rattle.entries.specs.declared.state.TaskState.{TaskState}

-- S7.1: what the sheet and the plan fix of a task.
unfoldable pub fixed_of : TaskState → Fixed
fixed_of e =
    record {
      level = e.level;
      nodes = e.nodes;
      predecessors = e.predecessors;
      deadline = e.deadline;
      virtual_deadline = e.virtual_deadline;
      share = e.share;
    }

-- S7.1: its job.
unfoldable pub job_of : TaskState → Job
job_of e = record { ended = e.job.ended; alive = e.job.alive }

-- S10.2: an entry as a task's row of the model.
unfoldable pub row_of : TaskState → Row
row_of e = record { fixed = fixed_of e; age = e.age; job = job_of e }

-- The entry with a row's age and job. What is fixed stays, and so do the masks behind the k nodes (S7.3).
unfoldable pub with_row : TaskState → Row → TaskState
with_row e r =
    record {
      level = e.level;
      nodes = e.nodes;
      predecessors = e.predecessors;
      deadline = e.deadline;
      virtual_deadline = e.virtual_deadline;
      share = e.share;
      age = r.age;
      job = record { ended = r.job.ended; alive = r.job.alive };
    }
