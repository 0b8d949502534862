-- What is chosen for a task set, refusals 7 and 8, and what is fixed for each task of a sheet.
use Rattle.std.specs.Prelude.{ℕ, true, false, List, [], length, get_or, take, Result, Ok, Option, is_none, unwrap_or}
use Rattle.sheet.specs.declared.task.Task.{Task}
use Rattle.sheet.specs.declared.task.TaskSet.{TaskSet}
use Rattle.sheet.specs.declared.refusal.Refusal.{Refusal}
use Rattle.sheet.specs.declared.refusal.Refusal.TheVariants.{NoShare, NoFit}
use Rattle.sheet.specs.Refusal.{Answer, refused_if, ◌or_else◌, first_over}
use Rattle.basics.specs.Lists.{cells, is_empty}
use Rattle.sheet.specs.Format.{task_in, task_set_of}
use Rattle.reader.specs.Reading.{read_answer}
use Rattle.shares.specs.declared.share.Share.{Share}
use Rattle.shares.specs.Deadline.{virtual_deadline_of, remainder_of}
use Rattle.shares.specs.Totals.{no_processors, share_at}
use Rattle.allocation.specs.declared.allocate.Allocation.{Allocation}
use Rattle.allocation.specs.declared.allocate.Allocated.{Allocated}
use Rattle.allocation.specs.Choice.{options_of, chosen}
use Rattle.keeping.specs.Kept.{kept_tasks, with_kept}
use Rattle.allocation.specs.Blocks.{offset_in}

-- The tasks of a task set.
abbrev pub tasks_of : TaskSet → List Task
tasks_of set = take set.count set.tasks

-- S5.3: what is chosen for a task set, or none.
unfoldable pub chosen_for : TaskSet → Option (List Share)
chosen_for set = chosen set.processors (tasks_of set)

-- S9.7: refusal 7, of task i.
unfoldable pub share_answer : TaskSet → ℕ → Answer
share_answer set i = refused_if (is_empty (options_of set.processors (task_in set i))) (NoShare i)

-- S3.3: refusal 7 over the tasks in order, and then refusal 8.
unfoldable pub choice_answer : TaskSet → Answer
choice_answer set =
    first_over (share_answer set) 0 set.count
    or_else refused_if (is_none (chosen_for set)) NoFit

-- The shares as a line of sixteen, with zeros in the place of the tasks that are not there.
unfoldable pub sixteen : List Share → List Share
sixteen shares = cells 16 (λ i. get_or shares i no_processors) no_processors (length shares)

-- S5.6: the shares of a choice for a task set, with those of the kept tasks in the critical mode.
unfoldable pub shares_with : TaskSet → List Share → List Share
shares_with set choice = with_kept (kept_tasks set.processors (tasks_of set) choice) choice

-- S5.3 and S5.6: the shares that the tasks of a set get; none where nothing is chosen.
unfoldable pub shares_of : TaskSet → List Share
shares_of set = shares_with set (unwrap_or (chosen_for set) [])

-- S5.3, S5.6 and S3.3: what a task set is answered: refusal 7 or 8, or the shares that its tasks get, as a line of
-- sixteen.
unfoldable pub choice_of : TaskSet → Result (List Share) Refusal
choice_of set = choice_answer set or_else Ok (sixteen (shares_of set))

-- What is fixed for task i of a set whose tasks have these shares: its share, where its block begins in each mode
-- (S5.4), V (S4.5) and the remainder (S4.6).
unfoldable pub allocation_of : TaskSet → List Share → ℕ → Allocation
allocation_of set shares i =
    record {
      share = share_at shares i;
      offset = record { typical = offset_in false shares i; critical = offset_in true shares i };
      virtual_deadline = virtual_deadline_of (task_in set i) (share_at shares i).typical;
      remainder = remainder_of (task_in set i) (share_at shares i).typical;
    }

-- What stands for a task that is not there.
abbrev pub no_allocation : Allocation
no_allocation =
    record { share = no_processors; offset = record { typical = 0; critical = 0 }; virtual_deadline = 0; remainder = 0 }

-- The same for all tasks of a set, as a line of sixteen, with zeros in the place of the tasks that are not there.
unfoldable pub allocations_of : TaskSet → List Share → List Allocation
allocations_of set shares = cells 16 (allocation_of set shares) no_allocation set.count

-- The allocation of task i of such a line.
unfoldable pub allocation_at : List Allocation → ℕ → Allocation
allocation_at allocations i = get_or allocations i no_allocation

-- S3.3: the answer on a sheet: the reader's refusal, if there is one, and else that of the choice, 7 or 8.
unfoldable pub allocation_answer : List ℕ → Answer
allocation_answer sheet = read_answer sheet or_else choice_answer (task_set_of sheet)

-- S5.3, S5.6, S5.4, S4.5, S4.6: what is fixed for the tasks that a sheet says, with the shares that they get.
unfoldable pub allocations_for : List ℕ → List Allocation
allocations_for sheet = allocations_of (task_set_of sheet) (shares_of (task_set_of sheet))

-- S3.3: what a sheet is answered: the first refusal of 1 to 8, or the number of its tasks and what is fixed for them.
unfoldable pub allocated_of : List ℕ → Result Allocated Refusal
allocated_of sheet =
    allocation_answer sheet
    or_else Ok (record { count = (task_set_of sheet).count; allocations = allocations_for sheet })
