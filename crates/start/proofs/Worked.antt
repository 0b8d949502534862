-- Worked facts by computation: a fresh entry, the state of zeros, and Start on sheets that refusal 1 meets.
use mathlib.Core.Bool.{false}
use mathlib.Core.List.{[], ◌∷◌}
use mathlib.Core.Path.{◌≡◌, refl}
use lib.ListN.{replicate}
use Rattle.std.specs.Prelude.{Err}
use Rattle.sheet.specs.declared.refusal.Refusal.TheVariants.{BadHeader}
use Rattle.sheet.specs.Refusal.{number_of, task_of}
use Rattle.basics.specs.Numbers.{byte_at}
use Rattle.sheet.specs.Format.{processors_of, count_of}
use Rattle.reader.specs.Reading.{header_lawful, header_answer, read_of, read_answer}
use Rattle.sheet.specs.declared.task.Task.{Task}
use Rattle.allocation.specs.declared.allocate.Allocation.{Allocation}
use Rattle.allocation.specs.Allocation.{allocation_answer}
use Rattle.start.specs.Fresh.{fresh_entry, zero_entry}
use Rattle.start.specs.Start.{prepared_of, zero_state, start_of}

-- Task A of S11 with two nodes.
abbrev task_a : Task
task_a =
    record {
      level = 1;
      nodes = 2;
      figures = record { deadline = 45; nominal = record { work = 9; span = 4 }; overload = record { work = 52; span = 20 } };
      predecessors = 0 ∷ 1 ∷ [];
    }

-- What is fixed for it at the shares (1, 2): V is 9.
abbrev fixed_a : Allocation
fixed_a = record { share = record { typical = 1; critical = 2 }; offset = record { typical = 0; critical = 0 }; virtual_deadline = 9; remainder = 0 }

pub record Worked : Type 0 where
  -- S8.1: a fresh entry has the sheet's shape, the V and the share that are fixed for it, the age D, and no job.
  pub fresh : fresh_entry task_a fixed_a
      ≡ record { level = 1; nodes = 2; predecessors = 0 ∷ 1 ∷ []; deadline = 45; virtual_deadline = 9; share = record { typical = 1; critical = 2 }; age = 45; job = record { ended = 0; alive = false } }
  -- S7.3: the entries behind the tasks are zero.
  pub zeros : zero_entry
      ≡ record { level = 0; nodes = 0; predecessors = replicate 32 0; deadline = 0; virtual_deadline = 0; share = record { typical = 0; critical = 0 }; age = 0; job = record { ended = 0; alive = false } }
  -- S8.1: the state of a refused Start, by its fields.
  pub zero_processors : zero_state.processors ≡ 0
  pub zero_count : zero_state.count ≡ 0
  pub zero_mode : zero_state.critical ≡ false
  pub zero_entries : zero_state.entries ≡ replicate 16 zero_entry
  -- S9.1: no byte at all.
  pub empty_answer : (start_of []).answer ≡ Err BadHeader
  pub empty_processors : (start_of []).state.processors ≡ 0
  pub empty_mode : (start_of []).state.critical ≡ false
  pub empty_state : (start_of []).state ≡ zero_state
  -- S9.1: 65 processors; 17 tasks; a directory that is cut short.
  pub many_processors : (start_of (65 ∷ 1 ∷ 6 ∷ 0 ∷ 16 ∷ 0 ∷ [])).answer ≡ Err BadHeader
  pub many_tasks : (start_of (8 ∷ 17 ∷ [])).answer ≡ Err BadHeader
  pub cut_short : (start_of (8 ∷ 1 ∷ 6 ∷ 0 ∷ 16 ∷ [])).answer ≡ Err BadHeader
  -- S3.1: number and task of a refused Start.
  pub empty_number : number_of (start_of []).answer ≡ 1
  pub empty_task : task_of (start_of []).answer ≡ 255

worked : Worked
unfolding byte_at processors_of count_of header_lawful header_answer read_answer read_of fresh_entry zero_entry allocation_answer zero_state prepared_of start_of
worked =
    record {
      fresh = refl;
      zeros = refl;
      zero_processors = refl;
      zero_count = refl;
      zero_mode = refl;
      zero_entries = refl;
      empty_answer = refl;
      empty_processors = refl;
      empty_mode = refl;
      empty_state = refl;
      many_processors = refl;
      many_tasks = refl;
      cut_short = refl;
      empty_number = refl;
      empty_task = refl;
    }
