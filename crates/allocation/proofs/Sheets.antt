-- S2 and S2.14: a lawful task set that is written as a sheet is read as it is, since records can hold its tasks and its
-- directory tells where they stand; and the task set of an accepted sheet is such a set, and so is its wide form.
use Prim.Native.Nat.{ℕ, ◌+◌, ◌*◌, ◌-◌, ◌≤◌, ◌<◌}
use mathlib.Core.Bool.{true}
use mathlib.Core.List.{List}
use mathlib.Core.Path.{◌≡◌, refl, sym, ap, ◌∙◌}
use native.Mathlib.Omega.{arith}
use lib.ListN.{length, get_or, drop, replicate}
use borrow.Author.Tests.{le-leb, eq-eqb}
use Rattle.basics.specs.Lists.{cells_from}
use Rattle.basics.specs.Numbers.{byte_at}
use Rattle.basics.proofs.Cells.{cells-length, cells_at, cells_whole, cells_rest}
use Rattle.basics.proofs.Logic.{within_bounds}
use Rattle.sheet.specs.declared.task.Task.{Task}
use Rattle.sheet.specs.declared.task.TaskSet.{TaskSet}
use Rattle.std.specs.Prelude.{Ok}
use Rattle.sheet.specs.declared.refusal.Refusal.TheVariants.{BadHeader, BadPlace, NotHeavy}
use Rattle.sheet.specs.Level.{bytes_before_masks}
use Rattle.sheet.specs.Format.{processors_of, count_of, offset_of, length_of, place_of, nodes_at, masks_at, task_at, tasks_below, task_set_of, task_in, missing_task, zero_task}
use Rattle.sheet.specs.Rules.{shape_lawful, is_heavy}
use Rattle.sheet.specs.Encoding.{sheet_bytes}
use Rattle.sheet.specs.Laws.{Encodable, RecordLength}
use Rattle.sheet.specs.Wide.{wide_task, wide_set}
use Rattle.sheet.proofs.Encoding.{record_length}
use Rattle.sheet.proofs.Faults.{kept, kept_equal, all_pass}
use Rattle.reader.specs.Reading.{header_lawful, header_answer, place_answer, record_answer, read_answer, read_of}
use Rattle.reader.proofs.Places.{end_kept}
use Rattle.reader.proofs.Records.{record_answers}
use Rattle.allocation.specs.Lawful.{LawfulTask, LawfulSet}
use Rattle.allocation.specs.Wide.{Padded, SheetRead, wide_form, WideRead}
use Rattle.allocation.proofs.Accepted.{sheet_lawful, task_in_lem}
use Rattle.allocation.proofs.Records.{encodable, wide_lawful}
use Rattle.allocation.proofs.Directory.{sheet_head, sheet_length, sheet_task, sheet_places, sheet_ends}

-- A record that is read as a lawful task, and has as many bytes as go with it.
record_passes : (s : List ℕ) (i : ℕ) (t : Task) → LawfulTask t → task_at s (offset_of s i) ≡ t →
    length_of s i ≡ bytes_before_masks t.level + 4 * t.nodes → record_answer s i ≡ Ok tt
unfolding shape_lawful
record_passes s i t lawful read bytes =
    record_answers s i t read (rw (lawful.level, lawful.nodes, eq-eqb (length_of s i) _ bytes)) lawful.figures lawful.masks
    ∙ kept (is_heavy t.figures) (NotHeavy i) lawful.heavy

-- The sheet of a lawful task set with zeros in its unused places.
module _ (set : TaskSet) (lawful : LawfulSet set) (padded : Padded set) where
  abbrev sheet : List ℕ
  sheet = sheet_bytes set

  fits : (i : ℕ) → i < set.count → Encodable (task_in set i)
  fits i inside = encodable (task_in set i) (lawful.lawful i inside) (padded.masks i inside) (padded.masks_none i inside)

  count_read : count_of sheet ≡ set.count
  unfolding count_of byte_at sheet_bytes
  count_read = refl

  processors_read : processors_of sheet ≡ set.processors
  unfolding processors_of byte_at sheet_bytes
  processors_read = refl

  -- It passes: the header, each place and the end, and each record.
  header_passes : header_lawful sheet ≡ true
  unfolding header_lawful
  header_passes =
      let there = sheet_head set lawful fits in
      rw (
        processors_read,
        count_read,
        le-leb 2 (length sheet) (omega arith),
        le-leb 1 set.processors lawful.some_processors,
        le-leb set.processors 64 lawful.few_processors,
        le-leb 1 set.count lawful.some_tasks,
        le-leb set.count 16 lawful.few_tasks,
        le-leb (2 + 4 * set.count) (length sheet) there,
      )

  places_pass : (i : ℕ) → i < set.count → place_answer sheet i ≡ Ok tt
  unfolding place_answer
  places_pass i inside = kept_equal (offset_of sheet i) (place_of sheet i) (BadPlace i) (sheet_places set lawful fits i inside)

  records_pass : (i : ℕ) → i < set.count → record_answer sheet i ≡ Ok tt
  unfolding RecordLength
  records_pass i inside =
      record_passes sheet i (task_in set i) (lawful.lawful i inside) (sheet_task set lawful fits i inside)
      (sheet_length set lawful fits i inside ∙ record_length (task_in set i) (fits i inside))

  sheet_passes : read_answer sheet ≡ Ok tt
  unfolding read_answer header_answer
  sheet_passes =
      rw (
        kept (header_lawful sheet) BadHeader header_passes,
        end_kept sheet set.count (sym count_read) (sheet_ends set lawful fits),
        count_read,
        all_pass (place_answer sheet) 0 set.count (λ i from to. places_pass i (omega arith)),
        all_pass (record_answer sheet) 0 set.count (λ i from to. records_pass i (omega arith)),
      )

  -- The set is read of it: M, n, the tasks and the zeros behind them.
  tasks_read : tasks_below sheet set.count ≡ set.tasks
  unfolding tasks_below task_in
  tasks_read =
      let place : ℕ → Task = λ i. task_at sheet (offset_of sheet i) in
      ap (λ (size : ℕ). cells_from 0 size place zero_task set.count) (sym lawful.all_there)
      ∙ cells_whole place zero_task missing_task set.tasks 0 set.count set.count (omega arith)
      (omega (arith, lawful.all_there, lawful.few_tasks))
      (λ v j e h. let same : v ≡ j = omega arith in ap place same ∙ sheet_task set lawful fits j h)
      (padded.tasks_none ∙ ap (λ (size : ℕ). replicate (size - set.count) zero_task) (sym lawful.all_there))

  set_read : task_set_of sheet ≡ set
  unfolding task_set_of
  set_read = rw (processors_read, count_read, tasks_read)

pub sheet_read : SheetRead
unfolding SheetRead read_of
sheet_read set lawful padded = rw (sheet_passes set lawful padded, set_read set lawful padded)

-- What is read of a sheet has zeros in its unused places: behind the masks of each task, and behind the last task.
module _ (s : List ℕ) (at : ℕ) where
  masks_there : length (task_at s at).predecessors ≡ 32
  unfolding task_at masks_at
  masks_there = cells-length _ 0 0 32 (nodes_at s at)

  masks_rest : (task_at s at).nodes ≤ 32 → drop (task_at s at).nodes (task_at s at).predecessors ≡ replicate (32 - (task_at s at).nodes) 0
  unfolding task_at masks_at
  masks_rest few = cells_rest _ 0 (nodes_at s at) 0 32 (nodes_at s at) (omega arith) few

module _ (s : List ℕ) (accepted : read_answer s ≡ Ok tt) where
  pub sheet_padded : Padded (task_set_of s)
  unfolding task_set_of tasks_below
  sheet_padded =
      let lawful = sheet_lawful s accepted in
      record {
        masks = λ i inside. ap (λ (t : Task). length t.predecessors) (task_in_lem s accepted i inside) ∙ masks_there s (offset_of s i);
        masks_none = λ i inside.
            let few = (within_bounds 1 32 (task_in (task_set_of s) i).nodes (lawful.lawful i inside).nodes).1 in
            rw (task_in_lem s accepted i inside) (masks_rest s (offset_of s i) (rw (task_in_lem s accepted i inside) at few));
        tasks_none = cells_rest (λ i. task_at s (offset_of s i)) zero_task (count_of s) 0 16 (count_of s) (omega arith) lawful.few_tasks;
      }

-- S2.14: the wide form of a lawful task set is lawful, and has zeros where the set has them.
module _ (set : TaskSet) (lawful : LawfulSet set) where
  pub wide_at : (i : ℕ) (d : Task) → i < set.count → get_or (wide_set set).tasks i d ≡ wide_task (task_in set i)
  unfolding wide_set
  wide_at i d inside = cells_at (λ j. wide_task (task_in set j)) zero_task 16 set.count i d (omega (arith, lawful.few_tasks)) inside

  pub wide_task_lem : (i : ℕ) → i < set.count → task_in (wide_set set) i ≡ wide_task (task_in set i)
  unfolding task_in
  wide_task_lem i inside = wide_at i missing_task inside

  wide_set_lawful : LawfulSet (wide_set set)
  unfolding wide_set
  wide_set_lawful =
      record {
        some_processors = lawful.some_processors;
        few_processors = lawful.few_processors;
        some_tasks = lawful.some_tasks;
        few_tasks = lawful.few_tasks;
        all_there = cells-length (λ i. wide_task (task_in set i)) zero_task 0 16 set.count;
        lawful = λ i inside. rw (wide_task_lem i inside) (wide_lawful (task_in set i) (lawful.lawful i inside));
      }

  wide_padded : Padded set → Padded (wide_set set)
  unfolding wide_set wide_task
  wide_padded padded =
      record {
        masks = λ i inside. rw (wide_task_lem i inside) (padded.masks i inside);
        masks_none = λ i inside. rw (wide_task_lem i inside) (padded.masks_none i inside);
        tasks_none = cells_rest (λ i. wide_task (task_in set i)) zero_task set.count 0 16 set.count (omega arith) lawful.few_tasks;
      }

pub wide_read : WideRead
unfolding WideRead wide_form SheetRead
wide_read s accepted =
    let set = (task_set_of s) in
    let lawful = sheet_lawful s accepted in
    sheet_read (wide_set set) (wide_set_lawful set lawful) (wide_padded set lawful (sheet_padded s accepted))
