-- The sheet of a task set: each record stands where the directory says, as long as it says, and the last one ends with
-- the sheet.
use Prim.Native.Nat.{ℕ, zero, suc, ◌+◌, ◌*◌, ◌/◌, ◌%◌, ◌≤◌, ◌<◌}
use mathlib.Core.List.{List, [], ◌∷◌, ◌++◌, append_assoc}
use mathlib.Core.Path.{◌≡◌, refl, sym, ap, ap₂, ◌∙◌}
use native.Mathlib.Omega.{arith}
use lib.ListN.{length, get_or, take, drop, length-append}
use lib.Seq.{length-take-le, take_all, get_or-take}
use Rattle.std.specs.Prelude.{flat_map}
use Rattle.basics.specs.Numbers.{byte_at, u16_at, u16_bytes}
use Rattle.basics.proofs.Bytes.{u16_behind, u16_whole}
use Rattle.sheet.specs.declared.task.Task.{Task}
use Rattle.sheet.specs.declared.task.TaskSet.{TaskSet}
use Rattle.sheet.specs.Format.{count_of, offset_of, length_of, place_of, task_at, task_in, missing_task}
use Rattle.sheet.specs.Encoding.{record_bytes, directory_bytes, sheet_bytes}
use Rattle.sheet.specs.Laws.{Encodable, RoundTrip, RecordLength}
use Rattle.sheet.proofs.Encoding.{round_trip, record_length}
use Rattle.sheet.proofs.Logic.{before_most}
use Rattle.allocation.specs.Allocation.{tasks_of}
use Rattle.allocation.specs.Lawful.{LawfulSet}

-- The bytes of the records before task i's.
abbrev before : List Task → ℕ → ℕ
before tasks i = length (flat_map record_bytes (take i tasks))

-- The bytes before the records.
abbrev head_of : TaskSet → List ℕ
head_of set = set.processors ∷ set.count ∷ directory_bytes (2 + 4 * set.count) (tasks_of set)

-- The bytes before task i's record.
abbrev front_of : TaskSet → ℕ → List ℕ
front_of set i = head_of set ++ flat_map record_bytes (take i (tasks_of set))

-- One record more.
before_next : (tasks : List Task) (i : ℕ) → i < length tasks →
    before tasks (suc i) ≡ before tasks i + length (record_bytes (get_or tasks i missing_task))
before_next [] i h = absurd (omega arith)
before_next (t ∷ tasks) zero h = omega (arith, length-append (record_bytes t) [])
before_next (t ∷ tasks) (suc i) h =
    omega (
      arith,
      length-append (record_bytes t) (flat_map record_bytes (take (suc i) tasks)),
      length-append (record_bytes t) (flat_map record_bytes (take i tasks)),
      before_next tasks i (omega arith),
    )

-- The records, those before task i's, its own and those behind it.
records_split : (tasks : List Task) (i : ℕ) → i < length tasks →
    flat_map record_bytes tasks
    ≡ flat_map record_bytes (take i tasks) ++ (record_bytes (get_or tasks i missing_task) ++ flat_map record_bytes (drop (suc i) tasks))
records_split [] i h = absurd (omega arith)
records_split (t ∷ tasks) zero h = refl
records_split (t ∷ tasks) (suc i) h =
    ap (λ (l : List ℕ). record_bytes t ++ l) (records_split tasks i (omega arith))
    ∙ sym (append_assoc (record_bytes t) _ _)

-- A record has at most 150 bytes.
record_most : (t : Task) → Encodable t → length (record_bytes t) ≤ 150
unfolding RecordLength
record_most t fits = omega (arith, record_length t fits, before_most t.level, fits.nodes)

records_most : (tasks : List Task) → ((i : ℕ) → i < length tasks → Encodable (get_or tasks i missing_task)) →
    length (flat_map record_bytes tasks) ≤ 150 * length tasks
records_most [] fits = omega arith
records_most (t ∷ tasks) fits =
    omega (
      arith,
      length-append (record_bytes t) (flat_map record_bytes tasks),
      record_most t (fits 0 (omega arith)),
      records_most tasks (λ i h. fits (suc i) (omega arith)),
    )

-- The directory has four bytes for each task.
directory_length : (place : ℕ) (tasks : List Task) → length (directory_bytes place tasks) ≡ 4 * length tasks
unfolding directory_bytes u16_bytes
directory_length place [] = omega arith
directory_length place (t ∷ tasks) = omega (arith, directory_length (place + length (record_bytes t)) tasks)

-- Two numbers of two bytes each, and those behind them.
module _ (x y : ℕ) (s : List ℕ) where
  pair_first : x < 65536 → u16_at (u16_bytes x ++ u16_bytes y ++ s) 0 ≡ x
  unfolding u16_at byte_at u16_bytes
  pair_first h = u16_whole x h

  pair_second : y < 65536 → u16_at (u16_bytes x ++ u16_bytes y ++ s) 2 ≡ y
  unfolding u16_at byte_at u16_bytes
  pair_second h = u16_whole y h

  pair_behind : (n place : ℕ) → place ≡ 4 + n → u16_at (u16_bytes x ++ u16_bytes y ++ s) place ≡ u16_at s n
  unfolding u16_bytes
  pair_behind n place e = u16_behind (x % 256 ∷ x / 256 % 256 ∷ y % 256 ∷ y / 256 % 256 ∷ []) s n place e

-- The directory says of task i that its record begins behind those before it, and how many bytes it has.
entry_offset : (place : ℕ) (tasks : List Task) (back : List ℕ) (i : ℕ) → i < length tasks →
    place + length (flat_map record_bytes tasks) < 65536 → u16_at (directory_bytes place tasks ++ back) (4 * i) ≡ place + before tasks i
unfolding directory_bytes u16_bytes
entry_offset place [] back i h small = absurd (omega arith)
entry_offset place (t ∷ tasks) back zero h small =
    pair_first place (length (record_bytes t)) (directory_bytes (place + length (record_bytes t)) tasks ++ back) (omega arith) ∙ omega arith
entry_offset place (t ∷ tasks) back (suc i) h small =
    let bytes = length (record_bytes t) in
    let whole = length-append (record_bytes t) (flat_map record_bytes tasks) in
    pair_behind place bytes (directory_bytes (place + bytes) tasks ++ back) (4 * i) (4 * suc i) (omega arith)
    ∙ entry_offset (place + bytes) tasks back i (omega arith) (omega arith)
    ∙ omega (arith, length-append (record_bytes t) (flat_map record_bytes (take i tasks)))

entry_length : (place : ℕ) (tasks : List Task) (back : List ℕ) (i : ℕ) → i < length tasks →
    length (flat_map record_bytes tasks) < 65536 →
    u16_at (directory_bytes place tasks ++ back) (2 + 4 * i) ≡ length (record_bytes (get_or tasks i missing_task))
unfolding directory_bytes u16_bytes
entry_length place [] back i h small = absurd (omega arith)
entry_length place (t ∷ tasks) back zero h small =
    pair_second place (length (record_bytes t)) (directory_bytes (place + length (record_bytes t)) tasks ++ back)
    (omega (arith, length-append (record_bytes t) (flat_map record_bytes tasks)))
entry_length place (t ∷ tasks) back (suc i) h small =
    let bytes = length (record_bytes t) in
    let whole = length-append (record_bytes t) (flat_map record_bytes tasks) in
    pair_behind place bytes (directory_bytes (place + bytes) tasks ++ back) (2 + 4 * i) (2 + 4 * suc i) (omega arith)
    ∙ entry_length (place + bytes) tasks back i (omega arith) (omega arith)

-- The sheet of a task set whose tasks records can hold.
pub tasks_length : (set : TaskSet) → LawfulSet set → length (tasks_of set) ≡ set.count
tasks_length set lawful = length-take-le set.count set.tasks (omega (arith, lawful.all_there, lawful.few_tasks))

-- Task i of the set is task i of the list.
pub task_at_lem : (set : TaskSet) (i : ℕ) → i < set.count → get_or (tasks_of set) i missing_task ≡ task_in set i
unfolding task_in
task_at_lem set i inside = get_or-take set.count set.tasks i missing_task inside

module _ (set : TaskSet) (lawful : LawfulSet set) (fits : (i : ℕ) → i < set.count → Encodable (task_in set i)) where
  head_length : length (head_of set) ≡ 2 + 4 * set.count
  head_length = omega (arith, directory_length (2 + 4 * set.count) (tasks_of set), tasks_length set lawful)

  -- All of its places are numbers of two bytes.
  sheet_small : 2 + 4 * set.count + length (flat_map record_bytes (tasks_of set)) < 65536
  sheet_small =
      let held : (i : ℕ) → i < length (tasks_of set) → Encodable (get_or (tasks_of set) i missing_task) =
      λ i h. let inside : i < set.count = omega (arith, tasks_length set lawful) in rw (task_at_lem set i inside) (fits i inside) in
      omega (arith, records_most (tasks_of set) held, tasks_length set lawful, lawful.few_tasks)

  sheet_end : length (sheet_bytes set) ≡ 2 + 4 * set.count + before (tasks_of set) set.count
  unfolding sheet_bytes
  sheet_end =
      let all = take_all set.count (tasks_of set) (omega (arith, tasks_length set lawful)) in
      length-append (head_of set) (flat_map record_bytes (tasks_of set))
      ∙ omega (arith, head_length, ap (λ (l : List Task). length (flat_map record_bytes l)) all)

  -- A number of the directory, by its place there.
  directory_at : (n place : ℕ) → place ≡ 2 + n →
      u16_at (sheet_bytes set) place
      ≡ u16_at (directory_bytes (2 + 4 * set.count) (tasks_of set) ++ flat_map record_bytes (tasks_of set)) n
  unfolding sheet_bytes
  directory_at n place e = u16_behind (set.processors ∷ set.count ∷ []) _ n place e

  -- The directory is there.
  pub sheet_head : 2 + 4 * set.count ≤ length (sheet_bytes set)
  sheet_head = omega (arith, sheet_end)

  module _ (i : ℕ) (inside : i < set.count) where
    listed : i < length (tasks_of set)
    listed = omega (arith, tasks_length set lawful)

    sheet_offset : offset_of (sheet_bytes set) i ≡ 2 + 4 * set.count + before (tasks_of set) i
    unfolding offset_of
    sheet_offset =
        directory_at (4 * i) (2 + 4 * i) refl
        ∙ entry_offset (2 + 4 * set.count) (tasks_of set) (flat_map record_bytes (tasks_of set)) i listed sheet_small

    pub sheet_length : length_of (sheet_bytes set) i ≡ length (record_bytes (task_in set i))
    unfolding length_of
    sheet_length =
        directory_at (2 + 4 * i) (4 + 4 * i) (omega arith)
        ∙ entry_length (2 + 4 * set.count) (tasks_of set) (flat_map record_bytes (tasks_of set)) i listed (omega (arith, sheet_small))
        ∙ ap (λ (t : Task). length (record_bytes t)) (task_at_lem set i inside)

    front_length : length (front_of set i) ≡ 2 + 4 * set.count + before (tasks_of set) i
    front_length = length-append (head_of set) (flat_map record_bytes (take i (tasks_of set))) ∙ omega (arith, head_length)

    sheet_split : sheet_bytes set ≡ front_of set i ++ (record_bytes (task_in set i) ++ flat_map record_bytes (drop (suc i) (tasks_of set)))
    unfolding sheet_bytes
    sheet_split =
        let back = flat_map record_bytes (drop (suc i) (tasks_of set)) in
        ap (λ (l : List ℕ). head_of set ++ l) (records_split (tasks_of set) i listed)
        ∙ sym (append_assoc (head_of set) (flat_map record_bytes (take i (tasks_of set))) _)
        ∙ ap (λ (t : Task). front_of set i ++ (record_bytes t ++ back)) (task_at_lem set i inside)

    -- Task i is read where the directory says that its record begins.
    pub sheet_task : task_at (sheet_bytes set) (offset_of (sheet_bytes set) i) ≡ task_in set i
    unfolding RoundTrip
    sheet_task =
        ap₂ task_at sheet_split (sheet_offset ∙ sym front_length)
        ∙ round_trip (task_in set i) (front_of set i) (flat_map record_bytes (drop (suc i) (tasks_of set))) (fits i inside)

  -- Each record begins where it has to, and the last one ends with the sheet.
  sheet_place : (i : ℕ) → i ≤ set.count → place_of (sheet_bytes set) i ≡ 2 + 4 * set.count + before (tasks_of set) i
  unfolding place_of count_of byte_at sheet_bytes
  sheet_place zero h = omega arith
  sheet_place (suc i) h =
      let bytes = ap (λ (t : Task). length (record_bytes t)) (task_at_lem set i h) in
      omega (arith, sheet_offset i h, sheet_length i h, before_next (tasks_of set) i (listed i h))

  pub sheet_places : (i : ℕ) → i < set.count → offset_of (sheet_bytes set) i ≡ place_of (sheet_bytes set) i
  sheet_places i inside = sheet_offset i inside ∙ sym (sheet_place i (omega arith))

  pub sheet_ends : place_of (sheet_bytes set) set.count ≡ length (sheet_bytes set)
  sheet_ends = sheet_place set.count (omega arith) ∙ sym sheet_end
