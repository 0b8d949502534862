-- S2: a sheet that is accepted is what is written of its task set. The directory says where the records stand, one
-- behind the other up to the end, and each part that is read is written as it was.
use Prim.Native.Nat.{ℕ, zero, suc, ◌≤◌, ◌<◌, ◌+◌, ◌-◌, ◌*◌}
use mathlib.Core.Bool.{true}
use mathlib.Core.List.{List, ◌++◌, map}
use mathlib.Core.Path.{◌≡◌, refl, sym, ap, ap₂, ◌∙◌}
use native.Mathlib.Omega.{arith}
use lib.Dec.{leb, ltb}
use lib.ListN.{length, take, drop, take-append-drop}
use lib.Seq.{drop-length, drop-drop}
use borrow.Author.Tests.{leb-true, eqb-true}
use Rattle.std.specs.List.{list_all}
use Rattle.basics.specs.Lists.{range}
use Rattle.basics.specs.Numbers.{within}
use Rattle.basics.proofs.Cells.{cells_taken}
use Rattle.basics.proofs.Logic.{all_four, within_bounds}
use Rattle.basics.proofs.Parts.{part, join, two_part, u16_part}
use Rattle.sheet.specs.declared.task.Task.{Task}
use Rattle.std.specs.Prelude.{Ok, flat_map}
use Rattle.sheet.specs.declared.refusal.Refusal.TheVariants.{BadPlace}
use Rattle.sheet.specs.Format.{processors_of, count_of, offset_of, length_of, place_of, level_at, nodes_at, task_at, tasks_below, task_set_of, zero_task}
use Rattle.sheet.specs.Level.{bytes_before_masks}
use Rattle.sheet.specs.Encoding.{record_bytes, directory_bytes, sheet_bytes}
use Rattle.reader.specs.Reading.{header_lawful, place_answer, end_answer, read_answer}
use Rattle.sheet.proofs.Faults.{rule_kept, over_accepted}
use Rattle.sheet.proofs.Parts.{record_part, record_size}
use Rattle.reader.proofs.Records.{nodes_few, shape_size}
use Rattle.allocation.specs.Wide.{SheetAgain}
use Rattle.allocation.proofs.Accepted.{header_kept, behind_header, shape_kept}

-- How an accepted sheet is laid out: the directory fits, each record begins where the one before it ends, and has its
-- length.
record Laid (s : List ℕ) : Type 0 where
  few : count_of s ≤ 16
  directory : 2 + 4 * count_of s ≤ length s
  place : (i : ℕ) → i < count_of s → offset_of s i ≡ place_of s i
  end : place_of s (count_of s) ≡ length s
  nodes : (i : ℕ) → i < count_of s → nodes_at s (offset_of s i) ≤ 32
  size : (i : ℕ) → i < count_of s → length_of s i ≡ bytes_before_masks (level_at s (offset_of s i)) + 4 * nodes_at s (offset_of s i)

module _ (s : List ℕ) (laid : Laid s) where
  -- The task whose record the directory names.
  abbrev task : ℕ → Task
  task i = task_at s (offset_of s i)

  -- The tasks of the set, from the first on.
  tasks_taken : take (count_of s) (tasks_below s (count_of s)) ≡ map task (range 0 (count_of s))
  unfolding tasks_below
  tasks_taken = cells_taken task zero_task 0 16 (count_of s) (count_of s) laid.few (omega arith)

  -- A record ends within the sheet, for the records behind it end with the sheet.
  places_inside : (k i : ℕ) → i + k ≡ count_of s → place_of s i ≤ length s
  unfolding place_of
  places_inside zero i end =
      let last : i ≡ count_of s = omega arith in
      rw last (omega (arith, laid.end))
  places_inside (suc k) i end =
      let later : offset_of s i + length_of s i ≤ length s = places_inside k (suc i) (omega arith) in
      omega (arith, laid.place i (omega arith))

  module _ (bytes : list_all (λ b. ltb b 256) s ≡ true) where
    module _ (i : ℕ) (inside : i < count_of s) where
      ends_inside : offset_of s i + length_of s i ≤ length s
      unfolding place_of
      ends_inside = let left = count_of s - suc i in places_inside left (suc i) (omega arith)

      -- What is written of task i is its record in the sheet.
      record_again : record_bytes (task i) ≡ part s (offset_of s i) (length_of s i)
      record_again =
          let size = laid.size i inside in
          record_part s bytes (offset_of s i) (laid.nodes i inside) (omega (arith, ends_inside))
          ∙ ap (part s (offset_of s i)) (sym size)

      length_again : length (record_bytes (task i)) ≡ length_of s i
      length_again =
          let size = laid.size i inside in
          record_size s bytes (offset_of s i) (laid.nodes i inside) (omega (arith, ends_inside)) ∙ sym size

    -- The directory from task first on.
    directory_again : (k first : ℕ) → first + k ≡ count_of s →
        directory_bytes (place_of s first) (map task (range first k)) ≡ part s (2 + 4 * first) (4 * k)
    unfolding directory_bytes range place_of offset_of length_of
    directory_again zero first end = refl
    directory_again (suc k) first end =
        let inside : first < count_of s = omega arith in
        let all_present = laid.directory in
        rw (← laid.place first inside, length_again first inside)
        (ap₂ ◌++◌
        (ap₂ ◌++◌ (u16_part s bytes (2 + 4 * first) (omega arith)) (u16_part s bytes (4 + 4 * first) (omega arith))
        ∙ join s (2 + 4 * first) 2 (4 + 4 * first) 2 4 (omega arith) refl)
        (directory_again k (suc first) (omega arith))
        ∙ join s (2 + 4 * first) 4 (2 + 4 * suc first) (4 * k) (4 * suc k) (omega arith) (omega arith))

    -- The records from task first on: all that is behind the one before it.
    records_again : (k first : ℕ) → first + k ≡ count_of s → flat_map record_bytes (map task (range first k)) ≡ drop (place_of s first) s
    unfolding range place_of
    records_again zero first end =
        let last : first ≡ count_of s = omega arith in
        rw (last, laid.end) (sym (drop-length s))
    records_again (suc k) first end =
        let inside : first < count_of s = omega arith in
        let at = offset_of s first in
        ap₂ ◌++◌ (record_again first inside) (records_again k (suc first) (omega arith) ∙ sym (drop-drop (length_of s first) at s))
        ∙ take-append-drop (length_of s first) (drop at s)
        ∙ ap (λ (n : ℕ). drop n s) (laid.place first inside)

    -- M and n, the directory, and the records.
    whole_again : sheet_bytes (task_set_of s) ≡ s
    unfolding sheet_bytes task_set_of processors_of count_of place_of
    whole_again =
        let n = count_of s in
        let all_present = laid.directory in
        rw tasks_taken
        (ap₂ ◌++◌
        (ap₂ ◌++◌ (two_part s 0 (omega arith)) (directory_again n 0 (omega arith)) ∙ join s 0 2 (2 + 4 * 0) (4 * n) (2 + 4 * n) refl refl)
        (records_again n 0 (omega arith))
        ∙ take-append-drop (2 + 4 * n) s)

-- What the reader asks of a sheet that it accepts.
module _ (s : List ℕ) (accepted : read_answer s ≡ Ok tt) where
  header_fits : (count_of s ≤ 16) × (2 + 4 * count_of s ≤ length s)
  unfolding header_lawful
  header_fits =
      let all = all_four (leb 2 (length s)) (within 1 64 (processors_of s)) (within 1 16 (count_of s)) _ (header_kept s accepted) in
      ((within_bounds 1 16 (count_of s) all.2).1, leb-true (2 + 4 * count_of s) (length s) all.3)

  place_kept : (i : ℕ) → i < count_of s → offset_of s i ≡ place_of s i
  unfolding place_answer
  place_kept i inside =
      let here = over_accepted (place_answer s) 0 (count_of s) i (behind_header s accepted).0 (omega arith) (omega arith) in
      eqb-true (offset_of s i) (place_of s i) (rule_kept _ (BadPlace i) here)

  end_kept : place_of s (count_of s) ≡ length s
  unfolding end_answer
  end_kept = eqb-true (place_of s (count_of s)) (length s) (rule_kept _ (BadPlace _) (behind_header s accepted).1)

  accepted_laid : Laid s
  accepted_laid =
      record {
        few = header_fits.0;
        directory = header_fits.1;
        place = place_kept;
        end = end_kept;
        nodes = λ i inside. nodes_few _ _ _ (shape_kept s accepted i inside);
        size = λ i inside. shape_size _ _ _ (shape_kept s accepted i inside);
      }

pub sheet_again : SheetAgain
unfolding SheetAgain
sheet_again s bytes accepted = whole_again s (accepted_laid s accepted) bytes
