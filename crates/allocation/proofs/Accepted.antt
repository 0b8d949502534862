-- What an accepted reading says: the sheet's task set, which is lawful, since no cause of 1 to 6 holds for it.
use Prim.Native.Nat.{ℕ, ◌<◌}
use mathlib.Core.Path.{◌≡◌, refl, sym, subst}
use mathlib.Core.Bool.{true, ◌&&◌, not}
use mathlib.Core.List.{List, []}
use native.Mathlib.Omega.{arith}
use lib.Dec.{leb}
use lib.ListN.{length}
use Rattle.sheet.specs.declared.task.Task.{Task}
use Rattle.sheet.specs.declared.task.TaskSet.{TaskSet}
use Rattle.std.specs.Prelude.{Ok, Option, None, Some, is_none, unwrap_or}
use Rattle.std.proofs.lemmas.Bool.{and_parts}
use Rattle.sheet.specs.declared.refusal.Refusal.TheVariants.{BadHeader, BadRecord, BadFigure, BadMask, NotHeavy, NoFit}
use Rattle.sheet.specs.Refusal.{refused_if, first_over}
use Rattle.sheet.specs.Format.{processors_of, count_of, offset_of, length_of, level_at, nodes_at, task_at, tasks_below, task_set_of, task_in, missing_task, zero_task}
use Rattle.basics.specs.Numbers.{within}
use Rattle.sheet.specs.Level.{level_lawful}
use Rattle.sheet.specs.Rules.{shape_lawful, figures_lawful, masks_lawful, is_heavy, task_answer}
use Rattle.reader.specs.Reading.{header_lawful, header_answer, place_answer, end_answer, shape_answer, record_answer, read_answer}
use Rattle.basics.proofs.Cells.{cells-length, cells_at}
use Rattle.sheet.proofs.Faults.{both_accepted, rule_kept, over_accepted}
use Rattle.basics.proofs.Logic.{all_four, within_bounds}
use Rattle.shares.specs.declared.share.Share.{Share}
use Rattle.allocation.specs.Allocation.{chosen_for, share_answer, choice_answer}
use Rattle.allocation.specs.Lawful.{LawfulTask, LawfulSet}

module _ (s : List ℕ) where
  module _ (accepted : read_answer s ≡ Ok tt) where
    pub header_kept : header_lawful s ≡ true
    unfolding read_answer header_answer
    header_kept = rule_kept (header_lawful s) BadHeader (both_accepted (header_answer s) _ accepted).0

    ranges : (within 1 64 (processors_of s) ≡ true) × (within 1 16 (count_of s) ≡ true)
    unfolding header_lawful
    ranges =
        let all = all_four (leb 2 (length s)) (within 1 64 (processors_of s)) (within 1 16 (count_of s)) _ header_kept in
        (all.1, all.2)

    -- The places, the end and the records pass.
    pub behind_header : (first_over (place_answer s) 0 (count_of s) ≡ Ok tt)
        × (end_answer s ≡ Ok tt)
        × (first_over (record_answer s) 0 (count_of s) ≡ Ok tt)
    unfolding read_answer
    behind_header =
        let later = (both_accepted (header_answer s) _ accepted).1 in
        let places = both_accepted (first_over (place_answer s) 0 (count_of s)) _ later in
        let last = both_accepted (end_answer s) _ places.1 in
        (places.0, last.0, last.1)

    module _ (i : ℕ) (inside : i < count_of s) where
      record_accepted : record_answer s i ≡ Ok tt
      record_accepted = over_accepted (record_answer s) 0 (count_of s) i behind_header.2 (omega arith) (omega arith)

      pub shape_kept : shape_lawful (level_at s (offset_of s i)) (nodes_at s (offset_of s i)) (length_of s i) ≡ true
      unfolding record_answer shape_answer
      shape_kept = rule_kept _ (BadRecord i) (both_accepted (shape_answer s i) _ record_accepted).0

      task_accepted : task_answer (task_at s (offset_of s i)) i ≡ Ok tt
      unfolding record_answer
      task_accepted = (both_accepted (shape_answer s i) _ record_accepted).1

      rules_kept : (t : Task) → task_answer t i ≡ Ok tt →
          (figures_lawful t.level t.figures ≡ true) × (masks_lawful t.predecessors t.nodes ≡ true) × (is_heavy t.figures ≡ true)
      unfolding task_answer
      rules_kept t e =
          let first = both_accepted (refused_if (not (figures_lawful t.level t.figures)) (BadFigure i)) _ e in
          let second = both_accepted (refused_if (not (masks_lawful t.predecessors t.nodes)) (BadMask i)) _ first.1 in
          (rule_kept _ (BadFigure i) first.0, rule_kept _ (BadMask i) second.0, rule_kept _ (NotHeavy i) second.1)

      task_lawful : LawfulTask (task_at s (offset_of s i))
      unfolding task_at shape_lawful
      task_lawful =
          let rules = rules_kept (task_at s (offset_of s i)) task_accepted in
          let level = level_lawful (level_at s (offset_of s i)) in
          let nodes = within 1 32 (nodes_at s (offset_of s i)) in
          let shape = (and_parts (level && nodes) _ shape_kept).0 in
          record {
            level = (and_parts level nodes shape).0;
            nodes = (and_parts level nodes shape).1;
            figures = rules.0;
            masks = rules.1;
            heavy = rules.2;
          }

      pub task_in_lem : task_in (task_set_of s) i ≡ task_at s (offset_of s i)
      unfolding task_in task_set_of tasks_below
      task_in_lem =
          let few = (within_bounds 1 16 (count_of s) ranges.1).1 in
          cells_at (λ j. task_at s (offset_of s j)) zero_task 16 (count_of s) i missing_task (omega arith) inside

    pub sheet_lawful : LawfulSet (task_set_of s)
    unfolding task_set_of tasks_below
    sheet_lawful =
        record {
          some_processors = (within_bounds 1 64 (processors_of s) ranges.0).0;
          few_processors = (within_bounds 1 64 (processors_of s) ranges.0).1;
          some_tasks = (within_bounds 1 16 (count_of s) ranges.1).0;
          few_tasks = (within_bounds 1 16 (count_of s) ranges.1).1;
          all_there = cells-length (λ j. task_at s (offset_of s j)) zero_task 0 16 (count_of s);
          lawful = λ i inside. subst LawfulTask (sym (task_in_lem i inside)) (task_lawful i inside);
        }

-- The answer on a task set that is accepted comes with a choice.
pub accepted_choice : (set : TaskSet) → choice_answer set ≡ Ok tt → chosen_for set ≡ Some (unwrap_or (chosen_for set) [])
unfolding choice_answer
accepted_choice set e = go (chosen_for set) (both_accepted (first_over (share_answer set) 0 set.count) _ e).1
  where
    go : (o : Option (List Share)) → refused_if (is_none o) NoFit ≡ Ok tt → o ≡ Some (unwrap_or o [])
    go None h = absurd (cc)
    go (Some choice) h = refl
