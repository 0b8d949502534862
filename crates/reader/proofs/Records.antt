-- One record: refusal 3 on its shape, then 4 to 6 on the task that it holds.
use Prim.Native.Nat.{ℕ, ◌≤◌, ◌<◌, ◌+◌, ◌*◌}
use mathlib.Core.Bool.{true, false, ◌&&◌, not}
use mathlib.Core.List.{List}
use mathlib.Core.Path.{◌≡◌, refl, sym, ap, ◌∙◌}
use native.Mathlib.Omega.{arith}
use lib.Dec.{eqb}
use borrow.Author.Tests.{eqb-true}
use Rattle.std.specs.Prelude.{Err}
use Rattle.std.proofs.lemmas.Bool.{and_parts}
use Rattle.basics.proofs.Logic.{within_bounds}
use Rattle.sheet.specs.declared.refusal.Refusal.TheVariants.{BadRecord, NotHeavy}
use Rattle.sheet.specs.declared.task.Task.{Task}
use Rattle.sheet.specs.Refusal.{refused_if}
use Rattle.basics.specs.Numbers.{u16_at, within}
use Rattle.sheet.specs.Format.{offset_of, length_of, level_at, nodes_at, task_at}
use Rattle.sheet.specs.Level.{level_lawful, bytes_before_masks}
use Rattle.sheet.specs.Rules.{shape_lawful, figures_lawful, masks_lawful, is_heavy, task_answer}
use Rattle.sheet.proofs.Logic.{length_broken}
use Rattle.reader.specs.Reading.{shape_answer, record_answer}

-- A lawful shape has at most 32 nodes.
pub nodes_few : (level nodes bytes : ℕ) → shape_lawful level nodes bytes ≡ true → nodes ≤ 32
unfolding shape_lawful
nodes_few level nodes bytes e =
    let lawful = (and_parts (level_lawful level && within 1 32 nodes) (eqb bytes (bytes_before_masks level + 4 * nodes)) e).0 in
    (within_bounds 1 32 nodes (and_parts (level_lawful level) (within 1 32 nodes) lawful).1).1

-- A record of fewer than two bytes has no lawful shape.
pub short_shape : (level nodes bytes : ℕ) → bytes < 2 → false ≡ shape_lawful level nodes bytes
unfolding shape_lawful
short_shape level nodes bytes short = sym (length_broken (level_lawful level && within 1 32 nodes) level nodes bytes short)

-- It has the length that goes with its level and nodes.
pub shape_size : (level nodes bytes : ℕ) → shape_lawful level nodes bytes ≡ true → bytes ≡ bytes_before_masks level + 4 * nodes
unfolding shape_lawful
shape_size level nodes bytes e =
    eqb-true bytes (bytes_before_masks level + 4 * nodes) (and_parts (level_lawful level && within 1 32 nodes) _ e).1

-- A task at the place of task i that keeps every other rule is refused for 6 alone.
pub record_answers : (s : List ℕ) (i : ℕ) (task : Task) → task_at s (offset_of s i) ≡ task →
    shape_lawful task.level task.nodes (length_of s i) ≡ true →
    figures_lawful task.level task.figures ≡ true →
    masks_lawful task.predecessors task.nodes ≡ true →
    record_answer s i ≡ refused_if (not (is_heavy task.figures)) (NotHeavy i)
unfolding record_answer shape_answer task_answer task_at
record_answers s i task read shape figures masks =
    let shape_kept = ap (λ (x : Task). shape_lawful x.level x.nodes (length_of s i)) read ∙ shape in
    let task_kept = ap (λ (x : Task). task_answer x i) read in
    rw (shape_kept, task_kept, figures, masks)

-- The directory's entry of task i says where its record begins and how long it is.
pub length_read : (s : List ℕ) (i : ℕ) → u16_at s (2 + 4 * i + 2) ≡ length_of s i
unfolding length_of
length_read s i = ap (u16_at s) (omega arith)

pub offset_read : (s : List ℕ) (i : ℕ) → u16_at s (2 + 4 * i) ≡ offset_of s i
unfolding offset_of
offset_read s i = refl

-- A record of a wrong shape is refused for 3, and one of a lawful shape for what its task is refused for.
pub record_refused : (s : List ℕ) (i : ℕ) → shape_lawful (level_at s (offset_of s i)) (nodes_at s (offset_of s i)) (length_of s i) ≡ false →
    record_answer s i ≡ Err (BadRecord i)
unfolding record_answer shape_answer
record_refused s i e = rw e

pub record_shaped : (s : List ℕ) (i : ℕ) → shape_lawful (level_at s (offset_of s i)) (nodes_at s (offset_of s i)) (length_of s i) ≡ true →
    record_answer s i ≡ task_answer (task_at s (offset_of s i)) i
unfolding record_answer shape_answer
record_shaped s i e = rw e
