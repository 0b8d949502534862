-- S2.7 to S2.13: the rules of one record, for its level, number of nodes and length, its figures and its masks.
use Rattle.std.specs.Prelude.{ℕ, ◌+◌, ◌*◌, ◌-◌, ◌^◌, Bool, ◌&&◌, ◌||◌, not, List, leb, ltb, eqb, get_or}
use Rattle.basics.specs.Lists.{all_below}
use Rattle.basics.specs.Numbers.{within}
use Rattle.sheet.specs.declared.refusal.Refusal.TheVariants.{BadFigure, BadMask, NotHeavy}
use Rattle.sheet.specs.declared.task.Figures.{Figures}
use Rattle.sheet.specs.declared.task.Task.{Task}
use Rattle.sheet.specs.Level.{level_lawful, is_high, figure_limit, bytes_before_masks}
use Rattle.sheet.specs.Refusal.{Answer, refused_if, ◌or_else◌}

-- S2.7: the level, 1 to 32 nodes, and as many bytes as go with them.
unfoldable pub shape_lawful : ℕ → ℕ → ℕ → Bool
shape_lawful level nodes bytes = level_lawful level && within 1 32 nodes && eqb bytes (bytes_before_masks level + 4 * nodes)

-- S2.9: each of the five figures lies in its range.
unfoldable pub in_range : ℕ → Figures → Bool
in_range level f =
    within 1 (figure_limit level) f.deadline
    && within 1 (figure_limit level) f.nominal.work
    && within 1 (figure_limit level) f.overload.work
    && within 1 (figure_limit level) f.nominal.span
    && within 1 (figure_limit level) f.overload.span

-- S2.10: a span is no greater than its work, overload figures are no smaller than nominal ones, and the span grows no
-- more than the work.
unfoldable pub in_order : Figures → Bool
in_order f =
    leb f.nominal.span f.nominal.work
    && leb f.overload.span f.overload.work
    && leb f.nominal.work f.overload.work
    && leb f.nominal.span f.overload.span
    && leb (f.overload.span - f.nominal.span) (f.overload.work - f.nominal.work)

-- S2.11: a low task's nominal figures are its overload figures.
unfoldable pub low_lawful : ℕ → Figures → Bool
low_lawful level f =
    is_high level
    || eqb f.nominal.work f.overload.work && eqb f.nominal.span f.overload.span

-- S2.9 to S2.11 together.
unfoldable pub figures_lawful : ℕ → Figures → Bool
figures_lawful level f = in_range level f && in_order f && low_lawful level f

-- S2.12: node v's mask has no bit from v on, which is to say that it lies below 2 ^ v (`Laws.MaskLaw`).
unfoldable pub mask_lawful : List ℕ → ℕ → Bool
mask_lawful masks v = ltb (get_or masks v 0) (2 ^ v)

-- S2.12, for every node.
unfoldable pub masks_lawful : List ℕ → ℕ → Bool
masks_lawful masks nodes = all_below nodes (mask_lawful masks)

-- S2.13: the overload work exceeds the deadline.
unfoldable pub is_heavy : Figures → Bool
is_heavy f = ltb f.deadline f.overload.work

-- S3.3: refusals 4, 5 and 6 in this order, of a task with the number i.
unfoldable pub task_answer : Task → ℕ → Answer
task_answer t i =
    refused_if (not (figures_lawful t.level t.figures)) (BadFigure i)
    or_else refused_if (not (masks_lawful t.predecessors t.nodes)) (BadMask i)
    or_else refused_if (not (is_heavy t.figures)) (NotHeavy i)
