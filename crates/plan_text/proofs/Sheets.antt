-- S11.14 by computation: the bytes of the sheet of A, B and E, and what is printed for it.
use mathlib.Core.Path.{◌≡◌, refl}
use mathlib.Core.List.{[], ◌∷◌, ◌++◌}
use Rattle.sheet.specs.Refusal.{first_over}
use Rattle.basics.specs.Numbers.{byte_at, u16_at, u32_at}
use Rattle.basics.specs.Lists.{cells_from, all_below, range}
use Rattle.sheet.specs.Format.{processors_of, count_of, offset_of, length_of, level_at, nodes_at, figure_at, figures_at, masks_at, task_at, zero_task, tasks_below, task_set_of, task_in, place_of}
use Rattle.sheet.specs.Level.{level_lawful, is_low, bytes_before_masks, figure_limit, is_high, is_wide}
use Rattle.sheet.specs.Rules.{shape_lawful, in_range, in_order, low_lawful, figures_lawful, mask_lawful, masks_lawful, is_heavy, task_answer}
use Rattle.reader.proofs.Worked.{sheet_abe}
use Rattle.reader.specs.Reading.{header_lawful, header_answer, place_answer, end_answer, shape_answer, record_answer, read_of, read_answer}
use Rattle.shares.specs.Test.{excess, demand, passes, division_of, virtual_deadline}
use Rattle.shares.specs.Low.{ceil_div, low_share, has_low_share}
use Rattle.shares.specs.Deadline.{virtual_deadline_of, remainder_of}
use Rattle.basics.specs.Order.{least_by}
use Rattle.allocation.specs.Choice.{low_options, pairs_within, high_options, options_of, fits, fitting, chosen}
use Rattle.shares.specs.Totals.{share_at}
use Rattle.allocation.specs.Blocks.{offset_in}
use Rattle.keeping.specs.Kept.{low_numbers, holdable, first_held, typical_share_at, left_over, kept_tasks, kept_share, with_kept}
use Rattle.allocation.specs.Allocation.{chosen_for, share_answer, choice_answer, allocation_of, allocations_of, allocation_at, allocation_answer, allocations_for, allocated_of, shares_with, shares_of}
use Rattle.plan_text.specs.Decimal.{digits_within, decimal}
use Rattle.plan_text.specs.Printed.{fields_of, plan_lines, refusal_line, text_of}

pub record Sheets : Type 0 where
  -- S6.2: a sheet of no bytes is `refused 1 255`.
  pub no_bytes : text_of [] ≡ 114 ∷ 101 ∷ 102 ∷ 117 ∷ 115 ∷ 101 ∷ 100 ∷ 32 ∷ 49 ∷ 32 ∷ 50 ∷ 53 ∷ 53 ∷ 10 ∷ []
  -- S11.14: the three lines.
  pub printed : text_of (sheet_abe 8)
      ≡ 48 ∷ 32 ∷ 48 ∷ 32 ∷ 49 ∷ 32 ∷ 48 ∷ 32 ∷ 50 ∷ 32 ∷ 57 ∷ 32 ∷ 48 ∷ 10
      ∷ 49 ∷ 32 ∷ 49 ∷ 32 ∷ 50 ∷ 32 ∷ 50 ∷ 32 ∷ 54 ∷ 32 ∷ 55 ∷ 32 ∷ 49 ∷ 10
      ∷ 50 ∷ 32 ∷ 51 ∷ 32 ∷ 53 ∷ 32 ∷ 56 ∷ 32 ∷ 48 ∷ 32 ∷ 48 ∷ 32 ∷ 48 ∷ 10 ∷ []
  -- S11.12: on 7 processors `refused 8 255`.
  pub nothing_fits : text_of (sheet_abe 7) ≡ 114 ∷ 101 ∷ 102 ∷ 117 ∷ 115 ∷ 101 ∷ 100 ∷ 32 ∷ 56 ∷ 32 ∷ 50 ∷ 53 ∷ 53 ∷ 10 ∷ []
  -- S9.7: on 3 processors there is no share for B: `refused 7 1`.
  pub nothing_to_take : text_of (sheet_abe 3) ≡ 114 ∷ 101 ∷ 102 ∷ 117 ∷ 115 ∷ 101 ∷ 100 ∷ 32 ∷ 55 ∷ 32 ∷ 49 ∷ 10 ∷ []
  -- S9.2: with a byte behind the last record `refused 2 2`.
  pub too_long : text_of (sheet_abe 8 ++ 0 ∷ []) ≡ 114 ∷ 101 ∷ 102 ∷ 117 ∷ 115 ∷ 101 ∷ 100 ∷ 32 ∷ 50 ∷ 32 ∷ 50 ∷ 10 ∷ []

sheets : Sheets
unfolding first_over byte_at u16_at u32_at processors_of count_of offset_of length_of place_of cells_from level_at nodes_at figure_at figures_at masks_at task_at zero_task tasks_below task_set_of task_in level_lawful shape_lawful in_range in_order low_lawful figures_lawful mask_lawful all_below masks_lawful is_heavy task_answer header_lawful header_answer place_answer end_answer shape_answer record_answer read_answer read_of excess demand passes division_of virtual_deadline is_low ceil_div low_share has_low_share virtual_deadline_of remainder_of range low_options pairs_within high_options options_of fits least_by fitting chosen offset_in chosen_for share_answer choice_answer low_numbers holdable first_held typical_share_at left_over kept_tasks kept_share with_kept shares_with shares_of share_at allocation_of allocations_of allocation_at allocation_answer allocations_for allocated_of digits_within decimal fields_of plan_lines refusal_line text_of is_high figure_limit bytes_before_masks is_wide
sheets = record { no_bytes = refl; printed = refl; nothing_fits = refl; nothing_to_take = refl; too_long = refl }
