-- Worked facts by computation: the plans of small task sets and sheets, and refusal 9.
use Prim.Native.Nat.{ℕ}
use mathlib.Core.Path.{◌≡◌, refl}
use mathlib.Core.Bool.{true, false}
use mathlib.Core.List.{List, [], ◌∷◌, ◌++◌}
use native.Mathlib.Omega.{arith}
use lib.ListN.{replicate}
use Rattle.sheet.specs.Refusal.{first_over}
use Rattle.basics.specs.Numbers.{byte_at, u16_at, u32_at, u32_bytes}
use Rattle.basics.specs.Lists.{cells_from, all_below, range}
use Rattle.sheet.specs.Format.{processors_of, count_of, offset_of, length_of, level_at, nodes_at, figure_at, figures_at, masks_at, task_at, zero_task, tasks_below, task_set_of, task_in, place_of}
use Rattle.sheet.specs.Level.{level_lawful, is_low, bytes_before_masks, figure_limit, is_high, is_wide}
use Rattle.sheet.specs.Rules.{shape_lawful, in_range, in_order, low_lawful, figures_lawful, mask_lawful, masks_lawful, is_heavy, task_answer}
use Rattle.reader.proofs.Worked.{sheet_abe, dye_sheet}
use Rattle.reader.specs.Reading.{header_lawful, header_answer, place_answer, end_answer, shape_answer, record_answer, read_of, read_answer}
use Rattle.shares.specs.Deadline.{virtual_deadline_of, remainder_of}
use Rattle.shares.specs.Low.{ceil_div, low_share, has_low_share}
use Rattle.shares.specs.Test.{excess, demand, passes, division_of, virtual_deadline}
use Rattle.basics.specs.Order.{least_by}
use Rattle.allocation.specs.Choice.{low_options, pairs_within, high_options, options_of, fits, fitting, chosen}
use Rattle.shares.specs.Totals.{share_at}
use Rattle.sheet.specs.declared.task.TaskSet.{TaskSet}
use Rattle.allocation.specs.Blocks.{offset_in}
use Rattle.keeping.specs.Kept.{low_numbers, holdable, first_held, typical_share_at, left_over, kept_tasks, kept_share, with_kept}
use Rattle.allocation.specs.Allocation.{chosen_for, share_answer, choice_answer, allocation_of, allocations_of, allocation_at, allocation_answer, allocations_for, allocated_of, shares_with, shares_of}
use Rattle.allocation.specs.declared.allocate.Allocation.{Allocation}
use Rattle.allocation.specs.Rounded.{Rounded}
use Rattle.allocation.proofs.Rounding.{sheet_rounded}
use Rattle.allocation.proofs.Worked.{pair, on, ab}
use Rattle.planner.specs.Plan.{block_bytes, virtual_bytes, remainder_bytes, plan_bytes, plan_answer, planned}
use Rattle.std.specs.Prelude.{Ok, Err}
use Rattle.sheet.specs.declared.refusal.Refusal.TheVariants.{NoShare, NoFit, ShortBuffer}

-- The sheet of a high task with V = 600 at typical share 1 (D 900, CN 600, CO 1000, LN and LO 200) and of a low task
-- with the share 2, a node each, on M processors.
abbrev pub sheet_on : ℕ → List ℕ
sheet_on M =
    M
    ∷ 2
    ∷ 10 ∷ 0 ∷ 16 ∷ 0 ∷ 26 ∷ 0 ∷ 16 ∷ 0
    ∷ 1 ∷ 1 ∷ 132 ∷ 3 ∷ 88 ∷ 2 ∷ 232 ∷ 3 ∷ 200 ∷ 0 ∷ 200 ∷ 0 ∷ 0 ∷ 0 ∷ 0 ∷ 0
    ∷ 0 ∷ 1 ∷ 18 ∷ 0 ∷ 30 ∷ 0 ∷ 30 ∷ 0 ∷ 6 ∷ 0 ∷ 6 ∷ 0 ∷ 0 ∷ 0 ∷ 0 ∷ 0 ∷ []

-- Their plan: A has (1, 2) and V 9, with nothing left; B has (3, 4) and V 6, with 1 left.
abbrev pub plan_ab : List ℕ
plan_ab = typical ++ (critical ++ (virtuals ++ remainders))
  where
    typical : List ℕ
    typical = 0 ∷ 1 ∷ 1 ∷ 3 ∷ []

    critical : List ℕ
    critical = 0 ∷ 2 ∷ 2 ∷ 4 ∷ []

    virtuals : List ℕ
    virtuals = 9 ∷ 0 ∷ 0 ∷ 0 ∷ 6 ∷ 0 ∷ 0 ∷ 0 ∷ []

    remainders : List ℕ
    remainders = 0 ∷ 1 ∷ []

-- What is fixed for three tasks with the shares (1, 3), (2, 2) and (2, 0).
abbrev three : List Allocation
three = allocations_of (record { processors = 64; count = 3; tasks = [] }) (pair 1 3 ∷ pair 2 2 ∷ pair 2 0 ∷ [])

-- The plan of a task set, with the shares that its tasks get.
abbrev plan_for : TaskSet → List ℕ
plan_for set = plan_bytes set.count (allocations_of set (shares_of set))

pub record Worked : Type 0 where
  -- S5.4: the blocks of three tasks, the last of which has none in critical mode.
  pub typical_blocks : block_bytes false 3 three ≡ 0 ∷ 1 ∷ 1 ∷ 2 ∷ 3 ∷ 2 ∷ []
  pub critical_blocks : block_bytes true 3 three ≡ 0 ∷ 3 ∷ 3 ∷ 2 ∷ 5 ∷ 0 ∷ []
  -- S1.1: a number of four bytes has its lowest byte first.
  pub word : u32_bytes 600 ≡ 88 ∷ 2 ∷ 0 ∷ 0 ∷ []
  pub word_low : u32_bytes 65535 ≡ 255 ∷ 255 ∷ 0 ∷ 0 ∷ []
  pub word_high : u32_bytes 65536 ≡ 0 ∷ 0 ∷ 1 ∷ 0 ∷ []
  pub word_most : u32_bytes 1000000 ≡ 64 ∷ 66 ∷ 15 ∷ 0 ∷ []
  -- S3.3: a sheet's refusals come in the order 7, 8, 9, also where the buffer has no byte.
  pub first_seven : plan_answer (sheet_on 1) 0 ≡ Err (NoShare 0)
  pub then_eight : plan_answer (sheet_on 2) 0 ≡ Err NoFit
  pub then_nine : plan_answer (sheet_on 3) 17 ≡ Err ShortBuffer
  pub room_enough : plan_answer (sheet_on 3) 18 ≡ Ok tt
  -- S5.5: typical blocks, critical blocks, V, remainders; the byte behind them stays. A refusal leaves the buffer as it
  -- was.
  pub bytes_of_three : planned (sheet_on 3) (replicate 19 7)
      ≡ 0 ∷ 1 ∷ 1 ∷ 2 ∷ 0 ∷ 2 ∷ 2 ∷ 0 ∷ 88 ∷ 2 ∷ 0 ∷ 0 ∷ 0 ∷ 0 ∷ 0 ∷ 0 ∷ 0 ∷ 0 ∷ 7 ∷ []
  -- S5.6: on 4 processors the high task leaves two over, and the low one is kept.
  pub plan_kept : planned (sheet_on 4) (replicate 19 7)
      ≡ 0 ∷ 1 ∷ 1 ∷ 2 ∷ 0 ∷ 2 ∷ 2 ∷ 2 ∷ 88 ∷ 2 ∷ 0 ∷ 0 ∷ 0 ∷ 0 ∷ 0 ∷ 0 ∷ 0 ∷ 0 ∷ 7 ∷ []
  pub left_alone : planned (sheet_on 4) (replicate 17 7) ≡ replicate 17 7
  -- S11.11: A and B on 8 and on 6 processors.
  pub on_eight : plan_for (on 8 ab) ≡ plan_ab
  pub on_six : plan_for (on 6 ab) ≡ plan_ab
  -- S11.14: a sheet of 62 bytes is planned, its second task is high; its plan, and refusal 9 for a buffer that is a
  -- byte short.
  pub sheet_accepted : allocation_answer (sheet_abe 8) ≡ Ok tt
  pub sheet_count : (task_set_of (sheet_abe 8)).count ≡ 3
  pub sheet_high : is_low (task_in (task_set_of (sheet_abe 8)) 1).level ≡ false
  pub sheet_plan : planned (sheet_abe 8) (replicate 27 255)
      ≡ 0 ∷ 1 ∷ 1 ∷ 2 ∷ 3 ∷ 5 ∷ 0 ∷ 2 ∷ 2 ∷ 6 ∷ 8 ∷ 0 ∷ 9 ∷ 0 ∷ 0 ∷ 0 ∷ 7 ∷ 0 ∷ 0 ∷ 0 ∷ 0 ∷ 0 ∷ 0 ∷ 0 ∷ 0 ∷ 1 ∷ 0 ∷ []
  pub sheet_room : plan_answer (sheet_abe 8) 26 ≡ Err ShortBuffer
  -- S2.6: a wide record beside one that is not. V is 146,666, which takes three of its four bytes, and 2 is left.
  pub dye_plan : planned dye_sheet (replicate 18 255)
      ≡ 0 ∷ 3 ∷ 3 ∷ 2 ∷ 0 ∷ 3 ∷ 3 ∷ 2 ∷ 234 ∷ 60 ∷ 2 ∷ 0 ∷ 0 ∷ 0 ∷ 0 ∷ 0 ∷ 2 ∷ 0 ∷ []
  pub dye_room : plan_answer dye_sheet 17 ≡ Err ShortBuffer

pub worked : Worked
unfolding byte_at u16_at u32_at processors_of count_of offset_of length_of place_of cells_from level_at nodes_at figure_at figures_at masks_at task_at zero_task tasks_below task_set_of task_in level_lawful shape_lawful in_range in_order low_lawful figures_lawful mask_lawful all_below masks_lawful is_heavy task_answer first_over header_lawful header_answer place_answer end_answer shape_answer record_answer read_answer read_of virtual_deadline_of remainder_of is_low ceil_div low_share has_low_share excess demand passes division_of virtual_deadline range low_options pairs_within high_options options_of fits least_by fitting chosen offset_in chosen_for share_answer choice_answer low_numbers holdable first_held typical_share_at left_over kept_tasks kept_share with_kept shares_with shares_of share_at allocation_of allocations_of allocation_at allocation_answer allocations_for allocated_of block_bytes virtual_bytes remainder_bytes plan_bytes plan_answer planned is_high figure_limit bytes_before_masks u32_bytes is_wide
worked =
    record {
      typical_blocks = refl;
      critical_blocks = refl;
      word = refl;
      word_low = refl;
      word_high = refl;
      word_most = refl;
      first_seven = refl;
      then_eight = refl;
      then_nine = refl;
      room_enough = refl;
      bytes_of_three = refl;
      plan_kept = refl;
      left_alone = refl;
      on_eight = refl;
      on_six = refl;
      sheet_accepted = refl;
      sheet_count = refl;
      sheet_high = refl;
      sheet_plan = refl;
      sheet_room = refl;
      dye_plan = refl;
      dye_room = refl;
    }

-- There is a sheet with a high task for which `sheet_rounded` holds: B of S11.14, with 2·(7 − 4) + 1 = 11 − 4.
pub some_rounded : Rounded (task_in (task_set_of (sheet_abe 8)) 1) (allocation_at (allocations_for (sheet_abe 8)) 1)
some_rounded = sheet_rounded (sheet_abe 8) worked.sheet_accepted 1 (omega (arith, worked.sheet_count))
