-- Worked facts by computation: whole sheets of literal bytes, refused for each cause or read.
use Prim.Native.Nat.{ℕ, zero, suc, ◌+◌, ◌*◌, ◌/◌, ◌%◌}
use mathlib.Core.Path.{◌≡◌, refl}
use mathlib.Core.List.{List, [], ◌∷◌, ◌++◌}
use lib.ListN.{length, replicate}
use Rattle.std.specs.Prelude.{Ok, Err}
use Rattle.sheet.specs.declared.refusal.Refusal.TheVariants.{BadHeader, BadPlace, BadRecord, BadFigure, BadMask, NotHeavy}
use Rattle.sheet.specs.declared.task.Task.{Task}
use Rattle.sheet.specs.Refusal.{first_over}
use Rattle.basics.specs.Numbers.{byte_at, u16_at, u32_at}
use Rattle.basics.specs.Lists.{cells_from, all_below}
use Rattle.sheet.specs.Format.{processors_of, count_of, offset_of, length_of, level_at, nodes_at, figure_at, figures_at, masks_at, task_at, zero_task, tasks_below, task_set_of, zero_task_set, place_of}
use Rattle.sheet.specs.Level.{level_lawful, bytes_before_masks, figure_limit, is_high, is_wide}
use Rattle.sheet.specs.Rules.{shape_lawful, in_range, in_order, low_lawful, figures_lawful, mask_lawful, masks_lawful, is_heavy, task_answer}
use Rattle.sheet.proofs.Worked.{figures}
use Rattle.reader.specs.Reading.{header_lawful, header_answer, place_answer, end_answer, shape_answer, record_answer, read_of, read_answer, set_of}

-- A record of one node with small figures: level, D, CN, CO, LN, LO and the mask.
abbrev small : ℕ → ℕ → ℕ → ℕ → ℕ → ℕ → ℕ → List ℕ
small level d cn co ln lo mask =
    level ∷ 1 ∷ d ∷ 0 ∷ cn ∷ 0 ∷ co ∷ 0 ∷ ln ∷ 0 ∷ lo ∷ 0 ∷ mask ∷ 0 ∷ 0 ∷ 0 ∷ []

-- A wide record of one node: level, the figures as four bytes each, and a mask of 0.
abbrev wide : ℕ → List ℕ → List ℕ
wide level figures = level ∷ 1 ∷ figures ++ 0 ∷ 0 ∷ 0 ∷ 0 ∷ []

-- Figures of four bytes: D 400,000, CN 300,000, CO by its three lower bytes, LN 70,000 and LO 200,000.
abbrev dyeing : ℕ → ℕ → ℕ → List ℕ
dyeing x y z =
    128 ∷ 26 ∷ 6 ∷ 0 ∷ 224 ∷ 147 ∷ 4 ∷ 0 ∷ x ∷ y ∷ z ∷ 0 ∷ 112 ∷ 17 ∷ 1 ∷ 0 ∷ 64 ∷ 13 ∷ 3 ∷ 0 ∷ []

-- The tasks of S11, with a node each.
abbrev task_a : List ℕ
task_a = small 1 45 9 52 4 20 0

abbrev task_b : List ℕ
task_b = small 1 54 11 80 4 42 0

abbrev task_e : List ℕ
task_e = small 0 18 66 66 6 6 0

-- A task of one node, as it is read.
abbrev single : ℕ → ℕ → ℕ → ℕ → ℕ → ℕ → Task
single level d cn co ln lo =
    record { level = level; nodes = 1; figures = figures d cn co ln lo; predecessors = replicate 32 0 }

-- A sheet of one task on 8 processors whose record has the given length, and one of two records of 16 bytes.
abbrev alone : ℕ → List ℕ → List ℕ
alone bytes record₀ = 8 ∷ 1 ∷ 6 ∷ 0 ∷ bytes ∷ 0 ∷ record₀

abbrev both : List ℕ → List ℕ → List ℕ
both record₀ record₁ = 8 ∷ 2 ∷ 10 ∷ 0 ∷ 16 ∷ 0 ∷ 26 ∷ 0 ∷ 16 ∷ 0 ∷ record₀ ++ record₁

-- S11.14: the sheet of A, B and E on M processors.
abbrev pub sheet_abe : ℕ → List ℕ
sheet_abe M = M ∷ 3 ∷ 14 ∷ 0 ∷ 16 ∷ 0 ∷ 30 ∷ 0 ∷ 16 ∷ 0 ∷ 46 ∷ 0 ∷ 16 ∷ 0 ∷ task_a ++ task_b ++ task_e

-- A dye line on 5 processors: a high task in the wide form, with CO 800,000, and a low one that is not wide: D 18, C
-- 30, L 6.
abbrev pub dye_sheet : List ℕ
dye_sheet = 5 ∷ 2 ∷ 10 ∷ 0 ∷ 26 ∷ 0 ∷ 36 ∷ 0 ∷ 16 ∷ 0 ∷ wide 17 (dyeing 0 53 12) ++ small 0 18 30 30 6 6 0

-- A sheet of n times the same task, on 8 processors: the directory from an offset on, and the records.
unfoldable pub entries : ℕ → ℕ → List ℕ
entries offset zero = []
entries offset (suc n) = offset % 256 ∷ offset / 256 ∷ 16 ∷ 0 ∷ entries (offset + 16) n

unfoldable pub copies : ℕ → List ℕ
copies zero = []
copies (suc n) = task_a ++ copies n

abbrev many : ℕ → List ℕ
many n = 8 ∷ n ∷ entries (2 + 4 * n) n ++ copies n

pub record Worked : Type 0 where
  -- S9.1: fewer than two bytes, and a directory that the sheet cuts short.
  pub empty : read_answer [] ≡ Err BadHeader
  pub one_byte : read_answer (8 ∷ []) ≡ Err BadHeader
  pub cut_short : read_answer (8 ∷ 1 ∷ 6 ∷ 0 ∷ 16 ∷ []) ≡ Err BadHeader
  -- S2.1: M from 1 to 64.
  pub no_processor : read_answer (0 ∷ 1 ∷ 6 ∷ 0 ∷ 16 ∷ 0 ∷ task_a) ≡ Err BadHeader
  pub one_processor : read_answer (1 ∷ 1 ∷ 6 ∷ 0 ∷ 16 ∷ 0 ∷ task_a) ≡ Ok tt
  pub most_processors : read_answer (64 ∷ 1 ∷ 6 ∷ 0 ∷ 16 ∷ 0 ∷ task_a) ≡ Ok tt
  pub processors_above : read_answer (65 ∷ 1 ∷ 6 ∷ 0 ∷ 16 ∷ 0 ∷ task_a) ≡ Err BadHeader
  -- S2.2: n from 1 to 16.
  pub zero_tasks : read_answer (8 ∷ 0 ∷ []) ≡ Err BadHeader
  pub one_task : read_answer (many 1) ≡ Ok tt
  pub most_tasks : read_answer (many 16) ≡ Ok tt
  pub tasks_above : read_answer (many 17) ≡ Err BadHeader
  -- S9.2: the first record out of place, and the second.
  pub first_place : read_answer (8 ∷ 1 ∷ 7 ∷ 0 ∷ 16 ∷ 0 ∷ 0 ∷ task_a) ≡ Err (BadPlace 0)
  pub second_place : read_answer (8 ∷ 2 ∷ 10 ∷ 0 ∷ 16 ∷ 0 ∷ 27 ∷ 0 ∷ 16 ∷ 0 ∷ task_a ++ 0 ∷ task_b) ≡ Err (BadPlace 1)
  -- S9.2: the last record ends before the sheet, or past it: a fault of the last task.
  pub bytes_behind : read_answer (both task_a task_b ++ 0 ∷ []) ≡ Err (BadPlace 1)
  pub end_past : read_answer (8 ∷ 2 ∷ 10 ∷ 0 ∷ 16 ∷ 0 ∷ 26 ∷ 0 ∷ 17 ∷ 0 ∷ task_a ++ task_b) ≡ Err (BadPlace 1)
  -- S9.3: the level, the number of nodes, the length; a record of one byte.
  pub level_two : read_answer (alone 16 (small 2 45 9 52 4 20 0)) ≡ Err (BadRecord 0)
  pub no_node : read_answer (alone 12 (1 ∷ 0 ∷ 45 ∷ 0 ∷ 9 ∷ 0 ∷ 52 ∷ 0 ∷ 4 ∷ 0 ∷ 20 ∷ 0 ∷ [])) ≡ Err (BadRecord 0)
  pub most_nodes : read_answer (alone 140 (1 ∷ 32 ∷ 45 ∷ 0 ∷ 9 ∷ 0 ∷ 52 ∷ 0 ∷ 4 ∷ 0 ∷ 20 ∷ 0 ∷ replicate 128 0)) ≡ Ok tt
  pub nodes_above : read_answer (alone 144 (1 ∷ 33 ∷ 45 ∷ 0 ∷ 9 ∷ 0 ∷ 52 ∷ 0 ∷ 4 ∷ 0 ∷ 20 ∷ 0 ∷ replicate 132 0)) ≡ Err (BadRecord 0)
  pub length_long : read_answer (alone 17 (task_a ++ 0 ∷ [])) ≡ Err (BadRecord 0)
  pub record_of_one_byte : read_answer (alone 1 (1 ∷ [])) ≡ Err (BadRecord 0)
  -- S9.3: each form has its own length; a level of 18, and a wide level on a record that is not wide.
  pub wide_shape : read_answer (alone 26 (wide 17 (dyeing 0 53 12))) ≡ Ok tt
  pub wide_short : read_answer (alone 16 (small 17 45 9 52 4 20 0)) ≡ Err (BadRecord 0)
  pub narrow_long : read_answer (alone 26 (wide 1 (dyeing 0 53 12))) ≡ Err (BadRecord 0)
  pub level_eighteen : read_answer (alone 26 (wide 18 (dyeing 0 53 12))) ≡ Err (BadRecord 0)
  -- S9.4: in the wide form CO of 1,000,000 is the greatest, 1,000,001 is not lawful; a low task with CN below CO.
  pub wide_greatest : read_answer (alone 26 (wide 17 (dyeing 64 66 15))) ≡ Ok tt
  pub wide_above : read_answer (alone 26 (wide 17 (dyeing 65 66 15))) ≡ Err (BadFigure 0)
  pub wide_low_figures : read_answer (alone 26 (wide 16 (dyeing 0 53 12))) ≡ Err (BadFigure 0)
  -- S9.4: CO of 10,000 is the greatest, 10,001 is not lawful; D of 0; CN above CO; a low task with CN below CO.
  pub figure_greatest : read_answer (alone 16 (1 ∷ 1 ∷ 15 ∷ 39 ∷ 9 ∷ 0 ∷ 16 ∷ 39 ∷ 4 ∷ 0 ∷ 20 ∷ 0 ∷ 0 ∷ 0 ∷ 0 ∷ 0 ∷ [])) ≡ Ok tt
  pub figure_above : read_answer (alone 16 (1 ∷ 1 ∷ 15 ∷ 39 ∷ 9 ∷ 0 ∷ 17 ∷ 39 ∷ 4 ∷ 0 ∷ 20 ∷ 0 ∷ 0 ∷ 0 ∷ 0 ∷ 0 ∷ [])) ≡ Err (BadFigure 0)
  pub figure_zero : read_answer (both task_a (small 1 0 9 52 4 20 0)) ≡ Err (BadFigure 1)
  pub figure_order : read_answer (alone 16 (small 1 45 53 52 4 20 0)) ≡ Err (BadFigure 0)
  pub low_figures : read_answer (alone 16 (small 0 18 65 66 6 6 0)) ≡ Err (BadFigure 0)
  -- S9.5: node 0 before itself.
  pub own_bit : read_answer (both task_a (small 1 45 9 52 4 20 1)) ≡ Err (BadMask 1)
  -- S9.6: CO equal to D.
  pub too_light : read_answer (both task_a (small 1 52 9 52 4 20 0)) ≡ Err (NotHeavy 1)
  -- S3.3: causes 4 and 5 in one task; causes in both tasks; a place before any record; the header before all.
  pub lower_first : read_answer (alone 16 (small 1 0 9 52 4 20 1)) ≡ Err (BadFigure 0)
  pub first_task : read_answer (both (small 1 52 9 52 4 20 0) (small 2 45 9 52 4 20 0)) ≡ Err (NotHeavy 0)
  pub places_first : read_answer (both (small 2 45 9 52 4 20 0) task_b ++ 0 ∷ []) ≡ Err (BadPlace 1)
  pub header_first : read_answer (65 ∷ 1 ∷ 7 ∷ 0 ∷ 16 ∷ 0 ∷ small 2 45 9 52 4 20 0) ≡ Err BadHeader
  -- S11.14: the sheet has 62 bytes, and this is what it says.
  pub whole_length : length (sheet_abe 8) ≡ 62
  pub whole : read_of (sheet_abe 8)
      ≡ Ok
      (record {
        processors = 8;
        count = 3;
        tasks =
            single 1 45 9 52 4 20 ∷ single 1 54 11 80 4 42 ∷ single 0 18 66 66 6 6 ∷ replicate 13 zero_task;
      })
  -- S2.6: both forms in one sheet.
  pub mixed : read_of dye_sheet
      ≡ Ok
      (record {
        processors = 5;
        count = 2;
        tasks = single 17 400000 300000 800000 70000 200000 ∷ single 0 18 30 30 6 6 ∷ replicate 14 zero_task;
      })
  pub mixed_accepted : read_answer dye_sheet ≡ Ok tt
  pub refused_whole : read_of (both task_a (small 1 52 9 52 4 20 0)) ≡ Err (NotHeavy 1)
  -- S3.5: zeros beside a refusal.
  pub refused : set_of (read_of (both task_a (small 1 52 9 52 4 20 0))) ≡ record { processors = 0; count = 0; tasks = replicate 16 zero_task }

pub worked : Worked
unfolding first_over byte_at u16_at u32_at processors_of count_of offset_of length_of place_of cells_from level_at nodes_at figure_at figures_at masks_at task_at tasks_below task_set_of zero_task_set level_lawful shape_lawful in_range in_order low_lawful figures_lawful mask_lawful all_below masks_lawful is_heavy task_answer header_lawful header_answer place_answer end_answer shape_answer record_answer read_answer read_of entries copies is_high figure_limit bytes_before_masks is_wide
worked =
    record {
      empty = refl;
      one_byte = refl;
      cut_short = refl;
      no_processor = refl;
      one_processor = refl;
      most_processors = refl;
      processors_above = refl;
      zero_tasks = refl;
      one_task = refl;
      most_tasks = refl;
      tasks_above = refl;
      first_place = refl;
      second_place = refl;
      bytes_behind = refl;
      end_past = refl;
      level_two = refl;
      no_node = refl;
      most_nodes = refl;
      nodes_above = refl;
      length_long = refl;
      record_of_one_byte = refl;
      wide_shape = refl;
      wide_short = refl;
      narrow_long = refl;
      level_eighteen = refl;
      wide_greatest = refl;
      wide_above = refl;
      wide_low_figures = refl;
      figure_greatest = refl;
      figure_above = refl;
      figure_zero = refl;
      figure_order = refl;
      low_figures = refl;
      own_bit = refl;
      too_light = refl;
      lower_first = refl;
      first_task = refl;
      places_first = refl;
      header_first = refl;
      whole_length = refl;
      whole = refl;
      mixed = refl;
      mixed_accepted = refl;
      refused_whole = refl;
      refused = refl;
    }
