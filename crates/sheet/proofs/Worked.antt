-- Worked facts by computation: numbers, records and the limits of the rules, on literal bytes and figures.
use Prim.Native.Nat.{ℕ}
use mathlib.Core.Path.{◌≡◌, refl}
use mathlib.Core.Bool.{true, false}
use mathlib.Core.List.{List, [], ◌∷◌, ◌++◌}
use native.Mathlib.Omega.{arith}
use lib.ListN.{length, replicate}
use Rattle.std.specs.Prelude.{Ok, Err, ⊤, map}
use Rattle.sheet.specs.declared.refusal.Refusal.{Refusal}
use Rattle.sheet.specs.declared.refusal.Refusal.TheVariants.{BadHeader, BadPlace, BadRecord, BadFigure, BadMask, NotHeavy, NoShare, NoFit, ShortBuffer, NotSound, UnknownTask, LowInCritical, TooEarly, WrongCount, NotRunning, WrongLength, BadText, BadGraph, FigureOutside}
use Rattle.sheet.specs.declared.task.Figures.{Figures}
use Rattle.sheet.specs.declared.task.Task.{Task}
use Rattle.sheet.specs.Refusal.{number, number_of, task_of}
use Rattle.basics.specs.Numbers.{byte_at, u16_at, u32_at, u16_bytes, u32_bytes}
use Rattle.basics.specs.Lists.{cells_from, all_below}
use Rattle.sheet.specs.Format.{level_at, nodes_at, figure_at, figures_at, masks_at, task_at}
use Rattle.sheet.specs.Encoding.{figure_bytes, masks_bytes, record_bytes}
use Rattle.sheet.specs.Laws.{Encodable}
use Rattle.sheet.specs.Level.{level_lawful, bytes_before_masks, figure_limit, is_high, is_wide}
use Rattle.sheet.specs.Rules.{shape_lawful, in_range, in_order, low_lawful, figures_lawful, mask_lawful, masks_lawful, is_heavy, task_answer}

-- Figures in the order of a record: D, CN, CO, LN, LO.
abbrev pub figures : ℕ → ℕ → ℕ → ℕ → ℕ → Figures
figures d cn co ln lo =
    record {
      deadline = d;
      nominal = record { work = cn; span = ln };
      overload = record { work = co; span = lo };
    }

-- S9: the refusals in the order of the table; those that name a task name 7.
abbrev refusals : List Refusal
refusals =
    BadHeader ∷ BadPlace 7 ∷ BadRecord 7 ∷ BadFigure 7 ∷ BadMask 7 ∷ NotHeavy 7 ∷ NoShare 7 ∷ NoFit ∷ ShortBuffer ∷ NotSound
    ∷ UnknownTask ∷ LowInCritical 7 ∷ TooEarly 7 ∷ WrongCount ∷ NotRunning 7 ∷ WrongLength ∷ BadText ∷ BadGraph ∷ FigureOutside ∷ []

-- The task A of S11 with three nodes and the given masks.
abbrev task_a : List ℕ → Task
task_a masks = record { level = 1; nodes = 3; figures = figures 45 9 52 4 20; predecessors = masks }

-- The same with D and CO equal.
abbrev light_a : List ℕ → Task
light_a masks = record { level = 1; nodes = 3; figures = figures 52 9 52 4 20; predecessors = masks }

-- The same with a deadline of 0.
abbrev broken_a : List ℕ → Task
broken_a masks = record { level = 1; nodes = 3; figures = figures 0 9 52 4 20; predecessors = masks }

-- A record of one node whose bytes all differ from place 2 on.
abbrev one_node : List ℕ
one_node = 1 ∷ 1 ∷ 1 ∷ 2 ∷ 3 ∷ 4 ∷ 5 ∷ 6 ∷ 7 ∷ 8 ∷ 9 ∷ 10 ∷ 11 ∷ 12 ∷ 13 ∷ 14 ∷ []

-- A record of three nodes, the last with both others as predecessors.
abbrev three_nodes : List ℕ
three_nodes =
    0 ∷ 3 ∷ 18 ∷ 0 ∷ 66 ∷ 0 ∷ 66 ∷ 0 ∷ 6 ∷ 0 ∷ 6 ∷ 0 ∷ 0 ∷ 0 ∷ 0 ∷ 0 ∷ 1 ∷ 0 ∷ 0 ∷ 0 ∷ 3 ∷ 0 ∷ 0 ∷ 0 ∷ []

-- What it says: the task E of S11 with these masks.
abbrev task_e : Task
task_e = record { level = 0; nodes = 3; figures = figures 18 66 66 6 6; predecessors = 0 ∷ 1 ∷ 3 ∷ replicate 29 0 }

-- The task of a dye line with a node, in the wide form: figures above 65,535, which need more than two bytes.
abbrev dye_line : Task
dye_line = record { level = 17; nodes = 1; figures = figures 400000 300000 800000 70000 200000; predecessors = replicate 32 0 }

-- Its record: five figures of four bytes, and the mask behind them.
abbrev wide_node : List ℕ
wide_node =
    17 ∷ 1 ∷ 128 ∷ 26 ∷ 6 ∷ 0 ∷ 224 ∷ 147 ∷ 4 ∷ 0 ∷ 0 ∷ 53 ∷ 12 ∷ 0 ∷ 112 ∷ 17 ∷ 1 ∷ 0 ∷ 64 ∷ 13 ∷ 3 ∷ 0 ∷ 0 ∷ 0 ∷ 0 ∷ 0 ∷ []

-- A task that a record can hold, in the wide form.
encodable : Encodable dye_line
unfolding is_wide
encodable =
    record {
      level = omega arith;
      nodes = omega arith;
      deadline = omega arith;
      nominal_work = omega arith;
      overload_work = omega arith;
      nominal_span = omega arith;
      overload_span = omega arith;
      masks = refl;
      masks_fit = refl;
      masks_none = refl;
    }

pub record Worked : Type 0 where
  -- S9: each refusal's number, and S3.1: the task that it names, 255 for none.
  pub refusal_numbers : map (λ r. number r) refusals
      ≡ 1 ∷ 2 ∷ 3 ∷ 4 ∷ 5 ∷ 6 ∷ 7 ∷ 8 ∷ 9 ∷ 10 ∷ 11 ∷ 12 ∷ 13 ∷ 14 ∷ 15 ∷ 16 ∷ 17 ∷ 18 ∷ 19 ∷ []
  pub refusal_tasks : map (λ r. task_of {A = ⊤} (Err r)) refusals
      ≡ 255 ∷ 7 ∷ 7 ∷ 7 ∷ 7 ∷ 7 ∷ 7 ∷ 255 ∷ 255 ∷ 255 ∷ 255 ∷ 7 ∷ 7 ∷ 255 ∷ 7 ∷ 255 ∷ 255 ∷ 255 ∷ 255 ∷ []
  -- S1.1: two and four bytes, the lowest first; a byte past the end is 0.
  pub two_bytes : u16_at (7 ∷ 1 ∷ 2 ∷ []) 1 ≡ 513
  pub four_bytes : u32_at (7 ∷ 1 ∷ 2 ∷ 3 ∷ 4 ∷ []) 1 ≡ 67305985
  pub highest : u32_at (255 ∷ 255 ∷ 255 ∷ 255 ∷ []) 0 ≡ 4294967295
  pub past_end : u16_at (7 ∷ 1 ∷ []) 1 ≡ 1
  -- S2.6: level, k, D, CN, CO, LN, LO and the mask, from the record's start on.
  pub places : task_at one_node 0
      ≡ record {
        level = 1;
        nodes = 1;
        figures = figures 513 1027 1541 2055 2569;
        predecessors = 235736075 ∷ replicate 31 0;
      }
  pub places_later : task_at (9 ∷ 9 ∷ 9 ∷ one_node ++ 9 ∷ []) 3 ≡ task_at one_node 0
  -- The mask of each node, and 0 for those that are not there, whatever bytes follow.
  pub masks : task_at (three_nodes ++ replicate 8 255) 0 ≡ task_e
  -- A record written, and read where other bytes stand around it.
  pub written : record_bytes task_e ≡ three_nodes
  pub written_length : length (record_bytes task_e) ≡ 24
  pub written_read : task_at (5 ∷ 5 ∷ (record_bytes task_e ++ 5 ∷ [])) 2 ≡ task_e
  -- S2.6: the same in the wide form.
  pub wide_places : task_at wide_node 0 ≡ dye_line
  pub wide_later : task_at (9 ∷ 9 ∷ 9 ∷ wide_node ++ 9 ∷ []) 3 ≡ dye_line
  pub wide_written : record_bytes dye_line ≡ wide_node
  pub wide_length : length (record_bytes dye_line) ≡ 26
  pub written_two : u16_bytes 513 ≡ 1 ∷ 2 ∷ []
  pub written_four : u32_bytes 67305985 ≡ 1 ∷ 2 ∷ 3 ∷ 4 ∷ []
  -- S2.7: the level.
  pub level_low : level_lawful 0 ≡ true
  pub level_high : level_lawful 1 ≡ true
  pub level_two : level_lawful 2 ≡ false
  pub level_fifteen : level_lawful 15 ≡ false
  pub level_wide_low : level_lawful 16 ≡ true
  pub level_wide_high : level_lawful 17 ≡ true
  pub level_eighteen : level_lawful 18 ≡ false
  -- S2.6: high and low, in both forms.
  pub low : is_high 0 ≡ false
  pub high : is_high 1 ≡ true
  pub wide_low : is_high 16 ≡ false
  pub wide_high : is_high 17 ≡ true
  pub level_refused : shape_lawful 2 1 16 ≡ false
  -- S2.7: the number of nodes, each with the length that goes with it.
  pub shape_of_one_node : shape_lawful 0 1 16 ≡ true
  pub most_nodes : shape_lawful 1 32 140 ≡ true
  pub nodes_above : shape_lawful 1 33 144 ≡ false
  pub no_node : shape_lawful 1 0 12 ≡ false
  -- S2.7: the length.
  pub length_short : shape_lawful 1 3 23 ≡ false
  pub length_right : shape_lawful 1 3 24 ≡ true
  pub length_long : shape_lawful 1 3 25 ≡ false
  pub one_byte : shape_lawful 0 1 1 ≡ false
  -- S2.7: each form has its own length.
  pub wide_length_right : shape_lawful 17 3 34 ≡ true
  pub wide_length_short : shape_lawful 17 3 33 ≡ false
  pub narrow_length_wide : shape_lawful 17 3 24 ≡ false
  pub wide_length_narrow : shape_lawful 1 3 34 ≡ false
  pub wide_most_nodes : shape_lawful 16 32 150 ≡ true
  -- S2.9: each figure from 1 to 10,000.
  pub least : in_range 1 (figures 1 1 1 1 1) ≡ true
  pub greatest : in_range 1 (figures 10000 10000 10000 10000 10000) ≡ true
  pub deadline_zero : in_range 1 (figures 0 1 1 1 1) ≡ false
  pub deadline_above : in_range 1 (figures 10001 1 1 1 1) ≡ false
  pub nominal_work_zero : in_range 1 (figures 1 0 1 1 1) ≡ false
  pub nominal_work_above : in_range 1 (figures 1 10001 1 1 1) ≡ false
  pub overload_work_zero : in_range 1 (figures 1 1 0 1 1) ≡ false
  pub overload_work_above : in_range 1 (figures 1 1 10001 1 1) ≡ false
  pub nominal_span_zero : in_range 1 (figures 1 1 1 0 1) ≡ false
  pub nominal_span_above : in_range 1 (figures 1 1 1 10001 1) ≡ false
  pub overload_span_zero : in_range 1 (figures 1 1 1 1 0) ≡ false
  pub overload_span_above : in_range 1 (figures 1 1 1 1 10001) ≡ false
  -- S2.9: each figure from 1 to 1,000,000 in the wide form.
  pub wide_least : in_range 17 (figures 1 1 1 1 1) ≡ true
  pub wide_above_narrow : in_range 17 (figures 10001 10001 10001 10001 10001) ≡ true
  pub wide_greatest : in_range 17 (figures 1000000 1000000 1000000 1000000 1000000) ≡ true
  pub wide_low_greatest : in_range 16 (figures 1000000 1000000 1000000 1000000 1000000) ≡ true
  pub wide_deadline_zero : in_range 17 (figures 0 1 1 1 1) ≡ false
  pub wide_deadline_above : in_range 17 (figures 1000001 1 1 1 1) ≡ false
  pub wide_overload_span_above : in_range 16 (figures 1 1 1 1 1000001) ≡ false
  -- S2.10: each order, with equality and one past it.
  pub order_equal : in_order (figures 1 8 8 8 8) ≡ true
  pub order_growth : in_order (figures 1 8 12 4 8) ≡ true
  pub nominal_span_over : in_order (figures 1 8 12 9 9) ≡ false
  pub overload_span_over : in_order (figures 1 8 8 8 9) ≡ false
  pub work_falls : in_order (figures 1 9 8 4 4) ≡ false
  pub span_falls : in_order (figures 1 8 12 5 4) ≡ false
  pub growth_over : in_order (figures 1 8 12 4 9) ≡ false
  -- S2.11: a low task's figures are equal in pairs; a high task's need not be.
  pub low_equal : low_lawful 0 (figures 18 66 66 6 6) ≡ true
  pub low_work : low_lawful 0 (figures 18 65 66 6 6) ≡ false
  pub low_span : low_lawful 0 (figures 18 66 66 5 6) ≡ false
  pub high_free : low_lawful 1 (figures 18 65 66 5 6) ≡ true
  -- S2.12: node 2 may have the nodes 0 and 1 before it, not itself, nor a later one; node 0 none.
  pub mask_lower : mask_lawful (0 ∷ 0 ∷ 3 ∷ []) 2 ≡ true
  pub mask_itself : mask_lawful (0 ∷ 0 ∷ 4 ∷ []) 2 ≡ false
  pub mask_later : mask_lawful (0 ∷ 0 ∷ 9 ∷ []) 2 ≡ false
  pub mask_first : mask_lawful (1 ∷ []) 0 ≡ false
  pub mask_of_each : masks_lawful (0 ∷ 1 ∷ 3 ∷ []) 3 ≡ true
  pub mask_of_one : masks_lawful (0 ∷ 2 ∷ 3 ∷ []) 3 ≡ false
  -- S2.13: CO above D.
  pub heavy : is_heavy (figures 51 9 52 4 20) ≡ true
  pub too_light : is_heavy (figures 52 9 52 4 20) ≡ false
  -- S9.4, S9.5, S9.6 by themselves, and S3.3: of two the lower number is the answer.
  pub lawful : task_answer (task_a (0 ∷ 1 ∷ 3 ∷ [])) 7 ≡ Ok tt
  pub figures_broken : task_answer (broken_a (0 ∷ 1 ∷ 3 ∷ [])) 7 ≡ Err (BadFigure 7)
  pub mask_broken : task_answer (task_a (0 ∷ 1 ∷ 4 ∷ [])) 7 ≡ Err (BadMask 7)
  pub light : task_answer (light_a (0 ∷ 1 ∷ 3 ∷ [])) 7 ≡ Err (NotHeavy 7)
  pub figures-first : task_answer (broken_a (0 ∷ 1 ∷ 4 ∷ [])) 7 ≡ Err (BadFigure 7)
  pub mask_first_of_two : task_answer (light_a (0 ∷ 1 ∷ 4 ∷ [])) 7 ≡ Err (BadMask 7)
  -- S3.1: the two numbers of an answer.
  pub accepted_number : number_of {A = ⊤} (Ok tt) ≡ 0
  pub accepted_task : task_of {A = ⊤} (Ok tt) ≡ 255
  pub refused_number : number_of {A = ⊤} (Err (BadFigure 7)) ≡ 4
  pub refused_task : task_of {A = ⊤} (Err (BadFigure 7)) ≡ 7

worked : Worked
unfolding u16_bytes u32_bytes masks_bytes record_bytes byte_at u16_at u32_at cells_from level_at nodes_at figures_at masks_at task_at level_lawful shape_lawful in_range in_order low_lawful figures_lawful mask_lawful all_below masks_lawful is_heavy task_answer is_high figure_limit bytes_before_masks is_wide figure_at figure_bytes
worked =
    record {
      refusal_numbers = refl;
      refusal_tasks = refl;
      two_bytes = refl;
      four_bytes = refl;
      highest = refl;
      past_end = refl;
      places = refl;
      places_later = refl;
      masks = refl;
      written = refl;
      written_length = refl;
      written_read = refl;
      wide_places = refl;
      wide_later = refl;
      wide_written = refl;
      wide_length = refl;
      written_two = refl;
      written_four = refl;
      level_low = refl;
      level_high = refl;
      level_two = refl;
      level_fifteen = refl;
      level_wide_low = refl;
      level_wide_high = refl;
      level_eighteen = refl;
      low = refl;
      high = refl;
      wide_low = refl;
      wide_high = refl;
      level_refused = refl;
      shape_of_one_node = refl;
      most_nodes = refl;
      nodes_above = refl;
      no_node = refl;
      length_short = refl;
      length_right = refl;
      length_long = refl;
      one_byte = refl;
      wide_length_right = refl;
      wide_length_short = refl;
      narrow_length_wide = refl;
      wide_length_narrow = refl;
      wide_most_nodes = refl;
      least = refl;
      greatest = refl;
      deadline_zero = refl;
      deadline_above = refl;
      nominal_work_zero = refl;
      nominal_work_above = refl;
      overload_work_zero = refl;
      overload_work_above = refl;
      nominal_span_zero = refl;
      nominal_span_above = refl;
      overload_span_zero = refl;
      overload_span_above = refl;
      wide_least = refl;
      wide_above_narrow = refl;
      wide_greatest = refl;
      wide_low_greatest = refl;
      wide_deadline_zero = refl;
      wide_deadline_above = refl;
      wide_overload_span_above = refl;
      order_equal = refl;
      order_growth = refl;
      nominal_span_over = refl;
      overload_span_over = refl;
      work_falls = refl;
      span_falls = refl;
      growth_over = refl;
      low_equal = refl;
      low_work = refl;
      low_span = refl;
      high_free = refl;
      mask_lower = refl;
      mask_itself = refl;
      mask_later = refl;
      mask_first = refl;
      mask_of_each = refl;
      mask_of_one = refl;
      heavy = refl;
      too_light = refl;
      lawful = refl;
      figures_broken = refl;
      mask_broken = refl;
      light = refl;
      figures-first = refl;
      mask_first_of_two = refl;
      accepted_number = refl;
      accepted_task = refl;
      refused_number = refl;
      refused_task = refl;
    }
