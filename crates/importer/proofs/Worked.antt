-- Worked facts by computation: imports by their bytes, and witnesses that the premises of the laws can be met.
use Prim.Native.Nat.{ℕ, zero, suc, ◌<◌}
use mathlib.Core.Path.{◌≡◌, refl, sym, ap}
use mathlib.Core.Bool.{true, false, or_self_left}
use mathlib.Core.List.{List, [], ◌∷◌, ◌++◌}
use native.Mathlib.Omega.{arith}
use lib.Dec.{eqb, lit≤, eqb-suc-zero}
use lib.ListN.{length, replicate}
use Rattle.basics.specs.Lists.{range, is_in, cells_from}
use Rattle.basics.specs.Numbers.{byte_at, u16_at, u16_bytes, u32_bytes}
use Rattle.basics.specs.Digits.{is_digit}
use Rattle.nodes.specs.Sets.{has, members}
use Rattle.std.specs.Prelude.{Err, Some}
use Rattle.sheet.specs.declared.refusal.Refusal.TheVariants.{BadText, BadGraph, FigureOutside, NotHeavy}
use Rattle.std.specs.Prelude.{Ok}
use Rattle.sheet.specs.Refusal.{first_over}
use Rattle.sheet.specs.Level.{is_high, figure_limit, is_wide}
use Rattle.sheet.specs.Format.{processors_of, count_of, offset_of, length_of, place_of}
use Rattle.sheet.specs.Rules.{in_range, in_order, is_heavy}
use Rattle.sheet.specs.Encoding.{figure_bytes, masks_bytes, record_bytes}
use Rattle.sheet.proofs.Worked.{figures}
use Rattle.reader.specs.Reading.{header_lawful, header_answer, place_answer, end_answer, record_answer, read_answer}
use Rattle.model.specs.Row.{predecessors_of}
use Rattle.model.specs.Budget.{sum_below}
use Rattle.chains.specs.Chains.{longest_among, chain_at, chains_below, span_of, budget_of}
use Rattle.graph_text.specs.Text.{is_blank, is_numeral, numbers_of, numerals_of}
use Rattle.graph_text.specs.Graph.{Entry, Graph, time_lawful, entries_from, graph_of, is_rising, node_of, time_of, mask_of, masks_of}
use Rattle.importer.specs.Task.{terms_lawful, scaled, overload_time_of, figures_of, task_from}
use Rattle.importer.specs.Import.{terms, room_for, is_asked_well, graph_lawful, import_answer, imported_record, imported}
use Rattle.importer.specs.Laws.{FiguresInOrder, ReaderTakes, BudgetsFit, TimesKeepBudgets, SameTask}
use Rattle.importer.proofs.Orders.{figures_in_order}
use Rattle.importer.proofs.Readers.{reader_takes}
use Rattle.importer.proofs.Budgets.{times_keep_budgets}
use Rattle.importer.proofs.Same.{mask_kept, same_task}

-- Two nodes in a row, and a mark with a byte behind it: `2 0 0 0 1 3 1 0 2 4 1 1 3 0 1 2 #x`
abbrev pub row : List ℕ
row =
    50 ∷ 32 ∷ 48 ∷ 32 ∷ 48 ∷ 32 ∷ 48 ∷ 32 ∷ 49 ∷ 32 ∷ 51 ∷ 32 ∷ 49 ∷ 32 ∷ 48 ∷ 32 ∷ 50 ∷ 32 ∷ 52 ∷ 32 ∷ 49 ∷ 32 ∷ 49 ∷ 32 ∷ 51 ∷ 32 ∷ 48
    ∷ 32 ∷ 49 ∷ 32 ∷ 50 ∷ 32 ∷ 35 ∷ 120 ∷ []

-- The same nodes. The first names no predecessor, and the second names the first twice, and between the dummy 0:
-- `2 0 0 0 1 3 0 2 4 3 1 0 1 3 0 1 2`
abbrev pub row_again : List ℕ
row_again =
    50 ∷ 32 ∷ 48 ∷ 32 ∷ 48 ∷ 32 ∷ 48 ∷ 32 ∷ 49 ∷ 32 ∷ 51 ∷ 32 ∷ 48 ∷ 32 ∷ 50 ∷ 32 ∷ 52 ∷ 32 ∷ 51 ∷ 32 ∷ 49 ∷ 32 ∷ 48 ∷ 32 ∷ 49 ∷ 32 ∷ 51
    ∷ 32 ∷ 48 ∷ 32 ∷ 49 ∷ 32 ∷ 50 ∷ []

-- A first node, and two others behind it: `3 0 0 0 1 2 1 0 2 3 1 1 3 5 1 1 4 0 2 2 3`
abbrev pub fork : List ℕ
fork =
    51 ∷ 32 ∷ 48 ∷ 32 ∷ 48 ∷ 32 ∷ 48 ∷ 32 ∷ 49 ∷ 32 ∷ 50 ∷ 32 ∷ 49 ∷ 32 ∷ 48 ∷ 32 ∷ 50 ∷ 32 ∷ 51 ∷ 32 ∷ 49 ∷ 32 ∷ 49 ∷ 32 ∷ 51 ∷ 32 ∷ 53
    ∷ 32 ∷ 49 ∷ 32 ∷ 49 ∷ 32 ∷ 52 ∷ 32 ∷ 48 ∷ 32 ∷ 50 ∷ 32 ∷ 50 ∷ 32 ∷ 51 ∷ []

-- One node: `1 0 0 0 1 3 1 0 2 0 1 1`
abbrev pub one : List ℕ
one =
    49 ∷ 32 ∷ 48 ∷ 32 ∷ 48 ∷ 32 ∷ 48 ∷ 32 ∷ 49 ∷ 32 ∷ 51 ∷ 32 ∷ 49 ∷ 32 ∷ 48 ∷ 32 ∷ 50 ∷ 32 ∷ 48 ∷ 32 ∷ 49 ∷ 32 ∷ 49 ∷ []

-- One node with a longer time: `1 0 0 0 1 5000 1 0 2 0 1 1`
abbrev pub one_long : List ℕ
one_long =
    49 ∷ 32 ∷ 48 ∷ 32 ∷ 48 ∷ 32 ∷ 48 ∷ 32 ∷ 49 ∷ 32 ∷ 53 ∷ 48 ∷ 48 ∷ 48 ∷ 32 ∷ 49 ∷ 32 ∷ 48 ∷ 32 ∷ 50 ∷ 32 ∷ 48 ∷ 32 ∷ 49 ∷ 32 ∷ 49 ∷ []

-- A node that names itself: `1 0 0 0 1 3 1 1 2 0 1 1`
abbrev pub one_itself : List ℕ
one_itself =
    49 ∷ 32 ∷ 48 ∷ 32 ∷ 48 ∷ 32 ∷ 48 ∷ 32 ∷ 49 ∷ 32 ∷ 51 ∷ 32 ∷ 49 ∷ 32 ∷ 49 ∷ 32 ∷ 50 ∷ 32 ∷ 48 ∷ 32 ∷ 49 ∷ 32 ∷ 49 ∷ []

-- The same, and the entry behind it has a wrong number: `1 0 0 0 1 3 1 1 3 0 1 1`
abbrev pub one_misnumbered : List ℕ
one_misnumbered =
    49 ∷ 32 ∷ 48 ∷ 32 ∷ 48 ∷ 32 ∷ 48 ∷ 32 ∷ 49 ∷ 32 ∷ 51 ∷ 32 ∷ 49 ∷ 32 ∷ 49 ∷ 32 ∷ 51 ∷ 32 ∷ 48 ∷ 32 ∷ 49 ∷ 32 ∷ 49 ∷ []

-- A node of time 0: `1 0 0 0 1 0 1 0 2 0 1 1`
abbrev pub one_timeless : List ℕ
one_timeless =
    49 ∷ 32 ∷ 48 ∷ 32 ∷ 48 ∷ 32 ∷ 48 ∷ 32 ∷ 49 ∷ 32 ∷ 48 ∷ 32 ∷ 49 ∷ 32 ∷ 48 ∷ 32 ∷ 50 ∷ 32 ∷ 48 ∷ 32 ∷ 49 ∷ 32 ∷ 49 ∷ []

-- The two dummies alone: `0 0 0 0 1 0 1 0`
abbrev pub no_node : List ℕ
no_node =
    48 ∷ 32 ∷ 48 ∷ 32 ∷ 48 ∷ 32 ∷ 48 ∷ 32 ∷ 49 ∷ 32 ∷ 48 ∷ 32 ∷ 49 ∷ 32 ∷ 48 ∷ []

-- What the first three say.
abbrev entry : ℕ → List ℕ → Entry
entry time predecessors = record { time = time; predecessors = predecessors }

abbrev pub row_graph : Graph
row_graph = record { count = 2; entries = entry 0 [] ∷ entry 3 (0 ∷ []) ∷ entry 4 (1 ∷ []) ∷ entry 0 (2 ∷ []) ∷ [] }

abbrev pub again_graph : Graph
again_graph = record { count = 2; entries = entry 0 [] ∷ entry 3 [] ∷ entry 4 (1 ∷ 0 ∷ 1 ∷ []) ∷ entry 0 (2 ∷ []) ∷ [] }

abbrev pub fork_graph : Graph
fork_graph =
    record {
      count = 3;
      entries = entry 0 [] ∷ entry 2 (0 ∷ []) ∷ entry 3 (1 ∷ []) ∷ entry 5 (1 ∷ []) ∷ entry 0 (2 ∷ 3 ∷ []) ∷ [];
    }

-- The record of the row for a high task of deadline 9, with overload times of 150 percent; and that with the deadline 11.
abbrev pub row_record : List ℕ
row_record = 1 ∷ 2 ∷ 9 ∷ 0 ∷ 7 ∷ 0 ∷ 11 ∷ 0 ∷ 7 ∷ 0 ∷ 11 ∷ 0 ∷ 0 ∷ 0 ∷ 0 ∷ 0 ∷ 1 ∷ 0 ∷ 0 ∷ 0 ∷ []

abbrev pub light_record : List ℕ
light_record = 1 ∷ 2 ∷ 11 ∷ 0 ∷ 7 ∷ 0 ∷ 11 ∷ 0 ∷ 7 ∷ 0 ∷ 11 ∷ 0 ∷ 0 ∷ 0 ∷ 0 ∷ 0 ∷ 1 ∷ 0 ∷ 0 ∷ 0 ∷ []

pub record Worked : Type 0 where
  -- S14.6: times by a percentage are rounded up.
  pub rounded_half : scaled 150 3 ≡ 5
  pub rounded_least : scaled 101 1 ≡ 2
  pub rounded_none : scaled 100 7 ≡ 7
  pub rounded_four : scaled 400 7 ≡ 28
  -- S14.2: the graphs that the texts say.
  pub graph_of_row : graph_of row ≡ Some row_graph
  pub graph_of_again : graph_of row_again ≡ Some again_graph
  pub graph_of_fork : graph_of fork ≡ Some fork_graph
  -- S14.7: D, CN, CO, LN and LO. Overload times of the row are 5 and 6, of the fork 3, 5 and 8.
  pub row_figures : figures_of row_graph (terms 1 9 150) ≡ figures 9 7 11 7 11
  pub light_figures : figures_of row_graph (terms 1 11 150) ≡ figures 11 7 11 7 11
  pub fork_figures : figures_of fork_graph (terms 1 15 150) ≡ figures 15 10 16 7 11
  pub fork_whole : figures_of fork_graph (terms 0 15 100) ≡ figures 15 10 10 7 7
  -- S14.9: from the bytes of a text to those of a record; the other text of the row makes the same.
  pub row_bytes : imported_record row (terms 1 9 150) ≡ row_record
  pub again_record : imported_record row_again (terms 1 9 150) ≡ row_record
  pub light_bytes : imported_record row (terms 1 11 150) ≡ light_record
  pub fork_record : imported_record fork (terms 1 15 150)
      ≡ 1 ∷ 3 ∷ 15 ∷ 0 ∷ 10 ∷ 0 ∷ 16 ∷ 0 ∷ 7 ∷ 0 ∷ 11 ∷ 0 ∷ 0 ∷ 0 ∷ 0 ∷ 0 ∷ 1 ∷ 0 ∷ 0 ∷ 0 ∷ 1 ∷ 0 ∷ 0 ∷ 0 ∷ []
  pub low_bytes : imported_record one (terms 0 2 100) ≡ 0 ∷ 1 ∷ 2 ∷ 0 ∷ 3 ∷ 0 ∷ 3 ∷ 0 ∷ 3 ∷ 0 ∷ 3 ∷ 0 ∷ 0 ∷ 0 ∷ 0 ∷ 0 ∷ []
  -- S9.17: the buffer, with as many bytes as the record and with one fewer.
  pub room_enough : import_answer row (terms 1 9 150) 20 ≡ Ok tt
  pub light_accepted : import_answer row (terms 1 11 150) 20 ≡ Ok tt
  pub room_short : import_answer row (terms 1 9 150) 19 ≡ Err BadText
  -- S14.9: the bytes behind the record stay, and a refusal leaves all as it was.
  pub written : imported row (terms 1 9 150) (replicate 22 170) ≡ row_record ++ 170 ∷ 170 ∷ []
  pub unwritten : imported row (terms 1 9 150) (replicate 19 170) ≡ replicate 19 170
  -- S9.17: the text, and the terms at their limits and past them.
  pub timeless : import_answer one_timeless (terms 1 2 100) 16 ≡ Err BadText
  pub empty : import_answer [] (terms 1 2 100) 16 ≡ Err BadText
  pub level_two : import_answer one (terms 2 2 100) 16 ≡ Err BadText
  pub percentage_least : import_answer one (terms 1 2 100) 16 ≡ Ok tt
  pub percentage_below : import_answer one (terms 1 2 99) 16 ≡ Err BadText
  pub percentage_greatest : import_answer one (terms 1 2 400) 16 ≡ Ok tt
  pub percentage_above : import_answer one (terms 1 2 401) 16 ≡ Err BadText
  pub low_whole : import_answer one (terms 0 2 100) 16 ≡ Ok tt
  pub low_more : import_answer one (terms 0 2 101) 16 ≡ Err BadText
  -- S9.18: a node that names itself, no node, and the most nodes with one more.
  pub itself : import_answer one_itself (terms 1 2 100) 16 ≡ Err BadGraph
  pub nodeless : import_answer no_node (terms 1 2 100) 16 ≡ Err BadGraph
  pub most_nodes : graph_lawful (record { count = 32; entries = [] }) ≡ true
  pub nodes_above : graph_lawful (record { count = 33; entries = [] }) ≡ false
  -- S9.19: D and CO at the limit and past it.
  pub deadline_zero : import_answer one (terms 1 0 100) 16 ≡ Err FigureOutside
  pub deadline-greatest : import_answer one (terms 1 10000 100) 16 ≡ Ok tt
  pub deadline_above : import_answer one (terms 1 10001 100) 16 ≡ Err FigureOutside
  pub work_greatest : import_answer one_long (terms 1 2 200) 16 ≡ Ok tt
  pub work_above : import_answer one_long (terms 1 2 201) 16 ≡ Err FigureOutside
  -- S14.9: of two causes the lower number is the answer, wherever its cause stands in the text.
  pub text_first : import_answer one_misnumbered (terms 1 2 100) 16 ≡ Err BadText
  pub terms-first : import_answer one_itself (terms 1 2 99) 16 ≡ Err BadText
  pub room-first : import_answer one_itself (terms 1 2 100) 15 ≡ Err BadText
  pub graph_first : import_answer one_itself (terms 1 0 100) 16 ≡ Err BadGraph

pub worked : Worked
unfolding range cells_from u16_bytes u32_bytes is_digit has members is_high figure_limit in_range figure_bytes masks_bytes record_bytes predecessors_of sum_below longest_among chain_at chains_below span_of budget_of is_blank is_numeral numbers_of numerals_of time_lawful entries_from graph_of is_rising node_of time_of mask_of masks_of terms_lawful scaled overload_time_of figures_of task_from room_for is_asked_well graph_lawful import_answer imported_record imported is_wide
worked =
    record {
      rounded_half = refl;
      rounded_least = refl;
      rounded_none = refl;
      rounded_four = refl;
      graph_of_row = refl;
      graph_of_again = refl;
      graph_of_fork = refl;
      row_figures = refl;
      light_figures = refl;
      fork_figures = refl;
      fork_whole = refl;
      row_bytes = refl;
      again_record = refl;
      light_bytes = refl;
      fork_record = refl;
      low_bytes = refl;
      room_enough = refl;
      light_accepted = refl;
      room_short = refl;
      written = refl;
      unwritten = refl;
      timeless = refl;
      empty = refl;
      level_two = refl;
      percentage_least = refl;
      percentage_below = refl;
      percentage_greatest = refl;
      percentage_above = refl;
      low_whole = refl;
      low_more = refl;
      itself = refl;
      nodeless = refl;
      most_nodes = refl;
      nodes_above = refl;
      deadline_zero = refl;
      deadline-greatest = refl;
      deadline_above = refl;
      work_greatest = refl;
      work_above = refl;
      text_first = refl;
      terms-first = refl;
      room-first = refl;
      graph_first = refl;
    }

-- The laws at the row: its figures are in order; as the one record of a sheet the reader takes it, and refuses it with 6 where D is CO; and
-- its times keep its budgets.
pub row_in_order : in_order (figures_of row_graph (terms 1 9 150)) ≡ true
unfolding FiguresInOrder
row_in_order = figures_in_order row_graph (terms 1 9 150) (lit≤ tt)

-- The bytes before the record: 8 processors, 1 task, and 20 bytes from place 6 on.
abbrev pub sheet_before : List ℕ
sheet_before = 8 ∷ 1 ∷ 6 ∷ 0 ∷ 20 ∷ 0 ∷ []

pub row_taken : record_answer (sheet_before ++ (row_record ++ [])) 0 ≡ Ok tt
unfolding ReaderTakes is_heavy offset_of length_of u16_at byte_at
row_taken =
    rw (worked.row_bytes, worked.row_figures) at
    (reader_takes row (terms 1 9 150) 20 row_graph sheet_before [] 0 worked.room_enough worked.graph_of_row refl
    (sym (ap length worked.row_bytes)))

pub row_light : record_answer (sheet_before ++ (light_record ++ [])) 0 ≡ Err (NotHeavy 0)
unfolding ReaderTakes is_heavy offset_of length_of u16_at byte_at
row_light =
    rw (worked.light_bytes, worked.light_figures) at
    (reader_takes row (terms 1 11 150) 20 row_graph sheet_before [] 0 worked.light_accepted worked.graph_of_row refl
    (sym (ap length worked.light_bytes)))

-- So the reader accepts that sheet.
pub row_read : read_answer (sheet_before ++ (row_record ++ [])) ≡ Ok tt
unfolding read_answer header_answer header_lawful processors_of count_of place_answer place_of end_answer first_over offset_of length_of u16_at byte_at
row_read = rw row_taken

pub row_budgets : BudgetsFit row_graph (terms 1 9 150)
unfolding TimesKeepBudgets
row_budgets = times_keep_budgets row (terms 1 9 150) 20 row_graph worked.room_enough worked.graph_of_row

-- Both texts of the row become one task.
again_times : (v : ℕ) → v < 2 → time_of row_graph v ≡ time_of again_graph v
unfolding time_of node_of
again_times zero l = refl
again_times (suc zero) l = refl
again_times (suc (suc v)) l = absurd (omega arith)

again_names : (v j : ℕ) → v < 2 → is_in (suc j) (node_of row_graph v).predecessors ≡ is_in (suc j) (node_of again_graph v).predecessors
unfolding node_of
again_names zero j l = rw (eqb-suc-zero j)
again_names (suc zero) j l = rw (eqb-suc-zero j) (sym (or_self_left (eqb (suc j) 1) false))
again_names (suc (suc v)) j l = absurd (omega arith)

pub row_same : task_from row_graph (terms 1 9 150) ≡ task_from again_graph (terms 1 9 150)
unfolding SameTask
row_same = same_task row_graph again_graph (terms 1 9 150) refl again_times again_names

-- A predecessor that is named a second time.
pub named_again : mask_of (1 ∷ 2 ∷ 1 ∷ []) ≡ mask_of (2 ∷ 1 ∷ [])
named_again = (mask_kept 1 (2 ∷ 1 ∷ [])).again refl
