-- The sheets of the witnesses, read and planned by computation: their tasks, their shares, and the model that Start begins with.
use Prim.Native.Nat.{ℕ}
use mathlib.Core.List.{List, [], ◌∷◌}
use mathlib.Core.Path.{◌≡◌, refl, sym, ap, ap₂, ◌∙◌}
use lib.ListN.{replicate}
use Rattle.std.specs.Prelude.{Ok}
use Rattle.sheet.specs.declared.task.Task.{Task}
use Rattle.sheet.specs.declared.task.TaskSet.{TaskSet}
use Rattle.sheet.specs.Refusal.{first_over}
use Rattle.basics.specs.Numbers.{byte_at, u16_at, u32_at}
use Rattle.basics.specs.Lists.{cells_from, all_below, range}
use Rattle.sheet.specs.Format.{processors_of, count_of, offset_of, length_of, level_at, nodes_at, figure_at, figures_at, masks_at, task_at, zero_task, tasks_below, task_set_of, task_in, place_of}
use Rattle.sheet.specs.Level.{level_lawful, is_low, is_high, bytes_before_masks, figure_limit, is_wide}
use Rattle.sheet.specs.Rules.{shape_lawful, in_range, in_order, low_lawful, figures_lawful, mask_lawful, masks_lawful, is_heavy, task_answer}
use Rattle.reader.proofs.Readings.{read_ok}
use Rattle.allocation.proofs.Allocations.{answer_choice}
use Rattle.reader.specs.Reading.{header_lawful, header_answer, place_answer, end_answer, shape_answer, record_answer, read_of, read_answer}
use Rattle.shares.specs.declared.share.Share.{Share}
use Rattle.shares.specs.Test.{excess, demand, passes}
use Rattle.shares.specs.Low.{ceil_div, low_share, has_low_share}
use Rattle.shares.specs.Totals.{share_at}
use Rattle.basics.specs.Order.{least_by}
use Rattle.allocation.specs.Choice.{low_options, pairs_within, high_options, options_of, fits, fitting, chosen}
use Rattle.keeping.specs.Kept.{low_numbers, holdable, first_held, typical_share_at, left_over, kept_tasks, kept_share, with_kept}
use Rattle.allocation.specs.Allocation.{chosen_for, share_answer, choice_answer, shares_with, shares_of}
use Rattle.model.specs.Plan.{fresh}
use Rattle.start.specs.Start.{start_of}
use Rattle.guarantee.specs.Guarantee.{shares_for, model_for, tasks_for}
use Rattle.guarantee.specs.Witness.{two_tasks, one_kept}
use Rattle.guarantee.specs.IsolationWitness.{high_only, low_only, three_tasks, two_high}
use Rattle.guarantee.proofs.Theorem.{start_answered}

-- A high task.
abbrev pub high : Task
high =
    record {
      level = 1;
      nodes = 4;
      figures =
          record { deadline = 8; nominal = record { work = 4; span = 2 }; overload = record { work = 9; span = 3 } };
      predecessors = 0 ∷ 0 ∷ 2 ∷ replicate 29 0;
    }

-- A low task whose nodes wait for none.
abbrev low_of : ℕ → ℕ → ℕ → ℕ → Task
low_of nodes deadline work span =
    record {
      level = 0;
      nodes = nodes;
      figures =
          record {
            deadline = deadline;
            nominal = record { work = work; span = span };
            overload = record { work = work; span = span };
          };
      predecessors = replicate 32 0;
    }

abbrev pub low : Task
low = low_of 2 3 4 1

abbrev pub kept : Task
kept = low_of 3 4 6 2

abbrev pair : ℕ → ℕ → Share
pair a b = record { typical = a; critical = b }

-- The task set of each sheet, and the shares.
abbrev pub both : TaskSet
both = record { processors = 3; count = 2; tasks = high ∷ low ∷ replicate 14 zero_task }

abbrev pub pairs : List Share
pairs = pair 1 2 ∷ pair 2 0 ∷ []

abbrev pub with_one_kept : TaskSet
with_one_kept = record { processors = 4; count = 2; tasks = high ∷ kept ∷ replicate 14 zero_task }

abbrev pub kept_pairs : List Share
kept_pairs = pair 1 2 ∷ pair 2 2 ∷ []

abbrev pub only_high : TaskSet
only_high = record { processors = 2; count = 1; tasks = high ∷ replicate 15 zero_task }

abbrev pub only_pairs : List Share
only_pairs = pair 1 2 ∷ []

abbrev pub only_low : TaskSet
only_low = record { processors = 2; count = 1; tasks = kept ∷ replicate 15 zero_task }

abbrev pub only_low_pairs : List Share
only_low_pairs = pair 2 2 ∷ []

abbrev pub three : TaskSet
three = record { processors = 5; count = 3; tasks = low ∷ high ∷ kept ∷ replicate 13 zero_task }

abbrev pub three_pairs : List Share
three_pairs = pair 2 2 ∷ pair 1 2 ∷ pair 2 0 ∷ []

abbrev pub twice : TaskSet
twice = record { processors = 4; count = 2; tasks = high ∷ high ∷ replicate 14 zero_task }

abbrev pub twice_pairs : List Share
twice_pairs = pair 1 2 ∷ pair 1 2 ∷ []

-- S2, S5: a sheet gives these tasks and shares.
pub record Gives (sheet : List ℕ) (ts : TaskSet) (shares : List Share) : Type 0 where
  pub read : read_of sheet ≡ Ok ts
  pub chosen : choice_answer ts ≡ Ok tt
  pub shared : shares_of ts ≡ shares

module _ {sheet : List ℕ} {ts : TaskSet} {shares : List Share} (gives : Gives sheet ts shares) where
  -- Start accepts a sheet that is read and whose choice is accepted.
  pub start_accepts : (start_of sheet).answer ≡ Ok tt
  start_accepts =
      let told = read_ok sheet gives.read in
      start_answered sheet (answer_choice sheet told.0 ∙ ap choice_answer (sym told.1) ∙ gives.chosen)

  pub set_of_lem : tasks_for sheet ≡ ts
  unfolding tasks_for
  set_of_lem = sym (read_ok sheet gives.read).1

  pub shares_of_lem : shares_for sheet ≡ shares
  unfolding shares_for
  shares_of_lem = ap shares_of set_of_lem ∙ gives.shared

  pub model_of : model_for sheet ≡ fresh ts shares
  unfolding model_for
  model_of = ap₂ fresh set_of_lem shares_of_lem

pub record AllGive : Type 0 where
  pub two : Gives two_tasks both pairs
  pub one_task_kept : Gives one_kept with_one_kept kept_pairs
  pub a_high_task : Gives high_only only_high only_pairs
  pub a_low_task : Gives low_only only_low only_low_pairs
  pub all_three : Gives three_tasks three three_pairs
  pub two_high_tasks : Gives two_high twice twice_pairs

pub sheets : AllGive
unfolding first_over byte_at u16_at u32_at processors_of count_of offset_of length_of place_of cells_from level_at nodes_at figure_at figures_at masks_at task_at zero_task tasks_below task_set_of level_lawful shape_lawful in_range in_order low_lawful figures_lawful mask_lawful all_below masks_lawful is_heavy task_answer header_lawful header_answer place_answer end_answer shape_answer record_answer read_answer read_of is_high figure_limit bytes_before_masks is_wide choice_answer share_answer chosen_for task_in range is_low ceil_div low_share has_low_share excess demand passes low_options pairs_within high_options options_of fits least_by fitting chosen share_at low_numbers holdable first_held typical_share_at left_over kept_tasks kept_share with_kept shares_with shares_of
sheets =
    record {
      two = record { read = refl; chosen = refl; shared = refl };
      one_task_kept = record { read = refl; chosen = refl; shared = refl };
      a_high_task = record { read = refl; chosen = refl; shared = refl };
      a_low_task = record { read = refl; chosen = refl; shared = refl };
      all_three = record { read = refl; chosen = refl; shared = refl };
      two_high_tasks = record { read = refl; chosen = refl; shared = refl };
    }
