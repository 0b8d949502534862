-- What a state holds of the model (S10.2): its entries as rows, and how a model's rows are written back.
use Rattle.std.specs.Prelude.{List, [], ◌∷◌, map, take}
use Rattle.shares.specs.declared.share.Share.{Share}
use Rattle.model.specs.Row.{Row}
use Rattle.model.specs.Step.{Model}
use Rattle.entries.specs.declared.state.TaskState.{TaskState}
use Rattle.entries.specs.Entry.{row_of, with_row}
use Rattle.dispatcher.specs.declared.state.State.{State}

-- S7.3: the entries that are read, those of the n tasks.
unfoldable pub entries_of : State → List TaskState
entries_of s = take s.count s.entries

-- S10.2: the model that a state holds: its mode, and a row for each task.
unfoldable pub model_of : State → Model
model_of s = record { critical = s.critical; rows = map row_of (entries_of s) }

-- S7.1: the shares of the tasks, in their order.
abbrev pub row_shares : List Row → List Share
row_shares rows = map (λ r. r.fixed.share) rows

-- The entries with the ages and the jobs of the rows. S7.3: one that no row stands for comes back as it was.
abbrev pub with_rows : List TaskState → List Row → List TaskState
with_rows [] rows = []
with_rows (e ∷ entries) [] = e ∷ entries
with_rows (e ∷ entries) (r ∷ rows) = with_row e r ∷ with_rows entries rows

-- S10.3: the state with a model's mode, ages and jobs, and all else as it was.
unfoldable pub with_model : State → Model → State
with_model s m =
    record {
      processors = s.processors;
      count = s.count;
      critical = m.critical;
      entries = with_rows s.entries m.rows;
    }
