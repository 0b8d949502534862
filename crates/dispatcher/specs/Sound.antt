-- S7.2: when a state is sound.
use Rattle.std.specs.Prelude.{Bool, ◌&&◌, List, leb}
use Rattle.std.specs.List.{list_all}
use Rattle.basics.specs.Numbers.{within}
use Rattle.shares.specs.Totals.{typical_total, critical_total}
use Rattle.entries.specs.declared.state.TaskState.{TaskState}
use Rattle.entries.specs.Sound.{entry_sound}
use Rattle.dispatcher.specs.declared.state.State.{State}
use Rattle.dispatcher.specs.Holds.{entries_of, model_of, row_shares}

-- S7.2: whether each of these entries is sound.
abbrev pub entries_sound : List TaskState → Bool
entries_sound entries = list_all entry_sound entries

-- S7.2: M, n, the entries of the tasks, and what the shares total in each mode.
unfoldable pub is_sound : State → Bool
is_sound s =
    within 1 64 s.processors
    && within 1 16 s.count
    && entries_sound (entries_of s)
    && leb (typical_total (row_shares (model_of s).rows)) s.processors
    && leb (critical_total (row_shares (model_of s).rows)) s.processors
