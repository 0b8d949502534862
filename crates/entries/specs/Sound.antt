-- S7.2: when an entry is sound, one test for each part of the clause.
use Rattle.std.specs.Prelude.{◌^◌, Bool, not, ◌&&◌, leb, ltb}
use Rattle.basics.specs.Numbers.{within}
use Rattle.sheet.specs.Level.{level_lawful, figure_limit}
use Rattle.sheet.specs.Rules.{masks_lawful}
use Rattle.model.specs.Row.{all_ended}
use Rattle.entries.specs.declared.state.TaskState.{TaskState}

-- S7.2, of one entry, in the clause's order. An ended set without a node from k on is a number below 2 to the power of
-- k; and no alive job has ended all its nodes.
unfoldable pub entry_sound : TaskState → Bool
entry_sound e =
    level_lawful e.level
    && within 1 32 e.nodes
    && masks_lawful e.predecessors e.nodes
    && within 1 (figure_limit e.level) e.deadline
    && leb e.virtual_deadline e.deadline
    && leb e.age e.deadline
    && ltb e.job.ended (2 ^ e.nodes)
    && not (e.job.alive && all_ended e.nodes e.job.ended)
