-- `entries::state::TaskState::ready`: the nodes gathered, with those that are left, are those whose predecessors have
-- all ended.
use Rattle.entries.specs.Entry.{row_of}
use Rattle.entries.proofs.NodeSets.{is_unblocked, Gathered}
use Rattle.entries.proofs.state.TaskState.ready.Given as goal

abbrev pub invariant-loop-v : goal.invariant-loop-v
invariant-loop-v l = Gathered (is_unblocked (row_of l.self)) l.self.nodes l.v l.set
