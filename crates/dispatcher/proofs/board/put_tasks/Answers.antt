-- `dispatcher::board::put_tasks`: each turn writes the block of the next task, for which the sound state leaves room.
use Prim.Native.Nat.{◌≤◌, ◌<◌}
use mathlib.Core.Path.{◌≡◌, ap, ◌∙◌}
use native.Mathlib.Omega.{arith}
use lib.ListN.{length, take, get_or}
use lib.Seq.{length-take-le}
use Rattle.basics.proofs.Logic.{within_bounds}
use Rattle.shares.specs.Totals.{share_in}
use Rattle.entries.proofs.Soundness.{few_nodes}
use Rattle.entries.specs.declared.state.TaskState.{TaskState}
use Rattle.entries.specs.Entry.{row_of}
use Rattle.model.specs.Row.{running_set}
use Rattle.dispatcher.proofs.Soundness.{state_facts, few_entries}
use Rattle.dispatcher.proofs.Entries.{no_entry, entry_at, turn_entry, sound_at}
use Rattle.dispatcher.proofs.Boards.{boarding_room, boarding_fits, boarding_more, boarding_all}
use Rattle.dispatcher.proofs.board.put_tasks.Goals.{Start, In-loop-i, After-running, After-from-in-loop-i}
use Rattle.dispatcher.proofs.board.put_tasks.Goals as goal

-- The line has an entry for each task, and M is small.
few : (c : Start) → c.args.state.now.count ≤ 16
few c = few_entries c.args.state.now c.requires.0

long : (c : Start) → c.args.state.now.count ≤ length c.args.state.now.entries
long c = omega (arith, few c)

small : (c : Start) → c.args.state.now.processors ≤ 64
small c = (within_bounds 1 64 c.args.state.now.processors (state_facts c.args.state.now c.requires.0).processors).1

pub shared_ref_as_front-e-items : goal.shared_ref_as_front-e-items
shared_ref_as_front-e-items c = omega (arith, c.from.ensures, few (goal.at.shared_ref_as_front-e-items c).Start)

-- The entry of the turn is task i's.
inside : (c : In-loop-i) → c.loop-i.i < c.args.state.now.count
inside c = omega (arith, c.from.ensures, length-take-le _ c.args.state.now.entries (long (goal.at.In-loop-i c).Start))

here : (c : In-loop-i) → get_or (take c.from.result c.args.state.now.entries) c.loop-i.i no_entry ≡ entry_at c.args.state.now c.loop-i.i
here c = turn_entry c.args.state.now c.from.result c.loop-i.i c.from.ensures (inside c)

pub running-requires : goal.running-requires
running-requires c =
    rw (here (goal.at.running-requires c).In-loop-i)
    (few_nodes _ (sound_at c.args.state.now (long (goal.at.running-requires c).Start) c.requires.0 c.loop-i.i (omega arith)))

-- What runs of the task.
runs : (c : After-running)
    → c.running.result ≡ running_set (share_in c.args.state.now.critical (entry_at c.args.state.now c.loop-i.i).share) (row_of (entry_at c.args.state.now c.loop-i.i))
runs c =
    c.running.ensures
    ∙ ap (λ (e : TaskState). running_set (share_in c.args.state.now.critical e.share) (row_of e)) (here (goal.at.After-running c).In-loop-i)

pub put_nodes-requires : goal.put_nodes-requires
put_nodes-requires c =
    rw (runs (goal.at.put_nodes-requires c).After-running)
    (boarding_fits c.args.state.now (long (goal.at.put_nodes-requires c).Start) c.requires.0 c.loop-i.buffer c.loop-i.at c.loop-i.i (omega arith) c.loop-i.invariant.1)

-- The processors that the task is granted.
granted_here : (c : After-from-in-loop-i) → c.from-in-loop-i.result ≡ share_in c.args.state.now.critical (entry_at c.args.state.now c.loop-i.i).share
granted_here c =
    c.from-in-loop-i.ensures
    ∙ c.in_mode.ensures
    ∙ ap (λ (e : TaskState). share_in c.args.state.now.critical e.share) (here (goal.at.After-from-in-loop-i c).In-loop-i)

pub overflow_add-at : goal.overflow_add-at
overflow_add-at c =
    omega (
      arith,
      small (goal.at.overflow_add-at c).Start,
      granted_here (goal.at.overflow_add-at c).After-from-in-loop-i,
      boarding_room c.args.state.now (long (goal.at.overflow_add-at c).Start) c.requires.0 c.loop-i.buffer c.loop-i.at c.loop-i.i (omega arith) c.loop-i.invariant.1,
    )

pub loop-i-preserved : goal.loop-i-preserved
loop-i-preserved c = (
  c.put_nodes.auto.buffer ∙ c.loop-i.invariant.0,
  rw (c.put_nodes.ensures, runs (goal.at.loop-i-preserved c).After-running, granted_here (goal.at.loop-i-preserved c).After-from-in-loop-i)
      (boarding_more c.args.state.now (long (goal.at.loop-i-preserved c).Start) c.requires.0 c.loop-i.buffer c.loop-i.at c.loop-i.i (omega arith) c.loop-i.invariant.1),
)

pub returns : goal.returns
returns c =
    boarding_all c.args.state.now (long (goal.at.returns c).Start) c.requires.0 c.loop-i.buffer c.loop-i.at c.loop-i.i (omega arith) c.loop-i.invariant.1
