-- `guarantee::record::put_state`: an entry of the first n is the task's, and the places are those of the invariant.
use Prim.Native.Nat.{◌+◌, ◌<◌}
use mathlib.Core.Path.{◌≡◌, ◌∙◌}
use native.Mathlib.Omega.{arith}
use lib.ListN.{set, take, get_or, length-set}
use Rattle.std.proofs.lemmas.List.{get_or-take, length-take}
use Rattle.entries.specs.declared.state.TaskState.{TaskState}
use Rattle.dispatcher.specs.Holds.{model_of}
use Rattle.dispatcher.proofs.Entries.{entry_at, no_entry}
use Rattle.guarantee.proofs.Records.{putting_none, putting_more, putting_all, state_stored, bit_of}
use Rattle.guarantee.proofs.record.put_state.Goals.{In-loop-i}
use Rattle.guarantee.proofs.record.put_state.Goals as goal

pub loop-i-init : goal.loop-i-init
loop-i-init c =
    putting_none c.args.state.now c.requires.line (c.args.at + 1) (set c.args.out.now c.args.at c.from.result)
    (rw (length-set c.args.out.now c.args.at c.from.result) (omega arith))

inside : (c : In-loop-i) → c.loop-i.i < c.args.state.now.count
inside c = omega (arith, length-take {A = TaskState})

one : (c : In-loop-i) → get_or (take c.from-2.result c.args.state.now.entries) c.loop-i.i no_entry ≡ entry_at c.args.state.now c.loop-i.i
one c = get_or-take c.from-2.result c.args.state.now.entries c.loop-i.i no_entry (omega (arith, inside c))

pub loop-i-preserved : goal.loop-i-preserved
loop-i-preserved c =
    let at = (goal.at.loop-i-preserved c).In-loop-i in
    rw (c.put_task.ensures, one at)
    (putting_more c.args.state.now c.requires.line _ _ (c.args.at + 1) c.loop-i.out c.loop-i.i (inside at) c.loop-i.invariant)

pub returns : goal.returns
unfolding model_of
returns c =
    putting_all c.args.state.now c.requires.line _ _ (c.args.at + 1) c.loop-i.out c.loop-i.i (omega (arith, length-take {A = TaskState})) c.loop-i.invariant
    ∙ state_stored c.args.out.now c.args.at c.from.result (model_of c.args.state.now) (bit_of c.args.state.now.critical c.from.ensures)
