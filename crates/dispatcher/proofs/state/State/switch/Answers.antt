-- `dispatcher::state::State::switch`: each turn switches the next entry of the tasks; those behind the tasks stay.
use mathlib.Core.Path.{ap, ap₂, ◌∙◌}
use mathlib.Core.List.{List}
use lib.ListN.{set, take, get_or}
use Rattle.entries.specs.declared.state.TaskState.{TaskState}
use Rattle.dispatcher.proofs.Entries.{no_entry}
use Rattle.dispatcher.proofs.Switches.{switched, switched_stored, switched_all}
use Rattle.dispatcher.proofs.state.State.switch.Goals as goal

pub loop-e-preserved : goal.loop-e-preserved
loop-e-preserved c =
    let es = take c.from.result c.args.self.now.entries in
    ap₂ (λ (xs : List TaskState) (e : TaskState). set xs c.loop-e.e-index e)
    c.loop-e.invariant
    (c.switch.ensures ∙ ap (λ (xs : List TaskState). switched (get_or xs c.loop-e.e-index no_entry)) c.loop-e.invariant)
    ∙ switched_stored es c.loop-e.e-index c.loop-e-test.true

pub returns : goal.returns
returns c = switched_all c.args.self.now c.from.result c.loop-e.e-index c.loop-e.e-items c.from.ensures c.loop-e-test.false c.loop-e.invariant
