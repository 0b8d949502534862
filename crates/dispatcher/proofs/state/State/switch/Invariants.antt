-- `dispatcher::state::State::switch`: the entries passed are switched, and those to come are as they were.
use mathlib.Core.Path.{◌≡◌}
use Rattle.dispatcher.proofs.Switches.{switched_up_to}
use Rattle.dispatcher.proofs.state.State.switch.Given as goal

abbrev pub invariant-loop-e : goal.invariant-loop-e
invariant-loop-e l = l.e-items ≡ switched_up_to l.initial.e-items l.e-index
