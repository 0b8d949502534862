-- `dispatcher::tick::turn`: the two ways in which no switch is made.
use mathlib.Core.Path.{sym, ◌∙◌}
use Rattle.dispatcher.proofs.Ticks.{turn_critical, turn_ran}
use Rattle.dispatcher.proofs.tick.turn.Goals as goal

pub returns-then-state-clause-turned : goal.returns-then-state-clause-turned
returns-then-state-clause-turned c = turn_critical c.args.state.now c.args.high c.if-state.true c.requires.alive

pub returns-in-None-clause-turned : goal.returns-in-None-clause-turned
returns-in-None-clause-turned c = turn_ran c.args.state.now c.if-state.false (sym c.in-None.is ∙ c.requires.lowest)
