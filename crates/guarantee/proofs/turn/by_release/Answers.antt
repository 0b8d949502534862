-- `guarantee::turn::by_release`: the turn is that of the answer.
use mathlib.Core.Path.{ap, ◌∙◌}
use Rattle.dispatcher.specs.declared.tick.TickAnswer.{TickAnswer}
use Rattle.guarantee.proofs.Records.{turn_released}
use Rattle.guarantee.proofs.turn.by_release.Goals as goal

pub returns : goal.returns
returns c =
    ap (λ (o : TickAnswer). record { state = c.release-released.result.state; answer = o }) c.released_outcome.ensures
    ∙ turn_released c.args.state.now c.args.task c.release-released.result c.release-released.ensures.whole
