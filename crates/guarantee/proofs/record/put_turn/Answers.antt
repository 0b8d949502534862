-- `guarantee::record::put_turn`: three bytes, and the state behind them.
use mathlib.Core.Path.{◌∙◌}
use Rattle.guarantee.proofs.Records.{turn_stored}
use Rattle.guarantee.proofs.record.put_turn.Goals as goal

pub returns : goal.returns
returns c =
    c.put_state.ensures ∙ turn_stored c.args.out.now c.args.at c.args.turn.now c.outcome_number.ensures (cc) (cc)
