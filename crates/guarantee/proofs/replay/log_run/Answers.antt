-- `guarantee::replay::log_run`: an empty log has no calls.
use Rattle.guarantee.specs.Encoding.{calls_of, calls_from}
use Rattle.guarantee.proofs.replay.log_run.Goals as goal

pub returns-in-Err : goal.returns-in-Err
unfolding calls_of calls_from
returns-in-Err c = rw c.in-Err.is
