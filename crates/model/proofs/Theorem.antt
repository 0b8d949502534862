-- The theorems, over every list of calls and for every task set whose shares are planned: S10.7 to S10.9 and S10.11,
-- and what is proved beside them. Each joins the laws of its parts.
use mathlib.Core.List.{List}
use Rattle.sheet.specs.declared.task.TaskSet.{TaskSet}
use Rattle.shares.specs.declared.share.Share.{Share}
use Rattle.model.specs.Step.{Call, row_at}
use Rattle.model.specs.Run.{after}
use Rattle.model.specs.Plan.{fresh, Planned}
use Rattle.model.specs.Claim.{OfEveryRun}
use Rattle.model.specs.Beside.{Beside}
use Rattle.model.proofs.Fresh.{lasting}
use Rattle.model.proofs.Starts.{startable}
use Rattle.model.proofs.Capacity.{capacity}
use Rattle.model.proofs.Apart.{releases_apart}
use Rattle.model.proofs.Deadline.{deadline}
use Rattle.model.proofs.Low.{low_deadline}
use Rattle.model.proofs.Kept.{kept_deadline}
use Rattle.model.proofs.Nominal.{nominal}

pub of_every_run : (ts : TaskSet) (shares : List Share) → Planned ts shares → (calls : List Call) → OfEveryRun ts shares calls
of_every_run ts shares planned calls =
    record {
      deadline = deadline ts shares planned calls;
      capacity = capacity ts shares planned calls;
      nominal = nominal ts shares planned calls;
      kept = kept_deadline ts shares planned calls;
    }

pub beside : (ts : TaskSet) (shares : List Share) → Planned ts shares → (calls : List Call) → Beside ts shares calls
beside ts shares planned calls =
    record {
      low = low_deadline ts shares planned calls;
      apart = releases_apart ts shares planned calls;
      lasting = lasting ts shares planned calls;
      startable = λ i. startable (row_at (after (fresh ts shares) calls) i);
    }
