-- `planner::plan::write_task`: the stores are those of the definition.
use mathlib.Core.Path.{refl}
use native.Mathlib.Omega.{arith}
use Rattle.planner.proofs.Plans.{task_set}
use Rattle.planner.proofs.plan.write_task.Goals as goal

pub returns : goal.returns
returns c =
    task_set c.args.n c.args.i c.args.a.now c.args.buffer.now _ _ _ _
    c.put_pair.ensures (omega arith)
    c.put_pair-2.ensures (omega arith)
    c.put_u32.ensures (omega arith) (omega arith)
    refl (omega arith)
