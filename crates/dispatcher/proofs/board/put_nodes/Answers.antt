-- `dispatcher::board::put_nodes`: each turn writes the pair of the next node.
use Prim.Native.Nat.{◌+◌, ◌*◌}
use mathlib.Core.Path.{◌≡◌}
use native.Mathlib.Omega.{arith}
use Rattle.dispatcher.proofs.Boards.{pair_node, written_none, written_pair}
use Rattle.dispatcher.proofs.board.put_nodes.Goals as goal

pub loop-i-init : goal.loop-i-init
loop-i-init c =
    let first : c.args.at + 0 ≡ c.args.at = omega arith in
    rw first (written_none _ _ _ _ _ c.iter-v-items.ensures c.requires)

pub overflow_cast-buffer : goal.overflow_cast-buffer
overflow_cast-buffer c = omega (arith, pair_node _ _ _ _ _ _ c.loop-i.invariant _ _ c.in-Some.ensures.steps)

pub loop-i-preserved : goal.loop-i-preserved
loop-i-preserved c =
    let next : c.args.at + 2 * (c.loop-i.i + 1) ≡ c.args.at + 2 * c.loop-i.i + 2 = omega arith in
    rw next (written_pair _ _ _ _ _ _ c.loop-i.invariant _ _ c.in-Some.ensures.steps)
