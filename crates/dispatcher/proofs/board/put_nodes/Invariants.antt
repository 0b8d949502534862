-- `dispatcher::board::put_nodes`: what is written, with the pairs of the nodes to come, is the whole, and there is room
-- for them.
use Prim.Native.Nat.{◌+◌, ◌*◌}
use lib.ListN.{length}
use lib.Seq.{sets}
use Rattle.nodes.specs.Sets.{members}
use Rattle.dispatcher.specs.Board.{pairs_of}
use Rattle.dispatcher.proofs.Boards.{Written}
use Rattle.dispatcher.proofs.board.put_nodes.Given as goal

abbrev pub invariant-loop-i : goal.invariant-loop-i
invariant-loop-i l =
    Written (sets l.initial.buffer l.at (pairs_of l.task (members 32 l.fn.nodes))) (length l.initial.buffer) l.task l.buffer (l.at + 2 * l.i) l.v-iterator
