-- `dispatcher::board::put_tasks`: the buffer is the board with the blocks of the tasks passed.
use mathlib.Core.Path.{◌≡◌}
use lib.ListN.{length}
use Rattle.dispatcher.proofs.Boards.{Boarding}
use Rattle.dispatcher.proofs.board.put_tasks.Given as goal

abbrev pub invariant-loop-i : goal.invariant-loop-i
invariant-loop-i l = (length l.buffer ≡ length l.initial.buffer) × Boarding l.state l.buffer l.at l.i
