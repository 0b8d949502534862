-- `exports::repeating::dibwunek_board_many`: the word is that of the last board made, and the buffer is what the boards
-- made leave.
use Prim.Native.Nat.{◌≤◌}
use mathlib.Core.Path.{◌≡◌}
use lib.ListN.{length}
use Rattle.dispatcher.specs.Board.{boarded_of}
use Rattle.sheet.specs.Refusal.{answer_word}
use Rattle.exports.specs.Words.{state_from}
use Rattle.exports.specs.Repeats.{last_word, boards_of}
use Rattle.exports.proofs.repeating.dibwunek_board_many.Given as goal

abbrev pub invariant-loop : goal.invariant-loop
invariant-loop l =
    (l.counter ≤ l.count)
    × (length l.buffer ≡ length l.initial.buffer)
    × (l.word ≡ last_word l.counter (answer_word (boarded_of (state_from l.state) (length l.initial.buffer)).answer))
    × (l.buffer ≡ boards_of l.counter (state_from l.state) l.initial.buffer)
