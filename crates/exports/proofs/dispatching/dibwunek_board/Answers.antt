-- `exports::dispatching::dibwunek_board`: no state, or what `board` ensures of the state.
use mathlib.Core.Path.{◌≡◌, sym, ◌∙◌}
use mathlib.Core.Bool.{true}
use Rattle.exports.specs.Words.{is_state}
use Rattle.exports.proofs.Called.{says_none, board_none, board_called}
use Rattle.exports.proofs.dispatching.dibwunek_board.Goals.{Else-not-is_state}
use Rattle.exports.proofs.dispatching.dibwunek_board.Goals as goal

pub returns-then-not-is_state : goal.returns-then-not-is_state
returns-then-not-is_state c =
    let both = says_none c.args.buffer.now (board_none c.args.state.now c.args.buffer.now (sym c.is_state.ensures ∙ c.if-not-is_state.true)) in
    record { answered = both.0; written = both.1 }

-- Past the first test the line is a state.
is : (c : Else-not-is_state) → is_state c.args.state.now ≡ true
is c = sym c.is_state.ensures ∙ c.if-not-is_state.false

pub returns : goal.returns
returns c =
    let both = board_called c.args.state.now c.args.buffer.now (is (goal.at.returns c).Else-not-is_state) _ c.state_from-shown.ensures _ c.board-boarded.ensures.answered _ _ c.answer_word.ensures c.board-boarded.ensures.written in
    record { answered = both.0; written = both.1 }
