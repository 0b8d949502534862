-- Calls made a number of times on one line, for the benchmarks.
use Rattle.std.specs.Prelude.{ℕ, zero, suc, cond, List, length}
use Rattle.dispatcher.specs.declared.state.State.{State}
use Rattle.dispatcher.specs.Calls.{release_of, tick_of}
use Rattle.dispatcher.specs.Board.{boarded_of, board_of}
use Rattle.sheet.specs.Refusal.{answer_word}
use Rattle.exports.specs.Ticks.{accepted_word, tick_word}
use Rattle.exports.specs.Words.{state_from, is_state}
use Rattle.exports.specs.Calls.{Called, no_state}

-- The word of the last of count ticks with the same reports, each on the state that the one before returned; if there
-- is none, the word that is given.
unfoldable pub ticks_word : ℕ → ℕ → State → List ℕ → ℕ
ticks_word zero word s reports = word
ticks_word (suc count) word s reports = ticks_word count (tick_word (tick_of s reports).answer) (tick_of s reports).state reports

-- The word of the last of count calls that all give the same word; that of an accepted call if there is none.
unfoldable pub last_word : ℕ → ℕ → ℕ
last_word zero word = accepted_word
last_word (suc count) word = word

-- The buffer after count boards of a state, one over the other.
unfoldable pub boards_of : ℕ → State → List ℕ → List ℕ
boards_of zero s buffer = buffer
boards_of (suc count) s buffer = board_of s (boards_of count s buffer)

-- Ticks of a line. The line stays as it is.
unfoldable pub ticks_call : ℕ → List ℕ → List ℕ → Called
ticks_call count line reports =
    cond (is_state line) (record { word = ticks_word count accepted_word (state_from line) reports; left = line }) (no_state line)

-- Releases of a task of a line, each of the line as it stands.
unfoldable pub releases_call : ℕ → List ℕ → ℕ → Called
releases_call count line task =
    cond (is_state line) (record { word = last_word count (answer_word (release_of (state_from line) task).answer); left = line }) (no_state line)

-- Boards of a line, all in one buffer.
unfoldable pub boards_call : ℕ → List ℕ → List ℕ → Called
boards_call count line buffer =
    cond (is_state line)
    (record {
      word = last_word count (answer_word (boarded_of (state_from line) (length buffer)).answer);
      left = boards_of count (state_from line) buffer;
    })
    (no_state buffer)
