-- S13.3 to S13.6: the calls on lines and buffers. What each answers, as a word, and what it leaves in the line or
-- buffer that it may write.
use Rattle.std.specs.Prelude.{ℕ, ◌+◌, ◌*◌, ◌%◌, ◌≤◌, true, false, cond, List, [], ◌≡◌, eqb, length}
use Rattle.sheet.specs.Refusal.{Answer}
use Rattle.std.specs.Prelude.{Ok, Err}
use Rattle.sheet.specs.Refusal.{no_task, answer_word}
use Rattle.planner.specs.Plan.{plan_answer, planned}
use Rattle.dispatcher.specs.declared.state.State.{State}
use Rattle.dispatcher.specs.Calls.{release_of, tick_of}
use Rattle.dispatcher.specs.Board.{boarded_of, board_of}
use Rattle.start.specs.Start.{zero_state, start_of}
use Rattle.exports.specs.Ticks.{tick_word}
use Rattle.exports.specs.Words.{state_size, state_words, state_from, is_state}

-- S13.3: a call's answer, and what it leaves.
pub record Called : Type 0 where
  pub word : ℕ
  pub left : List ℕ

-- S13.5: the number of the answer to a line that is no state. The numbers of S9 are below 100.
abbrev pub not_state : ℕ
not_state = 100

-- S13.5: that answer. Nothing is written.
abbrev pub no_state : List ℕ → Called
no_state left = record { word = not_state + 256 * no_task; left = left }

-- S13.3, S13.6: what Start leaves in a line: the words of the fresh state, or the line as it was where the sheet is
-- refused.
abbrev pub start_left : Answer → State → List ℕ → List ℕ
start_left (Ok x) fresh line = state_words fresh
start_left (Err r) fresh line = line

-- S13.3: Start, of a sheet on a line of so many words as a state has. They are not read.
unfoldable pub start_call : List ℕ → List ℕ → Called
start_call sheet line =
    cond (eqb (length line) state_size)
    (record { word = answer_word (start_of sheet).answer; left = start_left (start_of sheet).answer (start_of sheet).state line })
    (no_state line)

-- S13.3: Release of a task, on a line.
unfoldable pub release_call : List ℕ → ℕ → Called
release_call line task =
    cond (is_state line)
    (record { word = answer_word (release_of (state_from line) task).answer; left = state_words (release_of (state_from line) task).state })
    (no_state line)

-- S13.3: Tick with these reports, on a line.
unfoldable pub tick_call : List ℕ → List ℕ → Called
tick_call line reports =
    cond (is_state line)
    (record { word = tick_word (tick_of (state_from line) reports).answer; left = state_words (tick_of (state_from line) reports).state })
    (no_state line)

-- S13.3: Board of a line, in a buffer.
unfoldable pub board_call : List ℕ → List ℕ → Called
board_call line buffer =
    cond (is_state line)
    (record { word = answer_word (boarded_of (state_from line) (length buffer)).answer; left = board_of (state_from line) buffer })
    (no_state buffer)

-- S13.3: Plan of a sheet, in a buffer.
unfoldable pub plan_call : List ℕ → List ℕ → Called
plan_call sheet buffer = record { word = answer_word (plan_answer sheet (length buffer)); left = planned sheet buffer }

-- S13.4: the number in an answer's word.
abbrev pub number_in : ℕ → ℕ
number_in word = word % 256

-- S13.6: if a call's number is not 0, it leaves what stood there.
unfoldable pub Leaves : Called → List ℕ → Type 0
Leaves called before = 1 ≤ number_in called.word → called.left ≡ before

-- S13.6: each call whose number is not 0 leaves each word of the line and each byte of the buffer.
pub record RefusalLeaves : Type 0 where
  pub start : (sheet line : List ℕ) → Leaves (start_call sheet line) line
  pub release : (line : List ℕ) (task : ℕ) → Leaves (release_call line task) line
  pub tick : (line reports : List ℕ) → Leaves (tick_call line reports) line
  pub board : (line buffer : List ℕ) → Leaves (board_call line buffer) buffer
  pub plan : (sheet buffer : List ℕ) → Leaves (plan_call sheet buffer) buffer

-- S13.5: a line that is no state is answered by 100 and 255 before anything else is looked at.
pub record NoStateFirst (line : List ℕ) : Type 0 where
  pub release : (task : ℕ) → release_call line task ≡ no_state line
  pub tick : (reports : List ℕ) → tick_call line reports ≡ no_state line
  pub board : (buffer : List ℕ) → board_call line buffer ≡ no_state buffer

-- S13.8: a line that Start wrote is a state. (`Witness.started` of `guarantee` has a sheet that is accepted.)
unfoldable pub StartTaken : List ℕ → List ℕ → List ℕ → Type 0
StartTaken sheet line left = length line ≡ state_size → (start_of sheet).answer ≡ Ok tt → is_state left ≡ true

-- S13.8: a line that is a state stays one.
pub record StaysState (line : List ℕ) : Type 0 where
  pub release : (task : ℕ) → is_state (release_call line task).left ≡ true
  pub tick : (reports : List ℕ) → is_state (tick_call line reports).left ≡ true

-- S13.2: both kinds of line stand: the words of a state of zeros are one, and no words are none.
pub record SomeStates : Type 0 where
  pub one : is_state (state_words zero_state) ≡ true
  pub none : is_state [] ≡ false
