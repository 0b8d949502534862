-- S8.8: Board. Which node each processor runs, as M pairs of bytes.
use Rattle.std.specs.Prelude.{ℕ, suc, ◌-◌, ◌*◌, not, List, [], ◌∷◌, ◌++◌, eqb, length, replicate, flat_map, Ok, Err}
use Rattle.sheet.specs.declared.refusal.Refusal.TheVariants.{NotSound, WrongLength}
use Rattle.sheet.specs.Refusal.{Answer, refused_if, ◌or_else◌}
use Rattle.shares.specs.Totals.{share_total}
use Rattle.model.specs.Row.{Row, running}
use Rattle.model.specs.Step.{Model, granted}
use Rattle.dispatcher.specs.declared.state.State.{State}
use Rattle.dispatcher.specs.Answers.{Boarded}
use Rattle.dispatcher.specs.Holds.{model_of, row_shares}
use Rattle.dispatcher.specs.Sound.{is_sound}

-- S8.8: a byte of a processor that runs nothing.
abbrev pub unused : ℕ
unused = 255

-- S8.8: the pairs of so many processors that run nothing.
unfoldable pub idle : ℕ → List ℕ
idle processors = replicate (2 * processors) unused

-- S8.8: a pair of task and node for each of these nodes of a task.
abbrev pub pairs_of : ℕ → List ℕ → List ℕ
pairs_of task nodes = flat_map (λ v. task ∷ v ∷ []) nodes

-- S8.8: a task's block, as long as what it is granted (S5.4): the running nodes, and behind them processors that run
-- nothing.
unfoldable pub block : ℕ → ℕ → Row → List ℕ
block grant task r = pairs_of task (running grant r) ++ idle (grant - length (running grant r))

-- S5.4: the blocks of these tasks, each with its grant by number, one behind the other; the first is task i.
abbrev pub blocks : (ℕ → ℕ) → ℕ → List Row → List ℕ
blocks grants i [] = []
blocks grants i (r ∷ rows) = block (grants i) i r ++ blocks grants (suc i) rows

-- S8.8: the board: the blocks, and the processors behind all of them.
unfoldable pub board_bytes : ℕ → Model → List ℕ
board_bytes processors m =
    blocks (granted m) 0 m.rows ++ idle (processors - share_total m.critical (row_shares m.rows))

-- S9.10, S9.16: Board's answer, where the buffer has so many bytes.
unfoldable pub board_answer : State → ℕ → Answer
board_answer s bytes =
    refused_if (not (is_sound s)) NotSound
    or_else refused_if (not (eqb bytes (2 * s.processors))) WrongLength

-- S8.8: what Board returns. The state is the one that was handed in.
unfoldable pub boarded_of : State → ℕ → Boarded
boarded_of s bytes = record { state = s; answer = board_answer s bytes }

-- S3.4: what an answer leaves in the buffer: the board if accepted, each byte as it was if refused.
abbrev pub board_left : Answer → State → List ℕ → List ℕ
board_left (Ok x) s buffer = board_bytes s.processors (model_of s)
board_left (Err r) s buffer = buffer

-- S8.8: the buffer after the call.
unfoldable pub board_of : State → List ℕ → List ℕ
board_of s buffer = board_left (board_answer s (length buffer)) s buffer
