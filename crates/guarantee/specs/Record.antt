-- S12.2: what Replay writes for a call: its answer, and what the state then holds, in 4 + 9n bytes.
use Rattle.std.specs.Prelude.{ℕ, List, [], ◌∷◌, ◌++◌, Ok, Err, Option, Some, None, flat_map}
use Rattle.basics.specs.Lists.{bit}
use Rattle.basics.specs.Numbers.{u32_bytes}
use Rattle.sheet.specs.Refusal.{Answer, number, task, number_of, task_of}
use Rattle.model.specs.Row.{Row}
use Rattle.model.specs.Step.{Model, Call}
use Rattle.dispatcher.specs.declared.state.State.{State}
use Rattle.dispatcher.specs.declared.tick.TickAnswer.{TickAnswer}
use Rattle.dispatcher.specs.declared.tick.TickAnswer.TheVariants.{Ran, Switched, Returned, Refused}
use Rattle.dispatcher.specs.Answers.{Ticked, tick_number, tick_task}
use Rattle.dispatcher.specs.Holds.{model_of}
use Rattle.guarantee.specs.Runs.{Said, released, ticked, state_of, said_of}

-- S12.2: the number of an outcome: 0 where a call was accepted or ran, 1 where a tick switched, 2 where a call was refused, 3 where a tick
-- returned.
abbrev pub outcome_number : TickAnswer → ℕ
outcome_number Ran = 0
outcome_number (Switched task) = 1
outcome_number (Refused r) = 2
outcome_number Returned = 3

-- S3.1, S8.7: the number of the refusal of an outcome, if it is one.
abbrev pub refusal_number : TickAnswer → Option ℕ
refusal_number Ran = None
refusal_number (Switched task) = None
refusal_number (Refused r) = Some (number r)
refusal_number Returned = None

-- S3.1, S8.7: the task that an outcome names, that of a switch or of a refusal.
abbrev pub named_task : TickAnswer → Option ℕ
named_task Ran = None
named_task (Switched i) = Some i
named_task (Refused r) = task r
named_task Returned = None

-- S12.2: the outcome of a call, by its answer. A Release ends as a tick that ran, or that was refused.
abbrev pub outcome_of : Said → TickAnswer
outcome_of (released (Ok x)) = Ran
outcome_of (released (Err r)) = Refused r
outcome_of (ticked a) = a

-- S3.1, S8.7: the number of the answer to a call: 0 unless it was refused.
abbrev pub said_number : Said → ℕ
said_number (released a) = number_of a
said_number (ticked a) = tick_number a

-- S3.1, S8.7: the task of the answer to a call: the one that a refusal or a switch names, else 255.
abbrev pub said_task : Said → ℕ
said_task (released a) = task_of a
said_task (ticked a) = tick_task a

-- S12.2: Start's number and task, with which a replay begins.
abbrev pub answer_bytes : Answer → List ℕ
answer_bytes a = number_of a ∷ task_of a ∷ []

-- S12.2: what is held of a task, in 9 bytes: its alive mark, age and ended set.
unfoldable pub task_bytes : Row → List ℕ
task_bytes r = bit r.job.alive ∷ (u32_bytes r.age ++ u32_bytes r.job.ended)

-- S12.2: the same for each task.
abbrev pub rows_bytes : List Row → List ℕ
rows_bytes rows = flat_map task_bytes rows

-- S12.2: what the model holds: whether the mode is critical, then each task.
unfoldable pub model_bytes : Model → List ℕ
model_bytes m = bit m.critical ∷ rows_bytes m.rows

-- S12.2: the record of a call: outcome, number and task, and what is held after it.
unfoldable pub record_of : Said → Model → List ℕ
record_of said m = outcome_number (outcome_of said) ∷ said_number said ∷ said_task said ∷ model_bytes m

-- S12.2: a call before its record is written: its outcome beside the state that it returned.
abbrev pub Turn : Type 0
Turn = Ticked

-- S12.2: what becomes of a call that a state is put to.
unfoldable pub turn_of : State → Call → Turn
turn_of s c = record { state = state_of s c; answer = outcome_of (said_of s c) }

-- S12.2: the record that is then written.
unfoldable pub turn_bytes : Turn → List ℕ
turn_bytes t = outcome_number t.answer ∷ tick_number t.answer ∷ tick_task t.answer ∷ model_bytes (model_of t.state)
