-- What the state calls answer (S3.1, S8.7).
use Rattle.std.specs.Prelude.{ℕ, ◌≡◌, Ok, Err, unwrap_or}
use Rattle.sheet.specs.Refusal.{Answer, no_task, number, task}
use Rattle.model.specs.Step.{Answer as ModelAnswer, accepted, ran, switched, returned, refused}
use Rattle.dispatcher.specs.declared.state.Answered.{Answered}
use Rattle.dispatcher.specs.declared.tick.TickAnswer.{TickAnswer}
use Rattle.dispatcher.specs.declared.tick.TickAnswer.TheVariants.{Ran, Switched, Returned, Refused as TickRefused}

-- S3.1: Release's answer. The model answers a Release by the first or the last of its cases; the others are there to be
-- complete.
abbrev pub release_answer : ModelAnswer → Answer
release_answer accepted = Ok tt
release_answer ran = Ok tt
release_answer (switched i) = Ok tt
release_answer returned = Ok tt
release_answer (refused r) = Err r

-- S8.7: Tick's answer. The model never answers a Tick by the first of its cases.
abbrev pub tick_answer : ModelAnswer → TickAnswer
tick_answer accepted = Ran
tick_answer ran = Ran
tick_answer (switched i) = Switched i
tick_answer returned = Returned
tick_answer (refused r) = TickRefused r

-- S8.4: what Release returns: an answer beside the state.
abbrev pub Released : Type 0
Released = Answered Answer

-- S8.8: what Board returns.
abbrev pub Boarded : Type 0
Boarded = Answered Answer

-- S8.7: what Tick returns.
abbrev pub Ticked : Type 0
Ticked = Answered TickAnswer

-- S8.7: the number of a tick's answer: 0 unless it was refused.
abbrev pub tick_number : TickAnswer → ℕ
tick_number Ran = 0
tick_number (Switched i) = 0
tick_number Returned = 0
tick_number (TickRefused r) = number r

-- S8.7: the task of a tick's answer: that of a switch, that of a refusal, and else 255.
abbrev pub tick_task : TickAnswer → ℕ
tick_task Ran = no_task
tick_task (Switched i) = i
tick_task Returned = no_task
tick_task (TickRefused r) = unwrap_or (task r) no_task

-- S8.7: the number and the task that a tick's answer says.
pub record TickSays (a : TickAnswer) (number task : ℕ) : Type 0 where
  pub number_is : tick_number a ≡ number
  pub task_is : tick_task a ≡ task
